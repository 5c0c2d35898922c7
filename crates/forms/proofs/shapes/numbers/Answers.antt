use mathlib.Core.Path.{refl}
use Rattle.listing.specs.Names.{names, letters_in, name_at}
use Rattle.expr.specs.Expr.{key_from}
use Rattle.forms.specs.Form.{named_from, mnemonics}
use Rattle.forms.proofs.shapes.numbers.Goals as goal

pub returns : goal.returns
unfolding mnemonics named_from name_at names letters_in key_from
returns c = refl
