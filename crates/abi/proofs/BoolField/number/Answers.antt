use Rattle.std.proofs.Common.{◌≡◌, Bool, true, false, refl, ◌∙◌}
use Rattle.std.specs.Int.{from_bool}
use Rattle.word.specs.Bits.{num}
use Rattle.abi.proofs.BoolField.number.Goals as goal

same_number : (b : Bool) → from_bool b ≡ num b
same_number true = refl
same_number false = refl

pub returns : goal.returns
returns c = c.from.ensures ∙ same_number c.args.self
