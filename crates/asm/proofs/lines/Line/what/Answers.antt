use native.Mathlib.Omega.{arith}
use Rattle.forms.proofs.Cuts.{cut_there}
use mathlib.Core.Path.{ap}
use Rattle.forms.specs.Form.{what_at, what_of}
use Rattle.forms.proofs.Mnemonics.{place_found}
use Rattle.asm.proofs.lines.Line.what.Goals as goal

pub part-requires : goal.part-requires
part-requires c = let l = c.args.self.now in let g = cut_there l.text.now l.cut l.is_cut in (omega arith, omega arith)

pub returns : goal.returns
unfolding what_of
returns c = let l = c.args.self.now in let g = cut_there l.text.now l.cut l.is_cut in rw (c.what_of.ensures, c.part.ensures, g.field1) (ap what_at (place_found _ _ c.requires))
