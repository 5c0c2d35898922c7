use native.Mathlib.Omega.{arith}
use mathlib.Core.Path.{◌∙◌}
use Rattle.forms.proofs.Cuts.{cut_there}
use Rattle.asm.proofs.lines.Line.first.Goals as goal

pub part-requires : goal.part-requires
part-requires c = let l = c.args.self.now in let g = cut_there l.text.now l.cut l.is_cut in (omega arith, omega arith)

pub returns : goal.returns
returns c = let l = c.args.self.now in let g = cut_there l.text.now l.cut l.is_cut in c.part.ensures ∙ g.field2
