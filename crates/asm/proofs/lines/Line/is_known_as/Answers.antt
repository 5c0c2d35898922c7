use native.Mathlib.Omega.{arith}
use Rattle.forms.proofs.Cuts.{cut_there}
use Rattle.forms.specs.Form.{is_known_as, is_known_body, fits_shape}
use Rattle.asm.proofs.lines.Line.is_known_as.Goals as goal

pub part-label-requires : goal.part-label-requires
part-label-requires c = let l = c.args.self.now in let g = cut_there l.text.now l.cut l.is_cut in (omega arith, omega arith)

pub returns-then-is_newline : goal.returns-then-is_newline
unfolding is_known_as is_known_body fits_shape
returns-then-is_newline c =
    let l = c.args.self.now in
    let g = cut_there l.text.now l.cut l.is_cut in
    rw (c.is_known.ensures, c.tabs.ensures, c.shape_of.ensures, c.third.ensures, c.second.ensures, c.first.ensures, c.part-label.ensures, g.field0, ← g.ended, ← c.is_newline.ensures, c.if-is_newline.true)

pub returns : goal.returns
unfolding is_known_as
returns c = let l = c.args.self.now in let g = cut_there l.text.now l.cut l.is_cut in rw (← g.ended, ← c.is_newline.ensures, c.if-is_newline.false)
