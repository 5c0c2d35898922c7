use Rattle.asm.specs.Parts.{check_sure}
use Rattle.asm.proofs.lines.Line.check.Goals.{then-sure-via-then-sure, then-sure-via-else-sure+then-is_known_as}
use Rattle.asm.proofs.lines.Line.check.Goals as goal

pub returns-then-sure : goal.returns-then-sure
unfolding check_sure
returns-then-sure c = elim c.then-sure.branch [
  | then-sure-via-then-sure w ↦ rw (c.value_check.ensures, c.check-label.ensures, c.label.ensures, c.value-value.ensures, c.shape_of.ensures, w.if-sure.true)
  | then-sure-via-else-sure+then-is_known_as w ↦ rw (c.value_check.ensures, c.check-label.ensures, c.label.ensures, c.value-value.ensures, c.shape_of.ensures, w.if-sure.false, ← w.is_known_as.ensures, w.if-is_known_as.true)
]

pub returns : goal.returns
unfolding check_sure
returns c = rw (c.if-sure.false, ← c.is_known_as.ensures, c.if-is_known_as.false)
