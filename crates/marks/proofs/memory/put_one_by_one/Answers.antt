use mathlib.Core.Path.{sym}
use Rattle.marks.proofs.Places.{puts_more, puts_zero}
use Rattle.marks.proofs.memory.put_one_by_one.Goals as goal

pub loop-i-init : goal.loop-i-init
loop-i-init c = sym (puts_zero _ _ _)

pub loop-i-preserved : goal.loop-i-preserved
loop-i-preserved c = rw (puts_more, ← c.loop-i.invariant) c.put_mark_at.ensures
