use Rattle.asm.specs.Assemble.{sum_at, line_value}
use Rattle.asm.proofs.Laws.{sum_by}
use Rattle.asm.proofs.lines.Line.value.Goals as goal

pub returns-then-takes_sum : goal.returns-then-takes_sum
unfolding line_value
returns-then-takes_sum c = rw (sum_by, ← c.takes_sum.ensures, c.if-takes_sum.true, ← c.first.ensures) c.evaluate.ensures

pub returns-then-takes_sum-2 : goal.returns-then-takes_sum-2
unfolding line_value
returns-then-takes_sum-2 c = rw (sum_by _ _ _ (sum_at _ _ _ _), ← c.takes_sum.ensures, c.if-takes_sum.false, sum_by, ← c.takes_sum-2.ensures, c.if-takes_sum-2.true, ← c.second.ensures) c.evaluate-then-takes_sum-2.ensures

pub returns : goal.returns
unfolding line_value
returns c = rw (sum_by _ _ _ (sum_at _ _ _ _), ← c.takes_sum.ensures, c.if-takes_sum.false, sum_by, ← c.takes_sum-2.ensures, c.if-takes_sum-2.false)
