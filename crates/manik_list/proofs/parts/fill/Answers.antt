use Rattle.std.proofs.Common.{arith}
use Rattle.manik_list.proofs.Laws.{next_low, filled_more}
use Rattle.manik_list.proofs.parts.fill.Goals as goal

pub loop-n-smaller : goal.loop-n-smaller
loop-n-smaller c = omega (arith, next_low _ _ c.requires.1 _ c.if-at-end.true _ c.line_at-line.ensures)

pub loop-n-preserved : goal.loop-n-preserved
loop-n-preserved c =
    filled_more _ _ c.requires.1 _ c.if-at-end.true _ c.line_at-line.ensures _ _ _ _ _ _ c.start_part.ensures c.put_all-n.ensures (omega arith) c.loop-n.invariant
