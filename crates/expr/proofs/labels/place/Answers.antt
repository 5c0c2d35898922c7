use Rattle.expr.proofs.Names.{placed_in, placed_past}
use Rattle.expr.proofs.labels.place.Goals as goal

pub returns-then-i-labels : goal.returns-then-i-labels
returns-then-i-labels c = placed_in c.args.labels.now c.args.k c.first-i.result c.first-i.ensures.place _ c.if-i-labels.true

pub returns-else-i-labels : goal.returns-else-i-labels
returns-else-i-labels c = placed_past c.args.labels.now c.args.k c.first-i.result c.first-i.ensures.place c.if-i-labels.false
