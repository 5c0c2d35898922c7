use Rattle.expr.specs.Expr.{value_of}
use Rattle.expr.proofs.cycle.evaluate.Goals as goal

pub returns : goal.returns
unfolding value_of
returns c = c.sum.ensures.0
