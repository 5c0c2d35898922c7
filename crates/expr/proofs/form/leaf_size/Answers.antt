use native.Mathlib.Omega.{arith}
use mathlib.Core.Path.{sym, ap, ◌∙◌}
use Rattle.expr.specs.Expr.{size_of}
use Rattle.expr.proofs.form.leaf_size.Goals as goal

pub returns-in-Ok : goal.returns-in-Ok
unfolding size_of
returns-in-Ok c = let h = ap size_of (sym c.leaf.ensures.0 ∙ c.in-Ok.is) in let k = ap size_of c.in-Ok.is in (sym h, omega arith)

pub returns-in-Err : goal.returns-in-Err
unfolding size_of
returns-in-Err c = let h = ap size_of (sym c.leaf.ensures.0 ∙ c.in-Err.is) in (sym h, omega arith)
