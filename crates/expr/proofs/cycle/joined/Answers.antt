use native.Mathlib.Omega.{arith}
use mathlib.Core.Path.{refl}
use Rattle.std.proofs.lemmas.Result.{err_from_is_err_and}
use Rattle.expr.specs.Expr.{joined_of, size_of}
use Rattle.expr.proofs.cycle.joined.Goals as goal

pub returns-in_err-w : goal.returns-in_err-w
unfolding joined_of size_of
returns-in_err-w c = let p = err_from_is_err_and c.from_residual.result c.from_residual.ensures.1 in rw (p.1, p.2, c.in_err-w.was) (refl, omega arith)

pub returns : goal.returns
unfolding joined_of size_of
returns c = rw (c.combine.ensures, c.in_ok-w.was) (refl, omega arith)
