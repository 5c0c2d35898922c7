use native.Mathlib.Omega.{arith}
use mathlib.Core.Path.{refl, ap}
use borrow.Author.Tests.{eq-eqb, ne_eqb}
use Rattle.std.proofs.lemmas.Result.{err_from_is_err_and}
use Rattle.expr.specs.Expr.{signed_of, size_of}
use Rattle.expr.proofs.cycle.signed.Goals as goal

pub returns-in_err-w : goal.returns-in_err-w
unfolding signed_of size_of
returns-in_err-w c = let p = err_from_is_err_and c.from_residual.result c.from_residual.ensures.1 in rw (p.1, p.2, c.in_err-w.was) (refl, omega arith)

pub returns-then-k-eq0 : goal.returns-then-k-eq0
unfolding signed_of size_of
returns-then-k-eq0 c = rw (c.in_ok-w.was, eq-eqb _ _ c.if-k-eq0.true) (refl, omega arith)

pub overflow_add-result : goal.overflow_add-result
unfolding size_of
overflow_add-result c = let h = ap size_of c.in_ok-w.was in omega arith

pub returns : goal.returns
unfolding signed_of size_of
returns c = rw (c.combine.ensures, c.in_ok-w.was, ne_eqb _ _ c.if-k-eq0.false) (refl, omega arith)
