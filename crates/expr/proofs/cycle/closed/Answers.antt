use native.Mathlib.Omega.{arith}
use mathlib.Core.Path.{refl}
use borrow.Author.Tests.{eq-eqb, ne_eqb}
use Rattle.std.proofs.lemmas.Result.{err_from_is_err_and}
use Rattle.expr.specs.Expr.{closed_of, size_of}
use Rattle.expr.proofs.Laws.{byte_within}
use Rattle.expr.proofs.cycle.closed.Goals as goal

pub returns-in_err-v : goal.returns-in_err-v
unfolding closed_of size_of
returns-in_err-v c = let p = err_from_is_err_and c.from_residual.result c.from_residual.ensures.1 in rw (p.1, p.2, c.in_err-v.was) (refl, omega arith)

pub overflow_add-result : goal.overflow_add-result
overflow_add-result c = let h = byte_within c.args.s.now _ _ c.byte.ensures (λ z. omega (arith, c.if-byte-eq41.true)) in omega arith

pub returns-then-byte-eq41 : goal.returns-then-byte-eq41
unfolding closed_of size_of
returns-then-byte-eq41 c =
    let h = byte_within c.args.s.now _ _ c.byte.ensures (λ z. omega (arith, c.if-byte-eq41.true)) in
    rw (c.in_ok-v.was, ← c.byte.ensures, eq-eqb _ _ c.if-byte-eq41.true) (refl, omega arith)

pub returns : goal.returns
unfolding closed_of size_of
returns c = rw (c.in_ok-v.was, ← c.byte.ensures, ne_eqb _ _ c.if-byte-eq41.false) (refl, omega arith)
