use Rattle.expr.specs.Expr.{sign_of}
use native.Mathlib.Omega.{arith}
use borrow.Author.Tests.{eq-eqb, ne_eqb}
use Rattle.expr.proofs.Laws.{byte_within}
use Rattle.expr.proofs.cycle.sign.Goals as goal

pub returns-then-byte-eq45 : goal.returns-then-byte-eq45
unfolding sign_of
returns-then-byte-eq45 c =
    let h = byte_within c.args.s.now 0 _ c.byte.ensures (λ z. omega (arith, c.if-byte-eq45.true)) in
    (rw (← c.byte.ensures, eq-eqb _ _ c.if-byte-eq45.true), omega arith, omega arith)

pub returns-else-byte-eq45 : goal.returns-else-byte-eq45
unfolding sign_of
returns-else-byte-eq45 c = (rw (← c.byte.ensures, ne_eqb _ _ c.if-byte-eq45.false), omega arith, omega arith)
