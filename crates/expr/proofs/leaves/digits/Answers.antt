use native.Mathlib.Omega.{arith}
use mathlib.Core.Path.{sym, ap, ◌∙◌}
use Prim.Native.Nat.{ℕ}
use mathlib.Core.List.{List}
use lib.ListN.{length}
use Rattle.text.specs.Digits.{digits_read}
use Rattle.expr.specs.Expr.{size_of, counted}
use Rattle.expr.proofs.Digits.{digit_on, digit_stop, digit_none}
use Rattle.expr.proofs.Laws.{rest_of}
use Rattle.expr.proofs.leaves.digits.Goals as goal

pub loop-c-init : goal.loop-c-init
loop-c-init c = ap (λ (l : List ℕ). counted (length c.args.w.now) (digits_read c.args.base 0 l)) (rest_of c.args.w.now c.args.from)

pub returns-then-base-d : goal.returns-then-base-d
unfolding size_of
returns-then-base-d c = (sym (digit_stop _ _ _ c.loop-c-test.true _ _ _ c.value-d.ensures.0 c.if-base-d.true) ∙ c.loop-c.invariant, omega arith)

pub loop-c-preserved : goal.loop-c-preserved
loop-c-preserved c = sym (digit_on _ _ _ c.loop-c-test.true _ _ _ c.value-d.ensures.0 c.requires.0 c.if-base-d.false _ c.grown-v.ensures) ∙ c.loop-c.invariant

pub returns : goal.returns
unfolding size_of
returns c = (rw c.write.ensures (sym (digit_none _ _ _ c.loop-c-test.false _ _)) ∙ c.loop-c.invariant, omega arith)
