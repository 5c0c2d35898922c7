use Rattle.text.specs.Pages.{page}
use Rattle.text.proofs.Pages.{write_in, write_none, write_past}
use lib.ListN.{length}
use mathlib.Core.Path.{◌≡◌, sym, ap, ◌∙◌}
use Prim.Native.Nat.{ℕ, ◌+◌}
use native.Mathlib.Omega.{arith}
use Rattle.text.proofs.writing.put_all.Goals as goal

pub returns-then-out-from : goal.returns-then-out-from
returns-then-out-from c = sym (write_past _ _ _ (omega (arith, c.if-out-from.true)))

pub loop-i-preserved : goal.loop-i-preserved
loop-i-preserved c = sym (write_in _ _ _ _ c.loop-i-test.true (omega (arith, c.if-out-from.false, c.if-out-from-2.false))) ∙ c.loop-i.invariant

pub returns : goal.returns
returns c =
    let all : length c.args.s.now ≡ c.loop-i.i = omega arith in
    ap (λ (n : ℕ). page c.loop-i.out (c.args.from + n)) all ∙ sym (write_none _ _ _ c.loop-i-test.false) ∙ c.loop-i.invariant
