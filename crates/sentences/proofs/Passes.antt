-- The timer's fall and the cycle count, in numbers.
-- Assumes nothing.
use Prim.Native.Nat.{ℕ, ◌+◌, ◌-◌, ◌<◌, ◌≤◌}
use mathlib.Core.Path.{◌≡◌, refl, ap, ◌∙◌}
use mathlib.Core.Bool.{Bool, true, false, cond, ◌&&◌, ◌||◌, and-false, or-true, or-false}
use native.Mathlib.Omega.{arith}
use lib.Dec.{ltb, leb}
use borrow.Author.Tests.{lt-ltb, le-ltb, le-leb, lt-leb}
use Rattle.cpu.specs.Control.{with_sfr, with_pending, with_timer, with_cycles}
use Rattle.cpu.specs.Entries.{fallen, passed}
use Rattle.cpu.specs.declared.Control.{Control}
use Rattle.sentences.specs.Passes.{Passes}

-- a place that is the same in two control parts, whichever is taken
same_in : {A : Type 0} (place : Control → A) (t : Bool) (a b : Control) → place a ≡ place b → place (cond t a b) ≡ place b
same_in place true a b e = e
same_in place false a b e = refl

module _ (te : Bool) (k : ℕ) (c : Control) where
  fall_off : te ≡ false → fallen te k c ≡ c
  unfolding fallen
  fall_off e = rw e

  fall_zero : c.timer ≡ 0 → fallen te k c ≡ c
  unfolding fallen
  fall_zero e =
      let q : ltb 0 c.timer ≡ false = le-ltb 0 c.timer (omega arith) in
      rw (q, and-false te)

  fall_on : te ≡ true → 0 < c.timer → fallen te k c ≡ with_timer c (c.timer - k) (c.pending || leb c.timer k)
  unfolding fallen
  fall_on e h = rw (e, lt-ltb 0 c.timer h)

  timer_of : {x : Control} → fallen te k c ≡ x → (passed te k c).timer ≡ x.timer
  unfolding passed with_cycles
  timer_of e = ap (λ (u : Control). u.timer) e

  pending_of : {x : Control} → fallen te k c ≡ x → (passed te k c).pending ≡ x.pending
  unfolding passed with_cycles
  pending_of e = ap (λ (u : Control). u.pending) e

  falls_by : te ≡ true → k < c.timer → ((passed te k c).timer + k ≡ c.timer) × ((passed te k c).pending ≡ c.pending)
  unfolding with_sfr with_pending
  falls_by e h =
      let f = fall_on e (omega arith) in
      let t : (passed te k c).timer ≡ c.timer - k = timer_of f in
      let q : leb c.timer k ≡ false = lt-leb c.timer k h in
      (omega (arith, t), pending_of f ∙ rw q (or-false c.pending))

  falls_to : te ≡ true → 0 < c.timer → c.timer ≤ k → ((passed te k c).timer ≡ 0) × ((passed te k c).pending ≡ true)
  unfolding with_sfr with_pending
  falls_to e g h =
      let f = fall_on e g in
      let t : (passed te k c).timer ≡ c.timer - k = timer_of f in
      let q : leb c.timer k ≡ true = le-leb c.timer k h in
      (omega (arith, t), pending_of f ∙ rw q (or-true c.pending))

  pub passes : Passes te k c (passed te k c)
  unfolding passed fallen with_cycles with_sfr with_pending
  passes =
      let t : Bool = te && ltb 0 c.timer in
      let a : Control = with_timer c (c.timer - k) (c.pending || leb c.timer k) in
      record {
        still = λ e. (timer_of (fall_off e), pending_of (fall_off e));
        zero = λ e. (timer_of (fall_zero e) ∙ e, pending_of (fall_zero e));
        falls = falls_by;
        reaches = falls_to;
        cycles = refl;
        pc = same_in (λ (u : Control). u.pc) t a c refl;
        psw = same_in (λ (u : Control). u.psw) t a c refl;
        ra = same_in (λ (u : Control). u.ra) t a c refl;
        ipc = same_in (λ (u : Control). u.ipc) t a c refl;
        ibase = same_in (λ (u : Control). u.ibase) t a c refl;
        usreg = same_in (λ (u : Control). u.usreg) t a c refl;
        hwdbg = same_in (λ (u : Control). u.hwdbg) t a c refl;
        bp0 = same_in (λ (u : Control). u.bp0) t a c refl;
        bp1 = same_in (λ (u : Control). u.bp1) t a c refl;
        wp0 = same_in (λ (u : Control). u.wp0) t a c refl;
        wp1 = same_in (λ (u : Control). u.wp1) t a c refl;
      }
