-- What a completed step leaves of the registers, and how a run counts.
-- Assumes nothing.
use Rattle.std.specs.Prelude.{Err, Ok, Result}
use Prim.Native.Nat.{ℕ, zero, suc, ◌+◌, ◌<◌}
use mathlib.Core.Path.{◌≡◌, refl}
use mathlib.Core.Bool.{Bool, true, false, cond}
use mathlib.Core.List.{List}
use native.Mathlib.Omega.{arith}
use lib.Dec.{eqb}
use lib.ListN.{length, get_or, set}
use lib.Seq.{get_or-set_same, get_or-set_other}
use borrow.Author.Tests.{eqb-true, eqb-false}
use Rattle.marks.specs.Memory.{Marks}
use Rattle.machine.specs.Step.{Stepped, stopped, completed, step_of, after}
use Rattle.machine.specs.Run.{go_on, steps_of, judge, judged, run_of}
use Rattle.machine.specs.declared.State.{State}
use Rattle.machine.specs.declared.Done.{Done}
use Rattle.steps.specs.Runs.{Counts, used_up, stops}
use Rattle.instruction.specs.declared.Reply.{Reply}

-- ---- one place of a list written

place : {A : Type 0} (l : List A) (i j : ℕ) (v z : A) → j < length l → get_or (set l i v) j z ≡ cond (eqb j i) v (get_or l j z)
place l i j v z h = go (eqb j i) refl
  where
    go : (b : Bool) → eqb j i ≡ b → get_or (set l i v) j z ≡ cond b v (get_or l j z)
    go true e = let q : j ≡ i = eqb-true _ _ e in rw (← q) (get_or-set_same l j v z h)
    go false e = get_or-set_other l i j v z (eqb-false _ _ e)

module _ (d : Done) (s : State) (r : ℕ) where
  pub value_after : r < length s.regs → get_or (after d s).regs r 0 ≡ cond (eqb r d.reg) d.value (get_or s.regs r 0)
  unfolding after
  value_after h = place s.regs d.reg r d.value 0 h

  pub mark_after : r < length s.marks → get_or (after d s).marks r false ≡ cond (eqb r d.reg) d.mark (get_or s.marks r false)
  unfolding after
  mark_after h = place s.marks d.reg r d.mark false h

-- ---- the count of a run

-- n steps are made and b may follow
counts_on : (b n : ℕ) (t : List ℕ) (s : State) (m : List ℕ) (k : Marks) (x : Stepped) → step_of (get_or t n 0) s m k ≡ x
    → ((u : State) (l : List ℕ) (j : Marks) → Counts (n + 1 + b) t (steps_of b (n + 1) t u l j)) → Counts (n + suc b) t (go_on (steps_of b (n + 1) t) n s m k x)
unfolding go_on
counts_on b n t s m k (stopped r) e h = stops (omega arith) e
counts_on b n t s m k (completed d l j z) e h = let q : n + 1 + b ≡ n + suc b = omega arith in rw q at (h (after d s) l j)

counts : (b n : ℕ) (t : List ℕ) (s : State) (m : List ℕ) (k : Marks) → Counts (n + b) t (steps_of b n t s m k)
unfolding steps_of
counts zero n t s m k = used_up refl (omega arith)
counts (suc b) n t s m k = counts_on b n t s m k (step_of (get_or t n 0) s m k) refl (λ u l j. counts b (n + 1) t u l j)

module _ (b : ℕ) (t : List ℕ) (s : State) (m : List ℕ) (k : Marks) where
  pub run_counts : judge b t s m k ≡ Ok tt → Counts b t (run_of b t s m k)
  unfolding run_of
  run_counts e = let q : 0 + b ≡ b = omega arith in rw e (rw q at (counts b 0 t s m k))

-- the result repeats the cycle count, however the run ends
repeats : (b n : ℕ) (t : List ℕ) (s : State) (m : List ℕ) (k : Marks) → (steps_of b n t s m k).ended.cycles ≡ (steps_of b n t s m k).ended.state.control.cycles
unfolding steps_of go_on
repeats zero n t s m k = refl
repeats (suc b) n t s m k = go (step_of (get_or t n 0) s m k) (λ u l j. repeats b (n + 1) t u l j)
  where
    go : (x : Stepped) → ((u : State) (l : List ℕ) (j : Marks) → (steps_of b (n + 1) t u l j).ended.cycles ≡ (steps_of b (n + 1) t u l j).ended.state.control.cycles)
        → (go_on (steps_of b (n + 1) t) n s m k x).ended.cycles ≡ (go_on (steps_of b (n + 1) t) n s m k x).ended.state.control.cycles
    go (stopped r) h = refl
    go (completed d l j z) h = h (after d s) l j

pub run_repeats : (b : ℕ) (t : List ℕ) (s : State) (m : List ℕ) (k : Marks) → (run_of b t s m k).ended.cycles ≡ (run_of b t s m k).ended.state.control.cycles
unfolding run_of
run_repeats b t s m k = go (judge b t s m k)
  where
    go : (j : Result Unit Reply) → (judged j b t s m k).ended.cycles ≡ (judged j b t s m k).ended.state.control.cycles
    go (Err r) = refl
    go (Ok _) = repeats b 0 t s m k
