-- What every step keeps, every run keeps.
-- Assumes nothing.
use Rattle.std.specs.Prelude.{Err, Ok, Result}
use Prim.Native.Nat.{ℕ, zero, suc, ◌+◌}
use mathlib.Core.List.{List}
use lib.ListN.{get_or}
use Rattle.marks.specs.Memory.{Marks}
use Rattle.machine.specs.Step.{Stepped, stopped, completed, step_of, after}
use Rattle.machine.specs.Run.{Final, go_on, steps_of, judge, judged, run_of}
use Rattle.machine.specs.declared.State.{State}
use Rattle.instruction.specs.declared.Reply.{Reply}

-- P holds of the state after a step from s, if that is completed
abbrev pub After : (State → Type 0) → State → Stepped → Type 0
After P s (stopped r) = Unit {0}
After P s (completed d m k x) = P (after d s)

module _ (P : State → Type 0) (step : (t : ℕ) (s : State) (m : List ℕ) (k : Marks) → P s → After P s (step_of t s m k)) where
  goes_on : (rest : State → List ℕ → Marks → Final) (n : ℕ) (s : State) (m : List ℕ) (k : Marks) (x : Stepped) → P s → After P s x
      → ((u : State) (l : List ℕ) (j : Marks) → P u → P (rest u l j).ended.state) → P (go_on rest n s m k x).ended.state
  unfolding go_on
  goes_on rest n s m k (stopped r) p q h = p
  goes_on rest n s m k (completed d l j x) p q h = h (after d s) l j q

  steps_every : (b n : ℕ) (t : List ℕ) (s : State) (m : List ℕ) (k : Marks) → P s → P (steps_of b n t s m k).ended.state
  unfolding steps_of
  steps_every zero n t s m k p = p
  steps_every (suc b) n t s m k p =
      goes_on (steps_of b (n + 1) t) n s m k (step_of (get_or t n 0) s m k) p (step (get_or t n 0) s m k p) (λ u l j q. steps_every b (n + 1) t u l j q)

  judged_every : (j : Result Unit Reply) (b : ℕ) (t : List ℕ) (s : State) (m : List ℕ) (k : Marks) → P s → P (judged j b t s m k).ended.state
  judged_every (Err r) b t s m k p = p
  judged_every (Ok _) b t s m k p = steps_every b 0 t s m k p

  pub run_every : (b : ℕ) (t : List ℕ) (s : State) (m : List ℕ) (k : Marks) → P s → P (run_of b t s m k).ended.state
  unfolding run_of
  run_every b t s m k p = judged_every (judge b t s m k) b t s m k p
