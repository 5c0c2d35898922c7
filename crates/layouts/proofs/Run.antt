-- Runs with the same marks in two layouts, step after step.
-- Assumes nothing.
use Rattle.std.specs.Prelude.{Err, Ok, Result}
use Prim.Native.Nat.{ℕ, zero, suc, ◌+◌}
use mathlib.Core.Path.{◌≡◌, refl, ap, ◌∙◌}
use mathlib.Core.List.{List, ◌∷◌}
use lib.ListN.{length, get_or}
use Rattle.marks.specs.Memory.{Marks}
use Rattle.machine.specs.Step.{Stepped, after}
use Rattle.machine.specs.Run.{Final, judge, go_on, steps_of, judged, run_of}
use Rattle.machine.specs.Trace.{Shown, trace_on, trace_of, shown, shown_of}
use Rattle.machine.specs.declared.State.{State}
use Rattle.layouts.specs.Layouts.{SameMarks, SameStep, stops, goes, SameEnd}
use Rattle.layouts.proofs.Step.{step_same}
use Rattle.instruction.specs.declared.Reply.{Reply}

-- ---- the steps

go_on_lem : (rest : State → List ℕ → Marks → Final) → ((u : State) (l : List ℕ) (p q : Marks) → SameMarks (length l) p q → SameEnd (rest u l p) (rest u l q))
    → (n : ℕ) (s : State) (m : List ℕ) (k j : Marks) → SameMarks (length m) k j → {x y : Stepped} → SameStep x y → SameEnd (go_on rest n s m k x) (go_on rest n s m j y)
unfolding go_on
go_on_lem rest ih n s m k j h (stops r) = record { ended = refl; mem = refl; marks = h }
go_on_lem rest ih n s m k j h (goes d l x g) = ih (after d s) l _ _ g

steps_same : (b n : ℕ) (t : List ℕ) (s : State) (m : List ℕ) (k j : Marks) → SameMarks (length m) k j → SameEnd (steps_of b n t s m k) (steps_of b n t s m j)
unfolding steps_of
steps_same zero n t s m k j h = record { ended = refl; mem = refl; marks = h }
steps_same (suc b) n t s m k j h = go_on_lem (steps_of b (n + 1) t) (steps_same b (n + 1) t) n s m k j h (step_same m h (get_or t n 0) s)

trace_on_lem : (rest : State → List ℕ → Marks → List Shown) → ((u : State) (l : List ℕ) (p q : Marks) → SameMarks (length l) p q → rest u l p ≡ rest u l q)
    → (s : State) {x y : Stepped} → SameStep x y → trace_on rest s x ≡ trace_on rest s y
unfolding trace_on
trace_on_lem rest ih s (stops r) = refl
trace_on_lem rest ih s (goes d l x g) = ap (λ (z : List Shown). record { line = x; cycles = d.control.cycles } ∷ z) (ih (after d s) l _ _ g)

trace_same : (b n : ℕ) (t : List ℕ) (s : State) (m : List ℕ) (k j : Marks) → SameMarks (length m) k j → trace_of b n t s m k ≡ trace_of b n t s m j
unfolding trace_of
trace_same zero n t s m k j h = refl
trace_same (suc b) n t s m k j h = trace_on_lem (trace_of b (n + 1) t) (trace_same b (n + 1) t) s (step_same m h (get_or t n 0) s)

-- ---- the runs

module _ (b : ℕ) (t : List ℕ) (s : State) (m : List ℕ) (k j : Marks) (h : SameMarks (length m) k j) where
  -- neither slice is refused, and the other refusals don't look at it
  judge_same : judge b t s m k ≡ judge b t s m j
  unfolding judge
  judge_same = rw (h.left.room, h.left.rest, h.right.room, h.right.rest)

  judged_same : (g : Result Unit Reply) → SameEnd (judged g b t s m k) (judged g b t s m j)
  judged_same (Err r) = record { ended = refl; mem = refl; marks = h }
  judged_same (Ok _) = steps_same b 0 t s m k j h

  pub run_same : SameEnd (run_of b t s m k) (run_of b t s m j)
  unfolding run_of
  run_same = rw judge_same (judged_same (judge b t s m j))

  shown_by : (g : Result Unit Reply) → shown g b t s m k ≡ shown g b t s m j
  shown_by (Err r) = refl
  shown_by (Ok _) = trace_same b 0 t s m k j h

  pub shown_same : shown_of b t s m k ≡ shown_of b t s m j
  unfolding shown_of
  shown_same = ap (λ (g : Result Unit Reply). shown g b t s m k) judge_same ∙ shown_by (judge b t s m j)
