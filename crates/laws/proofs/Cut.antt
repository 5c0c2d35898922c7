-- A run of a + b steps is a run of a, and then of b from what it left.
-- Assumes nothing.
use Prim.Native.Nat.{ℕ, zero, suc, ◌+◌}
use mathlib.Core.Path.{◌≡◌, refl, ap, ◌∙◌}
use mathlib.Core.Bool.{false}
use mathlib.Core.List.{List}
use native.Mathlib.Omega.{arith}
use lib.Dec.{eqb}
use lib.ListN.{get_or}
use Rattle.marks.specs.Memory.{Marks}
use Rattle.machine.specs.Step.{Stepped, stopped, completed, step_of, after}
use Rattle.machine.specs.Run.{Final, go_on, steps_of}
use Rattle.machine.specs.declared.State.{State}
use Rattle.laws.specs.Replies.{Stops, fetch_marked, no_instruction, marked_operand}
use Rattle.laws.specs.Cut.{resume}
use Rattle.laws.proofs.Stops.{StepStops, step_stops}

-- no step stops with 10
not_ten : {n : ℕ} → Stops n → eqb n 10 ≡ false
not_ten fetch_marked = refl
not_ten no_instruction = refl
not_ten marked_operand = refl

-- the step that stops, and the step that goes on
resume_on : (b : ℕ) (t : List ℕ) (more rest : State → List ℕ → Marks → Final) (i : ℕ) (s : State) (m : List ℕ) (k : Marks) (x : Stepped) → StepStops x
    → ((u : State) (l : List ℕ) (j : Marks) → more u l j ≡ resume b t (rest u l j)) → go_on more i s m k x ≡ resume b t (go_on rest i s m k x)
unfolding go_on resume
resume_on b t more rest i s m k (stopped r) p h = rw (not_ten p)
resume_on b t more rest i s m k (completed d l j x) p h = h (after d s) l j

pub cut : (a b i : ℕ) (t : List ℕ) (s : State) (m : List ℕ) (k : Marks) → steps_of (a + b) i t s m k ≡ resume b t (steps_of a i t s m k)
unfolding steps_of resume
cut zero b i t s m k =
    let e : 0 + b ≡ b = omega arith in
    ap (λ (n : ℕ). steps_of n i t s m k) e
cut (suc a) b i t s m k =
    let e : suc a + b ≡ suc (a + b) = omega arith in
    ap (λ (n : ℕ). steps_of n i t s m k) e
    ∙ resume_on b t (steps_of (a + b) (i + 1) t) (steps_of a (i + 1) t) i s m k (step_of (get_or t i 0) s m k) (step_stops (get_or t i 0) s m k)
    (λ u l j. cut a b (i + 1) t u l j)
