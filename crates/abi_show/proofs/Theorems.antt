-- What a look shows is what the run of that step shows; read this file alone with specs/.
-- Assumes nothing.
use Rattle.std.specs.Prelude.{Err, None, Ok, Option, Result, Some}
use Prim.Native.Nat.{ℕ}
use mathlib.Core.Path.{◌≡◌, refl, sym, ◌∙◌}
use mathlib.Core.List.{List, [], ◌∷◌, map}
use Rattle.marks.specs.Memory.{Marks}
use Rattle.machine.specs.Step.{Stepped, stopped, completed, step_of}
use Rattle.machine.specs.Run.{judge}
use Rattle.machine.specs.Trace.{Shown, trace_on, trace_of, shown, shown_of}
use Rattle.machine.specs.declared.State.{State}
use Rattle.machine.specs.declared.Line.{Line}
use Rattle.trace.specs.Seen.{seen_in}
use Rattle.abi_show.specs.Show.{unless_refused, look_of, show_of}
use Rattle.instruction.specs.declared.Reply.{Reply}

-- the lines of a trace, and of a look
abbrev lines_of : List Shown → List Line
lines_of l = map (λ x. x.line) l

abbrev lines_in : Option Line → List Line
lines_in None = []
lines_in (Some x) = x ∷ []

-- 1. The lines of a run with a budget of 1 are the line of the look, or none.
pub look_is_the_run : (t : ℕ) (s : State) (m : List ℕ) (k : Marks) → lines_of (shown_of 1 (t ∷ []) s m k) ≡ lines_in (look_of t s m k)
unfolding shown_of look_of trace_of trace_on
look_is_the_run t s m k = go (judge 1 (t ∷ []) s m k)
  where
    one : (x : Stepped) → lines_of (trace_on (λ u l j. []) s x) ≡ lines_in (seen_in x)
    one (stopped r) = refl
    one (completed d l j x) = refl

    go : (j : Result Unit Reply) → lines_of (shown j 1 (t ∷ []) s m k) ≡ lines_in (unless_refused j (seen_in (step_of t s m k)))
    go (Err r) = refl
    go (Ok _) = one (step_of t s m k)

-- 2. What manik_show ensures of its result and of the line's room determines them.
abbrev Ensured : List ℕ → List ℕ → Marks → ℕ → List ℕ → ℕ → List ℕ → Type 0
Ensured r m k t l n o = (n ≡ (show_of r m k t l).found) × (o ≡ (show_of r m k t l).line)

pub show_determined : (r m : List ℕ) (k : Marks) (t : ℕ) (l : List ℕ) (n i : ℕ) (o p : List ℕ) → Ensured r m k t l n o → Ensured r m k t l i p → (n ≡ i) × (o ≡ p)
show_determined r m k t l n i o p u v = (u.0 ∙ sym v.0, u.1 ∙ sym v.1)
