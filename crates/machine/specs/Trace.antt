-- The trace of a run: what its completed steps showed, in order.
-- Assumes nothing.
use Rattle.std.specs.Prelude.{ℕ, zero, suc, ◌+◌, List, [], ◌∷◌, get_or, Err, Ok, Result}
use Rattle.marks.specs.Memory.{Marks}
use Rattle.machine.specs.Step.{Stepped, stopped, completed, step_of, after}
use Rattle.machine.specs.Run.{judge}
use Rattle.machine.specs.declared.State.{State}
use Rattle.machine.specs.declared.Line.{Line}
use Rattle.instruction.specs.declared.Reply.{Reply}

-- what a completed step shows: its line, and the cycle count after it (document 02, ticket 6: "Demand 3 then also promises equal cycle counts")
pub record Shown : Type 0 where
  pub line : Line
  pub cycles : ℕ

-- from state s on, as go_on of Run.antt
unfoldable pub trace_on : (State → List ℕ → Marks → List Shown) → State → Stepped → List Shown
trace_on rest s (stopped r) = []
trace_on rest s (completed d m k x) = record { line = x; cycles = d.control.cycles } ∷ rest (after d s) m k

unfoldable pub trace_of : ℕ → ℕ → List ℕ → State → List ℕ → Marks → List Shown
trace_of zero n t s m k = []
trace_of (suc b) n t s m k = trace_on (trace_of b (n + 1) t) s (step_of (get_or t n 0) s m k)

-- a refused run shows nothing
abbrev pub shown : Result Unit Reply → ℕ → List ℕ → State → List ℕ → Marks → List Shown
shown (Err r) b t s m k = []
shown (Ok _) b t s m k = trace_of b 0 t s m k

unfoldable pub shown_of : ℕ → List ℕ → State → List ℕ → Marks → List Shown
shown_of b t s m k = shown (judge b t s m k) b t s m k
