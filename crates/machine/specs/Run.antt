-- A run under a budget, with its refusals (document 01, "Replies of a run").
-- Assumes nothing.
use Rattle.std.specs.Prelude.{ℕ, zero, suc, ◌+◌, ◌%◌, Bool, cond, not, ◌||◌, List, ltb, eqb, length, get_or, take, Err, Ok, Result}
use Rattle.marks.specs.Memory.{Marks, bad_room, bad_mark}
use Rattle.word.specs.Bytes.{any_above}
use Rattle.instruction.specs.declared.Reply.{Reply}
use Rattle.machine.specs.State.{out_of_form}
use Rattle.machine.specs.Step.{Stepped, stopped, completed, step_of, after}
use Rattle.machine.specs.declared.State.{State}
use Rattle.machine.specs.declared.Ended.{Ended}

pub record Final : Type 0 where
  pub ended : Ended
  pub mem : List ℕ
  pub marks : Marks

-- "a cycle count .. in the state ..; the result repeats it" (document 02, ticket 6)
abbrev pub final : Reply → ℕ → State → List ℕ → Marks → Final
final r n s m k = record { ended = record { state = s; steps = n; reply = r; cycles = s.control.cycles }; mem = m; marks = k }

-- "1 memory length is 0, above 65,536, or no multiple of 4"
abbrev pub bad_length : ℕ → Bool
bad_length n = eqb n 0 || ltb 65536 n || not (eqb (n % 4) 0)

-- refusals 1 to 6, in this order; t is the tape, b the budget
unfoldable pub judge : ℕ → List ℕ → State → List ℕ → Marks → Result Unit Reply
judge b t s m k =
    cond (bad_length (length m)) (Err Reply.MemoryLength)
    (cond (bad_room (length m) k) (Err Reply.MarkLength)
    (cond (bad_mark (length m) k) (Err Reply.MarkPastEnd)
    (cond (out_of_form s.control) (Err Reply.Form)
    (cond (ltb (length t) b) (Err Reply.TapeLength)
    (cond (any_above 63 (take b t)) (Err Reply.TapeByte)
    (Ok tt))))))

-- n steps are made, and then s, m and k are there; the next step stops and changes nothing, or is completed and the run goes on
unfoldable pub go_on : (State → List ℕ → Marks → Final) → ℕ → State → List ℕ → Marks → Stepped → Final
go_on rest n s m k (stopped r) = final r n s m k
go_on rest n s m k (completed d l j x) = rest (after d s) l j

-- b more steps may be made
unfoldable pub steps_of : ℕ → ℕ → List ℕ → State → List ℕ → Marks → Final
steps_of zero n t s m k = final Reply.Budget n s m k
steps_of (suc b) n t s m k = go_on (steps_of b (n + 1) t) n s m k (step_of (get_or t n 0) s m k)

-- "Replies 1 to 6 return steps 0 and leave state, memory and marks as given"
abbrev pub judged : Result Unit Reply → ℕ → List ℕ → State → List ℕ → Marks → Final
judged (Err r) b t s m k = final r 0 s m k
judged (Ok _) b t s m k = steps_of b 0 t s m k

unfoldable pub run_of : ℕ → List ℕ → State → List ℕ → Marks → Final
run_of b t s m k = judged (judge b t s m k) b t s m k
