-- One call of the static library: the whole answer, for every input.
-- Assumes nothing.
use Rattle.std.specs.Prelude.{ℕ, cond, List}
use Rattle.marks.specs.Memory.{Marks}
use Rattle.instruction.specs.Reply.{number_of}
use Rattle.machine.specs.Run.{Final, run_of}
use Rattle.abi.specs.Record.{shaped, state_at, record_of}

pub record Answer : Type 0 where
  pub reply : ℕ
  pub steps : ℕ
  pub state : List ℕ
  pub mem : List ℕ
  pub marks : Marks

-- a run's reply by document 01's number, its step count, and what it left
abbrev pub replied : Final → Answer
replied f =
    record { reply = number_of f.ended.reply; steps = f.ended.steps; state = record_of f.ended.state; mem = f.mem; marks = f.marks }

-- what is no record: reply 0, no step, and nothing changes
abbrev pub not_record : List ℕ → List ℕ → Marks → Answer
not_record r m k = record { reply = 0; steps = 0; state = r; mem = m; marks = k }

-- r is the state's record, m memory, k its marks, t the tape, b the budget
unfoldable pub called : List ℕ → List ℕ → Marks → List ℕ → ℕ → Answer
called r m k t b = cond (shaped r) (replied (run_of b t (state_at r) m k)) (not_record r m k)
