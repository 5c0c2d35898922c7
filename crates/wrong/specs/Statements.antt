-- Two statements on a model: what demand 2 says of it, and what demand 3's two-run part alone says of it.
-- Assumes nothing.
use Rattle.std.specs.Prelude.{ℕ, ◌≡◌, List}
use Rattle.marks.specs.Memory.{Marks}
use Rattle.machine.specs.Run.{run_of}
use Rattle.machine.specs.declared.State.{State}
use Rattle.secrecy.specs.Same.{SameMem, Same, SameFinal}
use Rattle.wrong.specs.Models.{Model}

-- demand 2, as the contract of `machine::run` has it: the answer, memory and marks are those of run_of, for every input
unfoldable pub IsRun : Model → Type 0
IsRun w = (b : ℕ) (t : List ℕ) (s : State) (m : List ℕ) (k : Marks) → w b t s m k ≡ run_of b t s m k

-- Demand 3's two runs, without what they show on the way, which a model of this type does not tell: with equal budget, tape and marks, and states and
-- memories that differ only where marked, they give the same reply and count and end with equal marks and equal unmarked contents
unfoldable pub TwoRuns : Model → Type 0
TwoRuns w = (b : ℕ) (t : List ℕ) (a c : State) (m n : List ℕ) (k : Marks) → Same a c → SameMem k m n → SameFinal (w b t a m k) (w b t c n k)
