-- Both layouts of memory's marks (document 02, ticket 7); read this file alone with specs/. The proofs are in the files that it cites.
-- Assumes nothing.
use Prim.Native.Nat.{ℕ}
use mathlib.Core.Path.{◌≡◌}
use mathlib.Core.List.{List}
use lib.ListN.{length}
use Rattle.marks.specs.Memory.{Marks}
use Rattle.machine.specs.Step.{step_of}
use Rattle.machine.specs.Run.{run_of}
use Rattle.machine.specs.Trace.{shown_of}
use Rattle.machine.specs.declared.State.{State}
use Rattle.layouts.specs.Layouts.{Formed, SameMarks, copied, SameStep, SameEnd}
use Rattle.layouts.proofs.Places.{copy_same}
use Rattle.layouts.proofs.Step.{step_same}
use Rattle.layouts.proofs.Run.{run_same, shown_same}

-- 1. "both layouts of the same well-formed marks give equal reply, state, memory and marks at each step", and the same line: k and j are slices of either
-- layout, bits or bytes, and are compared position by position.
pub each_step : (t : ℕ) (s : State) (m : List ℕ) (k j : Marks) → SameMarks (length m) k j → SameStep (step_of t s m k) (step_of t s m j)
each_step t s m k j h = step_same m h t s

-- 2. So over a run: the same reply, steps, state, cycles and memory, the same marks, and the same trace.
pub each_run : (b : ℕ) (t : List ℕ) (s : State) (m : List ℕ) (k j : Marks) → SameMarks (length m) k j
    → SameEnd (run_of b t s m k) (run_of b t s m j) × (shown_of b t s m k ≡ shown_of b t s m j)
each_run b t s m k j h = (run_same b t s m k j h, shown_same b t s m k j h)

-- 3. There are such pairs: well-formed marks k, copied position by position into any well-formed slice z, of the other layout or of the same.
pub either_way : (n : ℕ) (k z : Marks) → Formed n k → Formed n z → SameMarks n k (copied n k z)
either_way n k z f g = copy_same n k z f g
