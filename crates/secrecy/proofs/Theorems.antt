-- Demand 3; read this file alone with specs/. The proof is in the files that it cites.
-- Assumes nothing.
use Prim.Native.Nat.{ℕ}
use mathlib.Core.Path.{◌≡◌}
use mathlib.Core.List.{List}
use Rattle.marks.specs.Memory.{Marks}
use Rattle.machine.specs.Run.{run_of}
use Rattle.machine.specs.declared.Ended.{Ended}
use Rattle.machine.specs.declared.State.{State}
use Rattle.machine.specs.Trace.{shown_of}
use Rattle.secrecy.specs.Same.{SameMem, Same, SameFinal}
use Rattle.secrecy.proofs.Run.{ends_same, shown_same}

-- Two runs with equal budget b, tape t and marks (Same and k), whose states a and c and memories m and n differ only in marked registers, flags and
-- bytes. They give the same answer and step count, end with equal marks and equal unmarked contents (SameFinal), and show the same program counters,
-- entries and data addresses, step for step. Every b, t and k: refused runs too.
pub two_runs : (b : ℕ) (t : List ℕ) (a c : State) (m n : List ℕ) (k : Marks) → Same a c → SameMem k m n
    → SameFinal (run_of b t a m k) (run_of b t c n k) × (shown_of b t a m k ≡ shown_of b t c n k)
two_runs b t a c m n k s mem = (ends_same b t a c m n k s mem, shown_same b t a c m n k s mem)

-- The same of two calls of `machine::run`, from what its contract ensures: an answer, a memory and marks at exit for each call.
module _ (b : ℕ) (t : List ℕ) (a c : State) (m n : List ℕ) (k : Marks) (e f : Ended) (p q : List ℕ) (l r : Marks) where
  pub two_calls : Same a c → SameMem k m n
      → (e ≡ (run_of b t a m k).ended) × (p ≡ (run_of b t a m k).mem) × (l ≡ (run_of b t a m k).marks)
      → (f ≡ (run_of b t c n k).ended) × (q ≡ (run_of b t c n k).mem) × (r ≡ (run_of b t c n k).marks)
      → SameFinal (record { ended = e; mem = p; marks = l }) (record { ended = f; mem = q; marks = r })
  two_calls s mem x y = rw (x.0, x.1, x.2, y.0, y.1, y.2) (ends_same b t a c m n k s mem)
