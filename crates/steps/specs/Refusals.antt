-- The faults behind refusals 1 to 6, in numbers (document 01, "Replies of a run"; document 02, ticket 7).
-- Assumes nothing.
use Rattle.std.specs.Prelude.{ℕ, ◌+◌, ◌*◌, ◌%◌, ◌<◌, ◌≤◌, ◌≡◌, true, List, length, get_or, Err, Ok, Result}
use Rattle.word.specs.Bits.{on}
use Rattle.cpu.specs.declared.Control.{Control}
use Rattle.marks.specs.Memory.{bits, mark_at}
use Rattle.instruction.specs.Reply.{number_of}
use Rattle.instruction.specs.declared.Reply.{Reply}

-- b is the budget, t the tape, c the state's control part, m memory, and k the slice of its marks
pub data Fault (b : ℕ) (t : List ℕ) (c : Control) (m k : List ℕ) : ℕ → Type 0 where
  -- "memory length is 0, above 65,536, or no multiple of 4"
  empty : length m ≡ 0 → Fault b t c m k 1
  large : 65536 < length m → Fault b t c m k 1
  uneven : (length m % 4 ≡ 0 → ⊥) → Fault b t c m k 1
  -- "mark slice of another length": one bit for each byte, and less than a byte of it over
  few_marks : 8 * length k < length m → Fault b t c m k 2
  many_marks : length m + 8 ≤ 8 * length k → Fault b t c m k 2
  -- "a set bit past the memory's end"
  mark_past : (p : ℕ) → length m ≤ p → mark_at (bits k) p ≡ true → Fault b t c m k 3
  -- "odd program counter; PSW bit 12 set; HWDBG bits 0, 1 not both set or a bit of 9 to 31 set; timer pending with TIMER not 0"
  odd : c.pc % 2 ≡ 1 → Fault b t c m k 4
  bit_12 : on c.psw 12 ≡ true → Fault b t c m k 4
  low_bits : (c.hwdbg % 4 ≡ 3 → ⊥) → Fault b t c m k 4
  high_bits : 512 ≤ c.hwdbg → Fault b t c m k 4
  early : c.pending ≡ true → 0 < c.timer → Fault b t c m k 4
  -- "tape shorter than the budget"
  short_tape : length t < b → Fault b t c m k 5
  -- "a byte above 63 among the first 'budget' tape bytes"
  high_line : (i : ℕ) → i < b → 63 < get_or t i 0 → Fault b t c m k 6

-- what is answered of faults: that with the lowest number, and none if there is none
abbrev pub Lowest : (ℕ → Type 0) → Result Unit Reply → Type 0
Lowest F (Err r) = F (number_of r) × ((n : ℕ) → n < number_of r → F n → ⊥)
Lowest F (Ok _) = (n : ℕ) → F n → ⊥
