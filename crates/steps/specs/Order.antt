-- The order of a fetch's tests, as facts: "first half outside, first half marked, not an instruction, second half outside, second half marked" (document 01, "Replies
-- of a run"); "A program counter found odd inside a run answers 13, before all these".
-- Assumes nothing.
use Rattle.std.specs.Prelude.{ℕ, ◌+◌, ◌%◌, ◌^◌, ◌<◌, ◌≤◌, ◌≡◌, true, false, ◌⊎◌, List, length, Err, None, Ok, Option, Result, Some}
use Rattle.isa.specs.Decode.{decode_of}
use Rattle.isa.specs.declared.Instr.{Instr}
use Rattle.isa.specs.declared.Decoded.{Decoded}
use Rattle.marks.specs.Memory.{Marks, mark_at}
use Rattle.instruction.specs.Fetch.{half_at}
use Rattle.instruction.specs.declared.Halt.{Halt}

-- a half at a can be read; it cannot, since a byte of it is outside memory, or since one is marked
abbrev pub Within : ℕ → List ℕ → Type 0
Within a m = a + 2 ≤ length m

abbrev pub Past : ℕ → List ℕ → Type 0
Past a m = length m < a + 2

abbrev pub Clear : ℕ → Marks → Type 0
Clear a k = (mark_at k a ≡ false) × (mark_at k (a + 1) ≡ false)

abbrev pub Marked : ℕ → Marks → Type 0
Marked a k = (mark_at k a ≡ true) ⊎ (mark_at k (a + 1) ≡ true)

-- where the second half is
abbrev pub second : ℕ → ℕ
second a = (a + 2) % 2 ^ 32

-- what the halves at a decode to
abbrev pub says : ℕ → List ℕ → Option Decoded
says a m = decode_of (half_at m (record { 0 = a })) (half_at m (record { 0 = second a }))

pub data Fetches (a : ℕ) (m : List ℕ) (k : Marks) : Result Instr Halt → Type 0 where
  odd : a % 2 ≡ 1 → Fetches a m k (Err Halt.NoInstruction)
  outside : a % 2 ≡ 0 → Past a m → Fetches a m k (Err Halt.FetchOutside)
  marked : a % 2 ≡ 0 → Within a m → Marked a k → Fetches a m k (Err Halt.FetchMarked)
  nothing : a % 2 ≡ 0 → Within a m → Clear a k → says a m ≡ None → Fetches a m k (Err Halt.NoInstruction)
  short : (i : Instr) → a % 2 ≡ 0 → Within a m → Clear a k → says a m ≡ Some (Decoded.Short i) → Fetches a m k (Ok i)
  long_outside : (i : Instr) → a % 2 ≡ 0 → Within a m → Clear a k → says a m ≡ Some (Decoded.Long i) → Past (second a) m → Fetches a m k (Err Halt.FetchOutside)
  long_marked : (i : Instr) → a % 2 ≡ 0 → Within a m → Clear a k → says a m ≡ Some (Decoded.Long i) → Within (second a) m → Marked (second a) k
      → Fetches a m k (Err Halt.FetchMarked)
  long : (i : Instr) → a % 2 ≡ 0 → Within a m → Clear a k → says a m ≡ Some (Decoded.Long i) → Within (second a) m → Clear (second a) k → Fetches a m k (Ok i)
