-- The state as a record of 160 bytes, words with the highest byte first; include/manik.h has the same table.
-- Assumes nothing.
use Rattle.std.specs.Prelude.{ℕ, zero, suc, ◌+◌, ◌/◌, ◌%◌, ◌^◌, ◌<◌, ◌≡◌, Bool, cond, not, ◌&&◌, ltb, eqb, length, get_or, take, drop, replicate}
use mathlib.Core.List.{List, [], ◌∷◌, ◌++◌, map, flatten}
use Rattle.word.specs.Bits.{num}
use Rattle.word.specs.Bytes.{load_of}
use Rattle.word.specs.declared.Width.{Width}
use Rattle.cpu.specs.declared.Control.{Control}
use Rattle.marks.specs.declared.Flags.{Flags}
use Rattle.word.specs.Bytes.{any_above}
use Rattle.machine.specs.declared.State.{State}

-- ---- a state from a record, by offset

abbrev pub word_at : List ℕ → ℕ → ℕ
word_at r a = load_of Width.Word r (record { 0 = a })

abbrev pub flag_at : List ℕ → ℕ → Bool
flag_at r a = ltb 0 (load_of Width.Byte r (record { 0 = a }))

-- n of them from a on, k bytes apart
unfoldable pub each : {A : Type 0} → (ℕ → A) → ℕ → ℕ → ℕ → List A
each f k zero a = []
each f k (suc n) a = f a ∷ each f k n (a + k)

unfoldable pub control_at : List ℕ → Control
control_at r = record {
  pc = word_at r 80;
  psw = word_at r 84;
  pending = flag_at r 90;
  ra = word_at r 92;
  ipc = word_at r 96;
  timer = word_at r 100;
  ibase = word_at r 104;
  usreg = word_at r 108;
  hwdbg = word_at r 112;
  bp0 = word_at r 116;
  bp1 = word_at r 120;
  wp0 = word_at r 124;
  wp1 = word_at r 128;
  cycles = word_at r 132;
}

unfoldable pub state_at : List ℕ → State
state_at r = record {
  regs = each (word_at r) 4 16 0;
  marks = each (flag_at r) 1 16 64;
  flags = record { tf = flag_at r 88; cy = flag_at r 89 };
  control = control_at r;
}

-- ---- a record from a state, part by part in the order of the bytes

-- the low n bytes of v, the highest first
unfoldable pub bytes : ℕ → ℕ → List ℕ
bytes zero v = []
bytes (suc n) v = bytes n (v / 256) ++ (v % 256 ∷ [])

-- n bytes for each number
unfoldable pub laid : ℕ → List ℕ → List ℕ
laid n [] = []
laid n (v ∷ l) = bytes n v ++ laid n l

abbrev pub words : List ℕ → List ℕ
words l = laid 4 l

abbrev pub flags : List Bool → List ℕ
flags l = laid 1 (map num l)

abbrev pub zeros : ℕ → List ℕ
zeros n = replicate n 0

-- SFR 1 to 10, and the cycle count
abbrev pub later_words : Control → List ℕ
later_words c = c.ra ∷ c.ipc ∷ c.timer ∷ c.ibase ∷ c.usreg ∷ c.hwdbg ∷ c.bp0 ∷ c.bp1 ∷ c.wp0 ∷ c.wp1 ∷ c.cycles ∷ []

-- what follows the registers and their marks, from byte 80 on
unfoldable pub control_part : Flags → Control → List ℕ
control_part f c =
    flatten
    (words (c.pc ∷ c.psw ∷ [])
    ∷ flags (f.tf ∷ f.cy ∷ c.pending ∷ [])
    ∷ zeros 1
    ∷ words (later_words c)
    ∷ zeros 24
    ∷ [])

unfoldable pub record_of : State → List ℕ
record_of s = words s.regs ++ (flags s.marks ++ control_part s.flags s.control)

-- r with the state written over it, if it has a record's length
abbrev pub record_in : State → List ℕ → List ℕ
record_in s r = cond (eqb (length r) 160) (record_of s) r

-- ---- which lists are records

-- none of the n bytes at a is above the limit
abbrev pub within : ℕ → ℕ → ℕ → List ℕ → Bool
within limit a n r = not (any_above limit (take n (drop a r)))

-- the length, marks and flags of 0 or 1, and zero where zero stands
unfoldable pub shaped : List ℕ → Bool
shaped r = eqb (length r) 160 && within 1 64 16 r && within 1 88 3 r && within 0 91 1 r && within 0 136 24 r

-- ---- for the theorems

-- a state of sixteen registers and marks, each number a word; what the code's types allow
pub record InRange (s : State) : Type 0 where
  pub regs : length s.regs ≡ 16
  pub marks : length s.marks ≡ 16
  pub values : (i : ℕ) → get_or s.regs i 0 < 2 ^ 32
  pub counter : s.control.pc < 2 ^ 32
  pub psw : s.control.psw < 2 ^ 32
  pub later : (i : ℕ) → get_or (later_words s.control) i 0 < 2 ^ 32

-- each number a byte
abbrev pub Bytes : List ℕ → Type 0
Bytes r = (i : ℕ) → get_or r i 0 < 256
