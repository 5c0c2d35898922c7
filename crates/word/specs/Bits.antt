-- Bits and fields of a word, by their number from the lowest.
-- Assumes nothing.
use Rattle.std.specs.Prelude.{ℕ, ◌+◌, ◌*◌, ◌/◌, ◌%◌, ◌^◌, Bool, true, false, cond, ◌==◌, nat_le}

-- a flag as a number
abbrev pub num : Bool → ℕ
num true = 1
num false = 0

-- the w bits of p from bit i on
abbrev pub field_of : ℕ → ℕ → ℕ → ℕ
field_of p i w = p / 2 ^ i % 2 ^ w

-- bit i of p is set
abbrev pub on : ℕ → ℕ → Bool
on p i = field_of p i 1 == 1

-- p with those bits replaced by the low w bits of v: what lies above, then v, then what lies below
unfoldable pub put : ℕ → ℕ → ℕ → ℕ → ℕ
put p i w v = (p / 2 ^ (i + w) * 2 ^ w + v % 2 ^ w) * 2 ^ i + p % 2 ^ i

-- the same of a word: a field that does not lie inside its 32 bits is not written
abbrev pub with_field : ℕ → ℕ → ℕ → ℕ → ℕ
with_field p i w v = cond (nat_le (i + w) 32) (put p i w v) p

-- a word with bit i made b
abbrev pub with_bit : ℕ → ℕ → Bool → ℕ
with_bit p i b = with_field p i 1 (num b)
