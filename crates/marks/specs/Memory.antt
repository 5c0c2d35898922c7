-- Marks of memory, in two layouts: bits, which the code has ("Store one bit for each byte, lowest address in the lowest bit", document 02, ticket 7), and
-- document 01's bytes ("0 or 1 for each byte"), for the theorem that both are the same marks (crate layouts). What follows the layouts goes by position
-- and is the same for both: position i is that of memory's byte i.
-- Assumes nothing.
use Rattle.std.specs.Prelude.{ℕ, zero, suc, ◌+◌, ◌-◌, ◌/◌, ◌%◌, Bool, false, not, ◌||◌, List, ltb, eqb, length, get_or, set}
use Rattle.word.specs.Bits.{num, on, put}
use Rattle.word.specs.Bytes.{bytes_of, any_above}
use Rattle.word.specs.declared.ByteAddr.{ByteAddr}
use Rattle.word.specs.declared.Width.{Width}

pub data Marks : Type 0 where
  bits : List ℕ → Marks
  bytes : List ℕ → Marks

-- ---- one mark, by layout

-- position i is marked; what has no place in the slice is not
abbrev pub mark_at : Marks → ℕ → Bool
mark_at (bits k) i = on (get_or k (i / 8) 0) (i % 8)
mark_at (bytes k) i = ltb 0 (get_or k i 0)

-- position i made b
abbrev pub mark_put : Marks → ℕ → Bool → Marks
mark_put (bits k) i b = bits (set k (i / 8) (put (get_or k (i / 8) 0) (i % 8) 1 (num b)))
mark_put (bytes k) i b = bytes (set k i (num b))

-- ---- the marks of some bytes, once for both

-- one of the n positions from i on is marked
unfoldable pub any_mark : ℕ → Marks → ℕ → Bool
any_mark zero k i = false
any_mark (suc n) k i = any_mark n k i || mark_at k (i + n)

-- each of them made b
unfoldable pub put_marks : ℕ → Marks → ℕ → Bool → Marks
put_marks zero k i b = k
put_marks (suc n) k i b = mark_put (put_marks n k i b) (i + n) b

-- "any byte loaded"
abbrev pub marked_at : Width → Marks → ByteAddr → Bool
marked_at w k a = any_mark (bytes_of w) k a.0

-- "A stored byte takes the register's mark, so an unmarked store clears one"
abbrev pub mark_all : Width → Marks → ByteAddr → Bool → Marks
mark_all w k a b = put_marks (bytes_of w) k a.0 b

-- ---- refusals 2 and 3, where n is memory's length

-- "mark slice of another length": "the memory length divided by 8, rounded up"
abbrev pub bad_room : ℕ → Marks → Bool
bad_room n (bits k) = not (eqb (length k) ((n + 7) / 8))
bad_room n (bytes k) = not (eqb (length k) n)

-- "a set bit past the memory's end", in the byte that holds position n; "a mark byte above 1"
abbrev pub bad_mark : ℕ → Marks → Bool
bad_mark n (bits k) = any_mark (8 - n % 8) (bits k) n
bad_mark n (bytes k) = any_above 1 k
