-- A part that only the contracts of this crate's helpers cite; proofs/Places.antt ties it to the marks.
-- Assumes nothing.
use Rattle.std.specs.Prelude.{ℕ, ◌+◌, ◌/◌, ◌%◌, Bool, ◌&&◌, List, ltb, leb, eqb, length, get_or}

-- the n positions from i on lie in one byte of the slice, and it is 0
abbrev pub is_clear : ℕ → List ℕ → ℕ → Bool
is_clear n k i = leb (i % 8 + n) 8 && (ltb (i / 8) (length k) && eqb (get_or k (i / 8) 0) 0)
