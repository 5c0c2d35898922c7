-- Bytes, halves and words in memory, the highest byte first (the guide, "Layout of data in memory"); once over the number of bytes.
-- Assumes nothing.
use Rattle.std.specs.Prelude.{ℕ, zero, suc, ◌+◌, ◌*◌, ◌/◌, ◌%◌, Bool, false, cond, ◌||◌, List, [], ◌∷◌, length, nat_le, nat_lt, slice_index, slice_set}
use Rattle.word.specs.declared.ByteAddr.{ByteAddr}
use Rattle.word.specs.declared.Width.{Width}

abbrev pub bytes_of : Width → ℕ
bytes_of Width.Byte = 1
bytes_of Width.Half = 2
bytes_of Width.Word = 4

-- the n bytes at a lie inside m
abbrev pub inside : List ℕ → ByteAddr → ℕ → Bool
inside m a n = nat_le (a.0 + n) (length m)

-- the number that the n bytes at a make, the first the highest
unfoldable pub load : ℕ → List ℕ → ℕ → ℕ
load zero m a = 0
load (suc n) m a = load n m a * 256 + slice_index m (a + n)

-- m with the n bytes at a made the low n bytes of v, the last the lowest
unfoldable pub store : ℕ → List ℕ → ℕ → ℕ → List ℕ
store zero m a v = m
store (suc n) m a v = store n (slice_set m (a + n) (v % 256)) a (v / 256)

-- The same by width, for every address: what does not lie inside reads as 0, and writing there changes nothing.
abbrev pub load_of : Width → List ℕ → ByteAddr → ℕ
load_of w m a = cond (inside m a (bytes_of w)) (load (bytes_of w) m a.0) 0

abbrev pub store_of : Width → List ℕ → ByteAddr → ℕ → List ℕ
store_of w m a v = cond (inside m a (bytes_of w)) (store (bytes_of w) m a.0 v) m

-- a number above n in a list
unfoldable pub any_above : ℕ → List ℕ → Bool
any_above n [] = false
any_above n (x ∷ l) = nat_lt n x || any_above n l
