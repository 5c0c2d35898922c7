-- The listing in a lent buffer, and its refusals (document 02, ticket 1).
-- Assumes nothing.
use Rattle.std.specs.Prelude.{ℕ, ◌%◌, Bool, cond, ◌||◌, List, ◌++◌, ltb, eqb, length, drop, replicate, Err, Ok, Result}
use Rattle.word.specs.Addresses.{byte_sum}
use Rattle.word.specs.declared.ByteAddr.{ByteAddr}
use Rattle.listing.specs.Listing.{entry_at, size_of, line_text, listing_of}
use Rattle.listing.specs.declared.Line.{Line}
use Rattle.listing.specs.declared.Refusal.{Refusal}

-- "20 image over document 01's size limit, or range outside it, odd or reversed"
abbrev pub is_out_of : ℕ → ℕ → ℕ → Bool
is_out_of n s e = ltb 65536 n || eqb (s % 2) 1 || eqb (e % 2) 1 || ltb e s || ltb n e

-- "Refusals, the lent buffer unchanged: 20 ..; then 21 the listing is longer than the buffer"
abbrev pub number_of : Result ℕ Refusal → ℕ
number_of (Ok n) = 0
number_of (Err Refusal.OutOfImage) = 20
number_of (Err Refusal.NoRoom) = 21

-- how many bytes are written
abbrev pub length_of : Result ℕ Refusal → ℕ
length_of (Ok n) = n
length_of (Err Refusal.OutOfImage) = 0
length_of (Err Refusal.NoRoom) = 0

-- what is answered, and the buffer after it
pub record Answered : Type 0 where
  pub listed : Result ℕ Refusal
  pub out : List ℕ

abbrev pub answered : Result ℕ Refusal → List ℕ → Answered
answered x l = record { listed = x; out = l }

-- a text in a lent buffer: "done changes only the first `length` bytes"
abbrev pub put_into : List ℕ → List ℕ → Answered
put_into t l = cond (ltb (length l) (length t)) (answered (Err Refusal.NoRoom) l) (answered (Ok (length t)) (t ++ drop (length t) l))

unfoldable pub listed_of : List ℕ → ℕ → ℕ → List ℕ → Answered
listed_of m s e l = cond (is_out_of (length m) s e) (answered (Err Refusal.OutOfImage) l) (put_into (listing_of m s e) l)

-- one line by value: its text and zeros after it, its length, and the address after it
unfoldable pub line_of : List ℕ → ByteAddr → ℕ → Line
line_of m a e =
    record {
      text = line_text (entry_at m a e) ++ drop (length (line_text (entry_at m a e))) (replicate 48 0);
      length = length (line_text (entry_at m a e));
      next = byte_sum a (size_of (entry_at m a e));
    }
