-- Words that the theorems on a listing are stated in (proofs/Theorems.antt has the statements).
-- Assumes nothing.
use Rattle.std.specs.Prelude.{ℕ, zero, suc, ◌+◌, ◌-◌, ◌%◌, ◌<◌, ◌≤◌, ◌≡◌, cond, List, [], ◌∷◌, ◌++◌, eqb, length, get_or, Err, Ok, Option, Result}
use Rattle.word.specs.declared.ByteAddr.{ByteAddr}
use Rattle.isa.specs.Decode.{decode_of}
use Rattle.isa.specs.declared.Decoded.{Decoded}
use Rattle.text.specs.Digits.{half_text, pair_of}
use Rattle.text.specs.Fields.{same_of}
use Rattle.listing.specs.Names.{name_at}
use Rattle.listing.specs.Listing.{row_text, half_in, second_in, cut_by, entry_at, size_of, second_text, listing_of}
use Rattle.listing.specs.Parts.{Good}
use Rattle.listing.specs.declared.Entry.{Entry}
use Rattle.listing.specs.declared.Refusal.{Refusal}

-- a memory of bytes
abbrev pub Bytes : List ℕ → Type 0
Bytes m = (i : ℕ) → get_or m i 0 < 256

-- column k of a text, the columns of all its lines joined; f tabs of the line have come
unfoldable pub column_of : ℕ → ℕ → List ℕ → List ℕ
column_of k f [] = []
column_of k f (c ∷ l) =
    cond (eqb c 10) (column_of k 0 l)
    (cond (eqb c 9) (column_of k (suc f) l)
    (cond (eqb f k) (c ∷ column_of k f l) (column_of k f l)))

-- a part of each line, joined
unfoldable pub joined : (Entry → List ℕ) → List Entry → List ℕ
joined part [] = []
joined part (x ∷ l) = part x ++ joined part l

-- a line's bits
abbrev pub bits_text : Entry → List ℕ
bits_text x = half_text x.first ++ second_text x.shown.long x.second

-- hex digits read as bytes, two digits each
unfoldable pub bytes_read : List ℕ → List ℕ
bytes_read [] = []
bytes_read (c ∷ []) = []
bytes_read (c ∷ d ∷ l) = pair_of c d ∷ bytes_read l

-- lines from a to e: each begins where the one before it ended, and none is empty
abbrev pub Cover : ℕ → List Entry → ℕ → Type 0
Cover a [] e = a ≡ e
Cover a (x ∷ l) e = (x.at.0 ≡ a) × (2 ≤ size_of x) × Cover (a + size_of x) l e

-- mnemonic and operands of the line at a, in a range that ends at e
abbrev pub said_at : List ℕ → ByteAddr → ℕ → List ℕ
said_at m a e = name_at (entry_at m a e).shown.place ++ row_text (entry_at m a e).shown.row

-- the instruction there, or none: no instruction, or cut by the end
abbrev pub found_at : List ℕ → ByteAddr → ℕ → Option Decoded
found_at m a e = cut_by e a (decode_of (half_in m a) (second_in m a (half_in m a)))

-- the place of a mnemonic: the first of the last n places that has this name; 82 if none has
unfoldable pub place_in : ℕ → List ℕ → ℕ
place_in zero t = 82
place_in (suc n) t = cond (same_of (name_at (82 - suc n)) t) (82 - suc n) (place_in n t)

abbrev pub place_named : List ℕ → ℕ
place_named t = place_in 82 t

-- ---- refusals: "20 image over document 01's size limit, or range outside it, odd or reversed; then 21 the listing is longer than the buffer"

-- n is the image's length
pub data Outside (n s e : ℕ) : Type 0 where
  large : 65536 < n → Outside n s e
  odd_start : s % 2 ≡ 1 → Outside n s e
  odd_end : e % 2 ≡ 1 → Outside n s e
  reversed : e < s → Outside n s e
  past : n < e → Outside n s e

-- what is answered for the range of image m from s to e and a buffer of size bytes
abbrev pub Answers : List ℕ → ℕ → ℕ → ℕ → Result ℕ Refusal → Type 0
Answers m s e size (Err Refusal.OutOfImage) = Outside (length m) s e
Answers m s e size (Err Refusal.NoRoom) = Good (length m) s e × (size < length (listing_of m s e))
Answers m s e size (Ok k) = Good (length m) s e × (length (listing_of m s e) ≤ size) × (k ≡ length (listing_of m s e))
