-- What each line of an input does (document 01, "The program").
-- Assumes nothing.
use Rattle.std.specs.Prelude.{ℕ, ◌+◌, ◌/◌, ◌%◌, Bool, true, cond, ◌&&◌, ◌||◌, List, [], ◌∷◌, ltb, leb, eqb, length, replicate, None, Option, Some}
use Rattle.std.proofs.lemmas.List.Edits.{sets}
use Rattle.text.specs.Digits.{decimal_of, address_of, are_hex, pair_of}
use Rattle.text.specs.Fields.{before_of, beyond_of, same_of}
use Rattle.marks.specs.Memory.{Marks, bits, put_marks}
use Rattle.script.specs.declared.Phase.{Phase}

-- the room for memory, and the tape: 16,384 bytes, all zero at the start
unfoldable pub blank : List ℕ
blank = replicate 16384 0

-- the room for the marks of so many bytes, a bit for each: none is marked at the start
unfoldable pub unmarked : Marks
unmarked = bits (replicate 2048 0)

-- what is known after some lines
pub record Told : Type 0 where
  pub phase : Phase
  pub mem : List ℕ
  pub marks : Marks

abbrev pub told : Phase → List ℕ → Marks → Told
told p m k = record { phase = p; mem = m; marks = k }

-- "`mem` size (decimal, first line, up to 16,384)"
abbrev pub size_of : Option ℕ → Phase
size_of None = Phase.Bad
size_of (Some n) = cond (leb n 16384) (Phase.Body n) Phase.Bad

-- "`run` budget (decimal, up to 16,384, last line)"
abbrev pub budget_of : Option ℕ → ℕ → Phase
budget_of None n = Phase.Bad
budget_of (Some b) n = cond (leb b 16384) (Phase.Done n b) Phase.Bad

-- "hex is lower case, 1 to 16 bytes a line"
abbrev pub is_even : ℕ → Bool
is_even n = eqb (n % 2) 0

abbrev pub are_bytes : List ℕ → Bool
are_bytes h = are_hex h && (is_even (length h) && (leb 2 (length h) && leb (length h) 32))

unfoldable pub pairs_of : List ℕ → List ℕ
pairs_of [] = []
pairs_of (c ∷ []) = []
pairs_of (c ∷ d ∷ h) = pair_of c d ∷ pairs_of h

-- "`at` address (8 hex digits) and hex bytes"; n is memory's size. "A later `at` overwrites bytes and leaves marks"
unfoldable pub put_of : Option ℕ → List ℕ → ℕ → List ℕ → Marks → Told
put_of None h n m k = told Phase.Bad m k
put_of (Some a) h n m k =
    cond (are_bytes h && leb (a + length h / 2) n) (told (Phase.Body n) (sets m a (pairs_of h)) k) (told Phase.Bad m k)

-- "`mark` address and decimal count": c bytes from a on become marked, if they are inside memory of n bytes; no byte at all is inside it anywhere
unfoldable pub count_of : ℕ → Option ℕ → ℕ → List ℕ → Marks → Told
count_of a None n m k = told Phase.Bad m k
count_of a (Some c) n m k = cond (eqb c 0 || leb (a + c) n) (told (Phase.Body n) m (put_marks c k a true)) (told Phase.Bad m k)

unfoldable pub mark_of : Option ℕ → Option ℕ → ℕ → List ℕ → Marks → Told
mark_of None c n m k = told Phase.Bad m k
mark_of (Some a) c n m k = count_of a c n m k

-- the four words
abbrev pub word_mem : List ℕ
word_mem = 109 ∷ 101 ∷ 109 ∷ []

abbrev pub word_at : List ℕ
word_at = 97 ∷ 116 ∷ []

abbrev pub word_mark : List ℕ
word_mark = 109 ∷ 97 ∷ 114 ∷ 107 ∷ []

abbrev pub word_run : List ℕ
word_run = 114 ∷ 117 ∷ 110 ∷ []

-- the first line
unfoldable pub first_of : List ℕ → Phase
first_of l = cond (same_of (before_of l) word_mem) (size_of (decimal_of (beyond_of l))) Phase.Bad

-- a line after it, r its fields beyond the word
unfoldable pub body_of : List ℕ → List ℕ → ℕ → List ℕ → Marks → Told
body_of w r n m k =
    cond (same_of w word_at) (put_of (address_of (before_of r)) (beyond_of r) n m k)
    (cond (same_of w word_mark) (mark_of (address_of (before_of r)) (decimal_of (beyond_of r)) n m k)
    (cond (same_of w word_run) (told (budget_of (decimal_of r) n) m k)
    (told Phase.Bad m k)))

-- a line, without its newline, in each phase; "anything after" `run` is bad
unfoldable pub line_of : Phase → List ℕ → List ℕ → Marks → Told
line_of Phase.First l m k = told (first_of l) m k
line_of (Phase.Body n) l m k = body_of (before_of l) (beyond_of l) n m k
line_of (Phase.Done n b) l m k = told Phase.Bad m k
line_of Phase.Bad l m k = told Phase.Bad m k

-- the number of the line after line n; the last 64-bit number stays
abbrev pub next_number : ℕ → ℕ
next_number n = cond (ltb n 18446744073709551615) (n + 1) n

-- "the line number from 1": a good line's is followed by the next, and a bad line's is kept
abbrev pub number_after : Phase → ℕ → ℕ
number_after Phase.First n = next_number n
number_after (Phase.Body a) n = next_number n
number_after (Phase.Done a b) n = next_number n
number_after Phase.Bad n = n
