-- "Differ only where marked" for two inputs of the small program.
-- Assumes nothing.
use Rattle.std.specs.Prelude.{ℕ, ◌+◌, ◌≡◌, true, false, List, [], ◌∷◌, ◌++◌, length, get_or, Some}
use Rattle.marks.specs.Memory.{Marks, mark_at}
use Rattle.text.specs.Digits.{address_of}
use Rattle.script.specs.Line.{word_at, are_bytes, pairs_of}
use Rattle.answer.specs.Whole.{lines_of, left_of, after_lines, begin, is_ended}

-- `at`, an address and bytes, as they are written
abbrev pub at_line : List ℕ → List ℕ → List ℕ
at_line f h = word_at ++ (9 ∷ (f ++ (9 ∷ h)))

-- A line of each input, where k has a mark for each byte of memory: the same line, or two `at` lines with the same address a and equally many bytes,
-- whose unmarked bytes are equal.
pub data AlikeLine (k : Marks) : List ℕ → List ℕ → Type 0 where
  same : (l : List ℕ) → AlikeLine k l l
  bytes : (a : ℕ) (f g h : List ℕ) → address_of f ≡ Some a → are_bytes g ≡ true → are_bytes h ≡ true → length g ≡ length h
      → ((i : ℕ) → mark_at k (a + i) ≡ false → get_or (pairs_of g) i 0 ≡ get_or (pairs_of h) i 0)
      → AlikeLine k (at_line f g) (at_line f h)

-- line by line
pub data Alike (k : Marks) : List (List ℕ) → List (List ℕ) → Type 0 where
  none : Alike k [] []
  more : {l p : List ℕ} {x y : List (List ℕ)} → AlikeLine k l p → Alike k x y → Alike k (l ∷ x) (p ∷ y)

-- the marks after all lines of an input: "A later `at` overwrites bytes and leaves marks"
abbrev pub marks_of : List ℕ → Marks
marks_of x = (after_lines (lines_of [] x) begin).told.marks

-- two inputs that differ only in the contents of bytes that they mark; both end in a newline, or neither does
pub record AlikeInputs (x y : List ℕ) : Type 0 where
  pub lines : Alike (marks_of x) (lines_of [] x) (lines_of [] y)
  pub ended : is_ended (left_of [] x) ≡ is_ended (left_of [] y)
