-- An input as a whole: its lines one after the other, and what the program writes.
-- Assumes nothing.
use Rattle.std.specs.Prelude.{ℕ, Bool, cond, List, [], ◌∷◌, ◌++◌, eqb, length}
use Rattle.script.specs.Line.{Told, told, blank, unmarked, line_of, number_after}
use Rattle.script.specs.Reader.{Fed, feed_of}
use Rattle.answer.specs.Answer.{answered}
use Rattle.script.specs.declared.Phase.{Phase}

-- "Every line ends in a newline": the lines of an input, l the bytes of the first that came already, and what is left after the last newline
unfoldable pub lines_of : List ℕ → List ℕ → List (List ℕ)
lines_of l [] = []
lines_of l (b ∷ t) = cond (eqb b 10) (l ∷ lines_of [] t) (lines_of (l ++ (b ∷ [])) t)

unfoldable pub left_of : List ℕ → List ℕ → List ℕ
left_of l [] = l
left_of l (b ∷ t) = cond (eqb b 10) (left_of [] t) (left_of (l ++ (b ∷ [])) t)

-- what is known, and the number of the next line, or of the bad one
pub record Script : Type 0 where
  pub told : Told
  pub number : ℕ

abbrev pub script : Told → ℕ → Script
script t n = record { told = t; number = n }

abbrev pub after_line : List ℕ → Script → Script
after_line l s =
    script (line_of s.told.phase l s.told.mem s.told.marks)
    (number_after (line_of s.told.phase l s.told.mem s.told.marks).phase s.number)

unfoldable pub after_lines : List (List ℕ) → Script → Script
after_lines [] s = s
after_lines (l ∷ ls) s = after_lines ls (after_line l s)

abbrev pub begin : Script
begin = script (told Phase.First blank unmarked) 1

-- nothing is left after the last newline
abbrev pub is_ended : List ℕ → Bool
is_ended l = eqb (length l) 0

-- what the program writes for an input
unfoldable pub text_of : List ℕ → List ℕ
text_of input =
    (answered (after_lines (lines_of [] input) begin).told.phase (is_ended (left_of [] input)) (after_lines (lines_of [] input) begin).number
    (after_lines (lines_of [] input) begin).told.mem
    (after_lines (lines_of [] input) begin).told.marks).text

-- ---- parts

-- an input's bytes, and the parts fed one after the other
unfoldable pub joined : List (List ℕ) → List ℕ
joined [] = []
joined (p ∷ ps) = p ++ joined ps

unfoldable pub feed_all : List (List ℕ) → Fed → Fed
feed_all [] s = s
feed_all (p ∷ ps) s = feed_all ps (feed_of p s)
