-- Two inputs that are alike and not equal: a program that loads a marked word, with two contents of that word.
-- Assumes nothing.
use Prim.Native.Nat.{ℕ, zero, suc, ◌+◌}
use Prim.Native.Char.{code}
use Prim.Native.String.{String, [] as empty, ◌∷◌ as ◌then◌}
use mathlib.Core.Path.{◌≡◌, refl, ap}
use mathlib.Core.Bool.{false, true≢false}
use mathlib.Core.List.{List, [], ◌∷◌, ◌++◌}
use native.Mathlib.Omega.{arith}
use lib.ListN.{get_or}
use Rattle.word.specs.Bits.{put}
use Rattle.marks.specs.Memory.{mark_at, put_marks}
use Rattle.text.specs.Digits.{value_of, digits_read, are_hex}
use Rattle.text.specs.Fields.{tab_of, same_of}
use Rattle.script.specs.Line.{blank, unmarked, pairs_of, put_of, count_of, mark_of, first_of, body_of, line_of}
use Rattle.answer.specs.Whole.{lines_of, left_of, after_lines, begin}
use Rattle.script.specs.declared.Phase.{Phase}
use Rattle.calls.specs.Inputs.{same, bytes, none, more, marks_of, AlikeInputs}

-- a text's bytes
ascii : String → List ℕ
ascii empty = []
ascii (c then s) = code c ∷ ascii s

-- ldr r1 from r0 + 4, where the word stands; it is marked
input : String → List ℕ
input word = ascii "mem\t8\nat\t00000000\t8110f400\nat\t00000004\t" ++ (ascii word ++ ascii "\nmark\t00000004\t4\nrun\t1\n")

pub one : List ℕ
one = input "c0ffee42"

pub other : List ℕ
other = input "0badf00d"

-- bytes 4 to 7 are marked, so their contents may differ
marked : (i : ℕ) → mark_at (marks_of one) (4 + i) ≡ false → get_or (pairs_of (ascii "c0ffee42")) i 0 ≡ get_or (pairs_of (ascii "0badf00d")) i 0
unfolding lines_of after_lines blank unmarked first_of body_of line_of put_of mark_of count_of pairs_of put_marks put tab_of same_of value_of digits_read are_hex one input ascii
marked zero h = absurd (true≢false h)
marked (suc zero) h = absurd (true≢false h)
marked (suc (suc zero)) h = absurd (true≢false h)
marked (suc (suc (suc zero))) h = absurd (true≢false h)
marked (suc (suc (suc (suc i)))) h = refl

pub one_other : AlikeInputs one other
unfolding lines_of left_of value_of digits_read are_hex one other input ascii
one_other =
    record {
      lines =
          more (same _)
          (more (same _)
          (more (bytes 4 (ascii "00000004") (ascii "c0ffee42") (ascii "0badf00d") refl refl refl refl marked) (more (same _) (more (same _) none))));
      ended = refl;
    }

-- the lines are good: memory has 8 bytes, and one step is run
pub good : (after_lines (lines_of [] one) begin).told.phase ≡ Phase.Done 8 1
unfolding lines_of after_lines blank first_of body_of line_of put_of mark_of count_of tab_of same_of value_of digits_read are_hex one input ascii
good = refl

pub unequal : one ≡ other → ⊥
unfolding one other input ascii
unequal e = let z = ap (λ (l : List ℕ). get_or l 43 0) e in omega arith
