-- Words of digits are read whole.
-- Assumes nothing.
use Rattle.std.specs.Prelude.{Some, Ok}
use Prim.Native.Nat.{ℕ, zero, suc, ◌+◌, ◌/◌, ◌%◌, ◌^◌, ◌<◌, ◌≤◌}
use mathlib.Core.Path.{◌≡◌, refl, ap, ◌∙◌}
use mathlib.Core.Bool.{Bool, true, false, cond, ◌&&◌, ◌||◌}
use mathlib.Core.List.{List, [], ◌∷◌, ◌++◌}
use native.Mathlib.Omega.{arith}
use lib.Dec.{ltb, leb, eqb}
use lib.ListN.{length, get_or, drop}
use lib.Seq.{take-length}
use borrow.Author.Tests.{ltb-true, ltb-false, lt-ltb, le-leb, leb-true, lt-leb, ne_eqb}
use Rattle.isa.proofs.Rows.{and_left, and_right}
use Rattle.text.specs.Digits.{glyph_of, digits_read, digits_of, zeros_of, leading_zero, decimal_text, half_text}
use Rattle.text.specs.Words.{ascii}
use Rattle.text.proofs.Theorems.{digits_length, read_decimal, read_written, unled, decimal_some}
use Rattle.listing.proofs.Laws.{half_digits}
use Rattle.expr.specs.Expr.{Labels, is_letter, is_digit, run_of, is_hex, counted, word_read, leaf_of}
use Rattle.expr.specs.Value.{written}
use Rattle.expr.specs.Expr.{Read}
use Rattle.columns.proofs.Plain.{both}

-- ---- decimal digits

unfoldable pub are_digits : List ℕ → Bool
are_digits [] = true
are_digits (c ∷ l) = is_digit c && are_digits l

digits_append : (a b : List ℕ) → are_digits a ≡ true → are_digits b ≡ true → are_digits (a ++ b) ≡ true
unfolding are_digits
digits_append [] b e f = f
digits_append (c ∷ a) b e f = both _ _ (and_left (is_digit c) (are_digits a) e) (digits_append a b (and_right (is_digit c) (are_digits a) e) f)

digits_drop : (n : ℕ) (l : List ℕ) → are_digits l ≡ true → are_digits (drop n l) ≡ true
unfolding are_digits
digits_drop zero l e = e
digits_drop (suc n) [] e = e
digits_drop (suc n) (c ∷ l) e = digits_drop n l (and_right (is_digit c) (are_digits l) e)

glyph_digit : (d : ℕ) → d < 10 → is_digit (glyph_of d) ≡ true
unfolding glyph_of
glyph_digit d h = rw (lt-ltb d 10 h) (both _ _ (le-leb 48 (48 + d) (omega arith)) (le-leb (48 + d) 57 (omega arith)))

digits_of_lem : (w n : ℕ) → are_digits (digits_of 10 w n) ≡ true
unfolding are_digits digits_of
digits_of_lem zero n = refl
digits_of_lem (suc w) n = digits_append (digits_of 10 w (n / 10)) (glyph_of (n % 10) ∷ []) (digits_of_lem w (n / 10)) (both _ _ (glyph_digit (n % 10) (omega arith)) refl)

pub decimal_digits : (n : ℕ) → are_digits (decimal_text n) ≡ true
decimal_digits n = digits_drop (zeros_of (digits_of 10 20 n)) (digits_of 10 20 n) (digits_of_lem 20 n)

-- ---- what a word of digits says

digit_low : (c : ℕ) → is_digit c ≡ true → 48 ≤ c
digit_low c e = leb-true 48 c (and_left (leb 48 c) (leb c 57) e)

digit_high : (c : ℕ) → is_digit c ≡ true → c ≤ 57
digit_high c e = leb-true c 57 (and_right (leb 48 c) (leb c 57) e)

digit_named : (c : ℕ) → is_digit c ≡ true → (is_letter c || is_digit c) ≡ true
digit_named c e = let h = digit_high c e in rw (lt-leb 97 c (omega arith), e)

pub run_digits : (l : List ℕ) → are_digits l ≡ true → run_of l ≡ length l
unfolding are_digits run_of
run_digits [] e = refl
run_digits (c ∷ l) e = rw (digit_named c (and_left (is_digit c) (are_digits l) e)) (ap suc (run_digits l (and_right (is_digit c) (are_digits l) e)))

digit_at : (l : List ℕ) (i : ℕ) → are_digits l ≡ true → get_or l i 0 ≤ 57
unfolding are_digits
digit_at [] i e = omega arith
digit_at (c ∷ l) zero e = digit_high c (and_left (is_digit c) (are_digits l) e)
digit_at (c ∷ l) (suc i) e = digit_at l i (and_right (is_digit c) (are_digits l) e)

pub digit_first : (l : List ℕ) → are_digits l ≡ true → 0 < length l → 48 ≤ get_or l 0 0
unfolding are_digits
digit_first [] e h = absurd (omega arith)
digit_first (c ∷ l) e h = digit_low c (and_left (is_digit c) (are_digits l) e)

word_digits : (t : Labels) (l : List ℕ) (v : ℕ) → are_digits l ≡ true → 0 < length l → leading_zero l ≡ false → digits_read 10 0 l ≡ Some v
    → word_read t l ≡ Ok (written v, length l)
unfolding word_read counted
word_digits t l v e h z r =
    let a = digit_at l 0 e in
    let b = digit_at l 1 e in
    let hex : is_hex l ≡ false = no_hex (ltb 2 (length l)) (eqb (get_or l 0 0) 48) (eqb (get_or l 1 0) 120) (ne_eqb (get_or l 1 0) 120 (λ q. omega arith)) in
    rw (lt-leb 97 (get_or l 0 0) (omega arith), hex, ne_eqb (length l) 0 (λ q. omega arith), z, r)
  where
    no_hex : (x y w : Bool) → w ≡ false → (x && y && w) ≡ false
    no_hex true true w q = q
    no_hex true false w q = refl
    no_hex false y w q = refl

-- a word that is all of its text
pub leaf_whole : (t : Labels) (l : List ℕ) → run_of l ≡ length l → leaf_of t l ≡ word_read t l
unfolding leaf_of
leaf_whole t l e = rw e (ap (word_read t) (take-length l))

pub leaf_decimal : (t : Labels) (n : ℕ) → n < 10 ^ 20 → leaf_of t (decimal_text n) ≡ Ok (written n, length (decimal_text n))
leaf_decimal t n h =
    leaf_whole t (decimal_text n) (run_digits (decimal_text n) (decimal_digits n))
    ∙ word_digits t (decimal_text n) n (decimal_digits n) (decimal_some n) (unled (digits_of 10 20 n)) (read_decimal n h)

-- ---- four hex digits

glyph_named : (d : ℕ) → d < 16 → (is_letter (glyph_of d) || is_digit (glyph_of d)) ≡ true
unfolding glyph_of
glyph_named d h = go (ltb d 10) refl
  where
    go : (t : Bool) → ltb d 10 ≡ t → (is_letter (cond t (48 + d) (87 + d)) || is_digit (cond t (48 + d) (87 + d))) ≡ true
    go true e =
        let q = ltb-true d 10 e in
        digit_named (48 + d) (both _ _ (le-leb 48 (48 + d) (omega arith)) (le-leb (48 + d) 57 (omega arith)))
    go false e =
        let q = ltb-false d 10 e in
        rw (le-leb 97 (87 + d) (omega arith), le-leb (87 + d) 122 (omega arith))

abbrev pub hex_word : ℕ → List ℕ
hex_word h = ascii "0x" ++ half_text h

run_half : (h : ℕ) → run_of (hex_word h) ≡ length (hex_word h)
unfolding run_of
run_half h =
    rw (
      half_digits h,
      glyph_named (h / 4096 % 16) (omega arith),
      glyph_named (h / 256 % 16) (omega arith),
      glyph_named (h / 16 % 16) (omega arith),
      glyph_named (h % 16) (omega arith),
    )

pub leaf_half : (t : Labels) (h : ℕ) → h < 65536 → leaf_of t (hex_word h) ≡ Ok (written h, length (hex_word h))
unfolding word_read counted
leaf_half t h l =
    let w : length (half_text h) ≡ 4 = digits_length 16 4 h in
    leaf_whole t (hex_word h) (run_half h)
    ∙ rw (lt-ltb 2 (suc (suc (length (half_text h)))) (omega arith), read_written 16 (omega arith) (omega arith) 4 h l)
