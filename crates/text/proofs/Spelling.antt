-- A decimal spelled from its last digit to its first, into a room: n is what is left to spell, i the place of the first digit that stands.
-- Assumes nothing.
use Prim.Native.Nat.{ℕ, zero, suc, ◌-◌, ◌/◌, ◌%◌, ◌^◌, ◌<◌, ◌≤◌}
use mathlib.Core.Path.{◌≡◌, sym, ap, ap₂, ◌∙◌}
use mathlib.Core.List.{List, ◌∷◌, ◌++◌}
use native.Mathlib.Omega.{arith}
use native.Mathlib.Nat.{pow-zero, pow-le-pow_right}
use lib.ListN.{length, drop, set}
use lib.Seq.{append_snoc}
use Rattle.text.specs.Digits.{glyph_of, decimal_text}
use Rattle.text.specs.Pages.{Page, one_on, write_on}
use Rattle.text.proofs.Laws.{digit_before}
use Rattle.text.proofs.Theorems.{smaller, decimal_more, decimal_one, decimal_two}

-- a place is left, and what is left to spell after it is smaller
pub place_left : (n i : ℕ) → n < 10 ^ i → 0 < n → 0 < i
place_left n zero h k = let one : n < 1 = rw pow-zero at h in absurd (omega arith)
place_left n (suc i) h k = omega arith

pub place_spelled : (n i : ℕ) → n < 10 ^ i → 0 < i → n / 10 < 10 ^ (i - 1)
place_spelled n zero h k = absurd (omega arith)
place_spelled n (suc i) h k =
    let e : suc i - 1 ≡ i = omega arith in
    rw e (smaller 10 (omega arith) (omega arith) i n h)

module _ (n i : ℕ) (out : List ℕ) (low : 0 < i) (high : i ≤ 20) (room : i ≤ length out) where
  set_before : (g : ℕ) → drop (i - 1) (set out (i - 1) g) ≡ g ∷ drop i out
  set_before g =
      let e : suc (i - 1) ≡ i = omega arith in
      digit_before out (i - 1) g (omega arith) ∙ ap (λ (k : ℕ). g ∷ drop k out) e

  pub decimal_on : n < 10 ^ i → 10 ≤ n → decimal_text (n / 10) ++ drop (i - 1) (set out (i - 1) (glyph_of (n % 10))) ≡ decimal_text n ++ drop i out
  decimal_on h k =
      let m : 10 ^ i ≤ 10 ^ 20 = pow-le-pow_right (omega arith) high in
      ap (λ (l : List ℕ). decimal_text (n / 10) ++ l) (set_before (glyph_of (n % 10)))
      ∙ sym (append_snoc (decimal_text (n / 10)) (glyph_of (n % 10)) (drop i out))
      ∙ ap (λ (l : List ℕ). l ++ drop i out) (sym (decimal_more n (omega arith) k))

  pub decimal_last : n < 10 → drop (i - 1) (set out (i - 1) (glyph_of n)) ≡ decimal_text n ++ drop i out
  decimal_last k = set_before (glyph_of n) ∙ ap (λ (l : List ℕ). l ++ drop i out) (sym (decimal_one n (omega arith) k))

-- one digit, and two
pub write_one : (n : ℕ) (p : Page) → n < 10 → one_on (glyph_of n) p ≡ write_on (decimal_text n) p
unfolding write_on
write_one n p h = sym (ap (λ (l : List ℕ). write_on l p) (decimal_one n (omega arith) h))

pub write_two : (n g h : ℕ) (p q r : Page) → r ≡ one_on g q → q ≡ one_on h p → g ≡ glyph_of (n % 10) → h ≡ glyph_of (n / 10) → 10 ≤ n → n < 100
    → r ≡ write_on (decimal_text n) p
unfolding write_on
write_two n g h p q r er eq eg eh low high =
    er ∙ ap₂ (λ (x : ℕ) (y : Page). one_on x y) eg (eq ∙ ap (λ (x : ℕ). one_on x p) eh) ∙ sym (ap (λ (l : List ℕ). write_on l p) (decimal_two n low high))
