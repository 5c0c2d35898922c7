-- Numbers, as a listing writes them, are expressions that have their values.
-- Assumes nothing.
use Rattle.std.specs.Prelude.{Ok}
use Prim.Native.Nat.{ℕ, suc, ◌-◌, ◌^◌, ◌<◌}
use mathlib.Core.Path.{◌≡◌, refl, sym, ap, ◌∙◌}
use mathlib.Core.Bool.{Bool, true, false, cond}
use mathlib.Core.List.{List, ◌∷◌}
use native.Mathlib.Omega.{arith}
use native.Mathlib.Numerals.{add-one}
use lib.Dec.{ltb}
use lib.IntN.{ℤ, pos, negsuc, ◌-ℤ◌}
use lib.ListN.{length, get_or}
use borrow.Author.Tests.{ltb-true, ltb-false, lt-ltb, le-ltb, eq-eqb, ne_eqb}
use Rattle.text.specs.Digits.{decimal_text, signed_text}
use Rattle.expr.specs.Expr.{Labels, none, is_whole, is_sum, leaf_of, sign_of, signed_of, operand_of, sum_of, value_of, operand_with, product_with, sum_with, inside_of, adds, multiplies}
use Rattle.expr.specs.Value.{fitted, applied, combined, negated, signed_word, written}
use Rattle.expr.specs.Expr.{Read}
use Rattle.expr.specs.declared.Value.{Value}
use Rattle.text.proofs.Theorems.{decimal_some}
use Rattle.expr.proofs.Laws.{items_all, operand_leaf}
use Rattle.forms.specs.Says.{bits_of}
use Rattle.reassembly.proofs.Digits.{decimal_digits, digit_first, leaf_decimal, leaf_half, hex_word}

-- an operand that is all of its text is a sum
pub all_sum : (t : Labels) (more : ℕ) (s : List ℕ) (v : Value) → operand_of t more s ≡ Ok (v, length s) → sum_of t more s ≡ Ok (v, length s)
unfolding sum_of sum_with product_with operand_of
all_sum t more s v e =
    items_all adds (product_with (inside_of t more) t) s v (length s) (omega arith)
    (items_all multiplies (operand_with (inside_of t more) t) s v (length s) (omega arith) e)

-- ---- a text that every table of labels reads alike

abbrev pub Says : List ℕ → ℤ → Type 0
Says s z = (t : Labels) (more : ℕ) → sum_of t more s ≡ Ok (Value.Is z, length s)

pub says_sum : (s : List ℕ) (z : ℤ) → Says s z → is_sum s ≡ true
unfolding is_sum is_whole
says_sum s z f = rw (f none (length s)) (eq-eqb (length s) (length s) refl)

pub says_value : (s : List ℕ) (z : ℤ) → Says s z → (t : Labels) → value_of t s ≡ Ok (Value.Is z, length s)
unfolding value_of
says_value s z f t = f t 8

-- ---- decimals

written_is : (n : ℕ) → n < 2147483648 → written n ≡ Value.Is (pos n)
unfolding written
written_is n h = rw (le-ltb 2147483647 n (omega arith))

-- a leaf with no sign
unsigned : (t : Labels) (more : ℕ) (s : List ℕ) (v : Value) → (get_or s 0 0 ≡ 45 → ⊥) → (get_or s 0 0 ≡ 40 → ⊥) → leaf_of t s ≡ Ok (v, length s)
    → operand_of t more s ≡ Ok (v, length s)
unfolding sign_of signed_of
unsigned t more s v f g e =
    operand_leaf t s more 0 (get_or s 0 0) (sym (rw (ne_eqb (get_or s 0 0) 45 f))) refl g ∙ rw e

pub says_decimal : (n : ℕ) → n < 2147483648 → Says (decimal_text n) (pos n)
says_decimal n h t more =
    let a = digit_first (decimal_text n) (decimal_digits n) (decimal_some n) in
    all_sum t more (decimal_text n) (Value.Is (pos n))
    (unsigned t more (decimal_text n) (Value.Is (pos n)) (λ q. omega arith) (λ q. omega arith)
    (leaf_decimal t n (omega arith) ∙ ap (λ (v : Value). Ok (v, length (decimal_text n))) (written_is n h)))

pub says_half : (h : ℕ) → h < 65536 → Says (hex_word h) (pos h)
says_half h l t more =
    all_sum t more (hex_word h) (Value.Is (pos h))
    (unsigned t more (hex_word h) (Value.Is (pos h)) (λ q. omega arith) (λ q. omega arith)
    (leaf_half t h l ∙ ap (λ (v : Value). Ok (v, length (hex_word h))) (written_is h (omega arith))))

-- ---- a minus

less : (k : ℕ) → pos 0 -ℤ pos (suc k) ≡ negsuc k
less k =
    let z : suc k - 1 ≡ k = omega arith in
    rw (lt-ltb 0 (suc k) (omega arith), z)

minus : (k : ℕ) → suc k < 2147483648 → negated (Value.Is (pos (suc k))) ≡ Value.Is (negsuc k)
unfolding combined applied fitted
minus k h = ap fitted (less k) ∙ rw (le-ltb 2147483647 k (omega arith))

says_minus : (k : ℕ) → suc k < 2147483648 → Says (45 ∷ decimal_text (suc k)) (negsuc k)
unfolding sign_of signed_of
says_minus k h t more =
    let a = digit_first (decimal_text (suc k)) (decimal_digits (suc k)) (decimal_some (suc k)) in
    all_sum t more (45 ∷ decimal_text (suc k)) (Value.Is (negsuc k))
    (operand_leaf t (45 ∷ decimal_text (suc k)) more 1 (get_or (decimal_text (suc k)) 0 0) refl refl (λ q. omega arith)
    ∙ rw (leaf_decimal t (suc k) (omega arith), written_is (suc k) h, minus k h, add-one))

-- ---- 32 bits, as a signed decimal: all but -2147483648, whose digits alone are past the largest value

pub says_signed : (n : ℕ) → n < 2 ^ 32 → (n ≡ 2 ^ 31 → ⊥) → Says (signed_text n) (signed_word n)
unfolding signed_text signed_word
says_signed n h f = go (ltb n (2 ^ 31)) refl
  where
    go : (t : Bool) → ltb n (2 ^ 31) ≡ t → Says (cond t (decimal_text n) (45 ∷ decimal_text (2 ^ 32 - n))) (cond t (pos n) (negsuc (4294967295 - n)))
    go true e = says_decimal n (ltb-true n (2 ^ 31) e)
    go false e =
        let l = ltb-false n (2 ^ 31) e in
        let z : 2 ^ 32 - n ≡ suc (4294967295 - n) = omega arith in
        rw z (says_minus (4294967295 - n) (omega arith))

pub bits_signed : (n : ℕ) → n < 2 ^ 32 → bits_of (signed_word n) ≡ n
unfolding signed_word bits_of
bits_signed n h = go (ltb n 2147483648) refl
  where
    go : (t : Bool) → ltb n 2147483648 ≡ t → bits_of (cond t (pos n) (negsuc (4294967295 - n))) ≡ n
    go true e = refl
    go false e = omega arith
