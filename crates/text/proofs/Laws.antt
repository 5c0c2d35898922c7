-- Laws that the functions' proofs cite: a list read from one place on.
-- Assumes nothing.
use Rattle.std.specs.Prelude.{None, Some}
use Prim.Native.Nat.{ℕ, zero, suc, ◌+◌, ◌*◌, ◌-◌, ◌/◌, ◌%◌, ◌^◌, ◌<◌, ◌≤◌}
use mathlib.Core.Path.{◌≡◌, refl, sym, ap, ap₂, subst, subst⁻¹, ◌∙◌}
use mathlib.Core.Bool.{cond}
use mathlib.Core.List.{List, [], ◌∷◌, ◌++◌}
use native.Mathlib.Nat.{lt_irrefl, mul-le-mul_left}
use native.Mathlib.Numerals.{add-one}
use native.Mathlib.Omega.{arith}
use lib.Arith.{digits_lt}
use lib.Dec.{eqb, ltb}
use borrow.Author.Tests.{lt-ltb, le-ltb}
use lib.Pow.{pow-add}
use lib.ListN.{length, get_or, take, drop, set, drop_of_length-le}
use lib.Seq.{append_snoc, drop-cons, lt-length-set, get_or-set_same, drop-set-lt}
use Rattle.std.specs.List.{prefix_len, list_all}
use Rattle.std.specs.Cmp.Lexicographic.{pointwise}
use Rattle.text.specs.Digits.{value_of, glyph_of, digits_read, digits_in, digits_of, are_hex}
use Rattle.text.specs.Fields.{same_of}

module _ (l : List ℕ) (i : ℕ) (h : i < length l) where
  next : drop i l ≡ get_or l i 0 ∷ drop (i + 1) l
  next = rw (add-one, drop-cons l i 0)

  -- a digit's value d is below the base, or it is not
  pub number_on : (b v d : ℕ) → d ≡ value_of (get_or l i 0) → d < b → digits_read b v (drop i l) ≡ digits_read b (v * b + d) (drop (i + 1) l)
  unfolding digits_read
  number_on b v d e k = rw (next, ← e, lt-ltb d b k)

  pub number_stop : (b v d : ℕ) → d ≡ value_of (get_or l i 0) → b ≤ d → digits_read b v (drop i l) ≡ None
  unfolding digits_read
  number_stop b v d e k = rw (next, ← e, le-ltb d b k)

-- and from the end on
module _ (l : List ℕ) (i : ℕ) (h : length l ≤ i) where
  pub number_none : (b v : ℕ) → digits_read b v (drop i l) ≡ Some v
  unfolding digits_read
  number_none b v = rw (drop_of_length-le l h)

-- one digit more
pub digit_more : (base i v d : ℕ) → base ≤ 16 → v < 2 ^ (4 * i) → d < base → v * base + d < 2 ^ (4 * (i + 1))
digit_more base i v d hb h hd =
    let e : 4 * (i + 1) ≡ 4 * i + 4 = omega arith in
    let p : 2 ^ (4 * (i + 1)) ≡ 2 ^ (4 * i) * 16 = ap (λ (n : ℕ). 2 ^ n) e ∙ pow-add 2 (4 * i) 4 in
    let q : v * base ≤ v * 16 = mul-le-mul_left v hb in
    subst (λ (n : ℕ). v * base + d < n) (sym p) (omega (arith, digits_lt {q = v} {m = 2 ^ (4 * i)} {r = d} {c = 16} h (omega arith)))

-- one digit set in front of those that stand already
pub digit_before : (out : List ℕ) (j g : ℕ) → j < length out → drop j (set out j g) ≡ g ∷ drop (suc j) out
digit_before out j g h =
    drop-cons (set out j g) j 0 (lt-length-set out j g h)
    ∙ ap₂ (λ (x : ℕ) (r : List ℕ). x ∷ r) (get_or-set_same out j g 0 h) (drop-set-lt (suc j) out j g (omega arith))

pub spell_more : (base i n : ℕ) (out : List ℕ) → 0 < i → i ≤ length out
    → digits_of base i n ++ drop i out ≡ digits_of base (i - 1) (n / base) ++ drop (i - 1) (set out (i - 1) (glyph_of (n % base)))
unfolding digits_of
spell_more base zero n out h k = absurd (lt_irrefl 0 h)
spell_more base (suc j) n out h k =
    let e : suc j - 1 ≡ j = omega arith in
    subst⁻¹ (λ (x : ℕ). digits_of base (suc j) n ++ drop (suc j) out ≡ digits_of base x (n / base) ++ drop x (set out x g)) e
    (append_snoc (digits_of base j (n / base)) g (drop (suc j) out)
    ∙ ap (λ (r : List ℕ). digits_of base j (n / base) ++ r) (sym (digit_before out j g k)))
  where
    g : ℕ
    g = glyph_of (n % base)

pub spell_none : (base i n : ℕ) (out : List ℕ) → i ≤ 0 → digits_of base i n ++ drop i out ≡ out
unfolding digits_of
spell_none base i n out h =
    let e : i ≡ 0 = omega arith in
    rw e

-- in the library's words
pub hex_is : (l : List ℕ) → are_hex l ≡ list_all (λ c. ltb (value_of c) 16) l
unfolding are_hex
hex_is [] = refl
hex_is (c ∷ l) = rw (hex_is l)

pub digits_is : (b n : ℕ) (l : List ℕ) → digits_in b n l ≡ prefix_len (λ c. ltb (value_of c) b) (take n l)
unfolding digits_in
digits_is b zero l = refl
digits_is b (suc n) [] = refl
digits_is b (suc n) (c ∷ l) = ap (λ (k : ℕ). cond (ltb (value_of c) b) (suc k) 0) (digits_is b n l) ∙ ap (λ (k : ℕ). cond (ltb (value_of c) b) k 0) (omega arith)

pub same_is : (a b : List ℕ) → same_of a b ≡ pointwise eqb a b
unfolding same_of
same_is [] [] = refl
same_is [] (y ∷ b) = refl
same_is (x ∷ a) [] = refl
same_is (x ∷ a) (y ∷ b) = rw (same_is a b)
