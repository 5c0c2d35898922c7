-- Operands from their text.
-- Assumes nothing.
use Rattle.std.specs.Prelude.{None, Some}
use Prim.Native.Nat.{ℕ, ◌-◌, ◌^◌, ◌<◌}
use mathlib.Core.Path.{◌≡◌, refl, sym, ap, ◌∙◌}
use mathlib.Core.Bool.{Bool, true, false, cond}
use mathlib.Core.List.{List, [], ◌∷◌, ◌++◌}
use native.Mathlib.Omega.{arith}
use lib.Dec.{ltb}
use lib.ListN.{drop}
use borrow.Author.Tests.{ltb-true}
use Rattle.isa.proofs.Rows.{and_left, and_right}
use Rattle.text.specs.Digits.{value_of, digits_read, decimal_text, signed_text}
use Rattle.text.proofs.Theorems.{digits_differ, read_decimal, decimals_differ}
use Rattle.listing.specs.Listing.{operand_text, row_text}
use Rattle.listing.specs.declared.Operand.{Operand}
use Rattle.listing.specs.declared.Row.{Row}
use Rattle.columns.proofs.Plain.{is_plain}
use Rattle.columns.proofs.Bits.{field_text, operand_tab, plain_field}

-- ---- text parted by tabs

head_of : List ℕ → ℕ
head_of [] = 0
head_of (c ∷ l) = c

tail_of : List ℕ → List ℕ
tail_of [] = []
tail_of (c ∷ l) = l

not_tab : (c : ℕ) (l : List ℕ) → is_plain (c ∷ l) ≡ true → (c ≡ 9 → ⊥)
unfolding is_plain
not_tab c l e q = let h = ltb-true 10 c (and_left (ltb 10 c) (is_plain l) e) in omega arith

plain_tail : (c : ℕ) (l : List ℕ) → is_plain (c ∷ l) ≡ true → is_plain l ≡ true
unfolding is_plain
plain_tail c l e = and_right (ltb 10 c) (is_plain l) e

-- two plain texts before a tab
pub parted : (a b x y : List ℕ) → is_plain a ≡ true → is_plain b ≡ true → a ++ (9 ∷ x) ≡ b ++ (9 ∷ y) → (a ≡ b) × (x ≡ y)
unfolding head_of tail_of
parted [] [] x y p q e = (refl, ap tail_of e)
parted [] (c ∷ b) x y p q e = absurd (not_tab c b q (sym (ap head_of e)))
parted (c ∷ a) [] x y p q e = absurd (not_tab c a p (ap head_of e))
parted (c ∷ a) (d ∷ b) x y p q e =
    let r = parted a b x y (plain_tail c a p) (plain_tail d b q) (ap tail_of e) in
    let h : c ≡ d = ap head_of e in
    (ap (λ (l : List ℕ). c ∷ l) r.0 ∙ ap (λ (z : ℕ). z ∷ b) h, r.1)

-- ---- rows of one shape

module _ (x x' : Operand) where
  pub one_same : row_text (Row.One x) ≡ row_text (Row.One x') → field_text x ≡ field_text x'
  unfolding row_text
  one_same e = ap (drop 1) e

  module _ (y y' : Operand) where
    pub two_same : row_text (Row.Two x y) ≡ row_text (Row.Two x' y') → (field_text x ≡ field_text x') × (field_text y ≡ field_text y')
    unfolding row_text
    two_same e =
        parted (field_text x) (field_text x') (field_text y) (field_text y') (plain_field x) (plain_field x')
        (ap (drop 1) (sym (written x y) ∙ e ∙ written x' y'))
      where
        written : (u v : Operand) → operand_text u ++ operand_text v ≡ 9 ∷ (field_text u ++ (9 ∷ field_text v))
        written u v = rw (operand_tab u, operand_tab v)

    module _ (z z' : Operand) where
      pub three_same : row_text (Row.Three x y z) ≡ row_text (Row.Three x' y' z')
          → (field_text x ≡ field_text x') × (field_text y ≡ field_text y') × (field_text z ≡ field_text z')
      unfolding row_text
      three_same e =
          let a = parted (field_text x) (field_text x') (field_text y ++ (9 ∷ field_text z)) (field_text y' ++ (9 ∷ field_text z')) (plain_field x) (plain_field x')
          (ap (drop 1) (sym (written x y z) ∙ e ∙ written x' y' z')) in
          let b = parted (field_text y) (field_text y') (field_text z) (field_text z') (plain_field y) (plain_field y') a.1 in
          (a.0, b.0, b.1)
        where
          written : (u v w : Operand) → operand_text u ++ (operand_text v ++ operand_text w) ≡ 9 ∷ (field_text u ++ (9 ∷ (field_text v ++ (9 ∷ field_text w))))
          written u v w = rw (operand_tab u, operand_tab v, operand_tab w)

-- ---- numbers from their text

pub register_same : (n k : ℕ) → n < 100 → k < 100 → field_text (Operand.Reg n) ≡ field_text (Operand.Reg k) → n ≡ k
unfolding operand_text
register_same n k h i e = decimals_differ n k (omega arith) (omega arith) (ap (drop 1) e)

pub sfr_same : (n k : ℕ) → n < 100 → k < 100 → field_text (Operand.Sfr n) ≡ field_text (Operand.Sfr k) → n ≡ k
unfolding operand_text
sfr_same n k h i e = decimals_differ n k (omega arith) (omega arith) (ap (drop 3) e)

pub bits_same : (n k : ℕ) → n < 65536 → k < 65536 → field_text (Operand.Bits n) ≡ field_text (Operand.Bits k) → n ≡ k
unfolding operand_text
bits_same n k h i e = digits_differ 16 (omega arith) (omega arith) 4 n k h i (ap (drop 2) e)

-- a signed decimal: no number is read from a minus
minus : (l : List ℕ) → None ≡ digits_read 10 0 (45 ∷ l)
unfolding digits_read value_of
minus l = refl

digit_first : (n : ℕ) → n < 10 ^ 20 → (l : List ℕ) → decimal_text n ≡ 45 ∷ l → ⊥
digit_first n h l e = no_minus (decimal_text n) (read_decimal n h) l e
  where
    no_minus : (t : List ℕ) → digits_read 10 0 t ≡ Some n → (l : List ℕ) → t ≡ 45 ∷ l → ⊥
    no_minus t r l q =
        let f : None ≡ Some n = minus l ∙ ap (digits_read 10 0) (sym q) ∙ r in
        let z : ◌≡◌ {A = ℕ} 0 1 = cc in
        omega arith

pub number_same : (n k : ℕ) → n < 2 ^ 32 → k < 2 ^ 32 → field_text (Operand.Number n) ≡ field_text (Operand.Number k) → n ≡ k
unfolding operand_text signed_text
number_same n k h i e = go (ltb n (2 ^ 31)) refl (ltb k (2 ^ 31)) refl e
  where
    go : (t : Bool) → ltb n (2 ^ 31) ≡ t → (u : Bool) → ltb k (2 ^ 31) ≡ u
        → cond t (decimal_text n) (45 ∷ decimal_text (2 ^ 32 - n)) ≡ cond u (decimal_text k) (45 ∷ decimal_text (2 ^ 32 - k)) → n ≡ k
    go true p true q f = decimals_differ n k (omega arith) (omega arith) f
    go true p false q f = absurd (digit_first n (omega arith) (decimal_text (2 ^ 32 - k)) f)
    go false p true q f = absurd (digit_first k (omega arith) (decimal_text (2 ^ 32 - n)) (sym f))
    go false p false q f =
        let r : 2 ^ 32 - n ≡ 2 ^ 32 - k = decimals_differ (2 ^ 32 - n) (2 ^ 32 - k) (omega arith) (omega arith) (ap (drop 1) f) in
        omega arith
