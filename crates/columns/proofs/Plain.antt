-- Text without tab and newline, and what a column takes of it.
-- Assumes nothing.
use Prim.Native.Nat.{ℕ, zero, suc, ◌+◌, ◌*◌, ◌-◌, ◌/◌, ◌%◌, ◌^◌}
use mathlib.Core.Path.{◌≡◌, refl, ap}
use mathlib.Core.Bool.{Bool, true, false, cond, ◌&&◌}
use mathlib.Core.List.{List, [], ◌∷◌, ◌++◌}
use native.Mathlib.Omega.{arith}
use lib.Dec.{ltb, eqb}
use lib.ListN.{drop}
use borrow.Author.Tests.{ltb-true, lt-ltb, eq-eqb, ne_eqb}
use Rattle.isa.proofs.Rows.{and_left, and_right}
use Rattle.text.specs.Digits.{glyph_of, digits_of, zeros_of, decimal_text, signed_text}
use Rattle.listing.specs.Names.{names, letters_in, name_at}
use Rattle.columns.specs.Columns.{column_of}

unfoldable pub is_plain : List ℕ → Bool
is_plain [] = true
is_plain (c ∷ l) = ltb 10 c && is_plain l

pub both : (a b : Bool) → a ≡ true → b ≡ true → (a && b) ≡ true
both a b e f = rw (e, f)

pub plain_append : (a b : List ℕ) → is_plain a ≡ true → is_plain b ≡ true → is_plain (a ++ b) ≡ true
unfolding is_plain
plain_append [] b e f = f
plain_append (c ∷ a) b e f = both _ _ (and_left (ltb 10 c) (is_plain a) e) (plain_append a b (and_right (ltb 10 c) (is_plain a) e) f)

plain_drop : (n : ℕ) (l : List ℕ) → is_plain l ≡ true → is_plain (drop n l) ≡ true
unfolding is_plain
plain_drop zero l e = e
plain_drop (suc n) [] e = e
plain_drop (suc n) (c ∷ l) e = plain_drop n l (and_right (ltb 10 c) (is_plain l) e)

glyph_high : (d : ℕ) → ltb 10 (glyph_of d) ≡ true
unfolding glyph_of
glyph_high d = go (ltb d 10)
  where
    go : (t : Bool) → ltb 10 (cond t (48 + d) (87 + d)) ≡ true
    go true = lt-ltb 10 (48 + d) (omega arith)
    go false = lt-ltb 10 (87 + d) (omega arith)

pub plain_digits : (base w n : ℕ) → is_plain (digits_of base w n) ≡ true
unfolding digits_of is_plain
plain_digits base zero n = refl
plain_digits base (suc w) n = plain_append (digits_of base w (n / base)) (glyph_of (n % base) ∷ []) (plain_digits base w (n / base)) (both _ _ (glyph_high (n % base)) refl)

pub plain_decimal : (n : ℕ) → is_plain (decimal_text n) ≡ true
plain_decimal n = plain_drop (zeros_of (digits_of 10 20 n)) (digits_of 10 20 n) (plain_digits 10 20 n)

pub plain_signed : (n : ℕ) → is_plain (signed_text n) ≡ true
unfolding signed_text is_plain
plain_signed n = go (ltb n (2 ^ 31))
  where
    go : (t : Bool) → is_plain (cond t (decimal_text n) (45 ∷ decimal_text (2 ^ 32 - n))) ≡ true
    go true = plain_decimal n
    go false = plain_decimal (2 ^ 32 - n)

plain_letters : (n : ℕ) (l : List ℕ) → is_plain l ≡ true → is_plain (letters_in n l) ≡ true
unfolding is_plain letters_in
plain_letters zero l e = refl
plain_letters (suc n) [] e = refl
plain_letters (suc n) (c ∷ l) e = go (eqb c 32) (plain_letters n l (and_right (ltb 10 c) (is_plain l) e))
  where
    go : (t : Bool) → is_plain (letters_in n l) ≡ true → is_plain (cond t [] (c ∷ letters_in n l)) ≡ true
    go true q = refl
    go false q = both _ _ (and_left (ltb 10 c) (is_plain l) e) q

plain_names : is_plain names ≡ true
unfolding is_plain names
plain_names = refl

pub plain_name : (p : ℕ) → is_plain (name_at p) ≡ true
unfolding name_at
plain_name p = plain_letters 6 (drop (6 * p) names) (plain_drop (6 * p) names plain_names)

-- ---- columns

module _ (k : ℕ) where
  -- in column k all of it is taken, and elsewhere nothing
  pub keep : (t l : List ℕ) → is_plain t ≡ true → column_of k k (t ++ l) ≡ t ++ column_of k k l
  unfolding is_plain column_of
  keep [] l e = refl
  keep (c ∷ t) l e =
      let h = ltb-true 10 c (and_left (ltb 10 c) (is_plain t) e) in
      rw (ne_eqb c 10 (λ q. omega arith), ne_eqb c 9 (λ q. omega arith), eq-eqb k k refl) (ap (λ (r : List ℕ). c ∷ r) (keep t l (and_right (ltb 10 c) (is_plain t) e)))

  pub pass : (f : ℕ) (t l : List ℕ) → (f ≡ k → ⊥) → is_plain t ≡ true → column_of k f (t ++ l) ≡ column_of k f l
  unfolding is_plain column_of
  pass f [] l n e = refl
  pass f (c ∷ t) l n e =
      let h = ltb-true 10 c (and_left (ltb 10 c) (is_plain t) e) in
      rw (ne_eqb c 10 (λ q. omega arith), ne_eqb c 9 (λ q. omega arith), ne_eqb f k n) (pass f t l n (and_right (ltb 10 c) (is_plain t) e))

  pub tabbed : (f : ℕ) (l : List ℕ) → column_of k f (9 ∷ l) ≡ column_of k (suc f) l
  unfolding column_of
  tabbed f l = refl

  pub ended : (f : ℕ) (l : List ℕ) → column_of k f (10 ∷ l) ≡ column_of k 0 l
  unfolding column_of
  ended f l = refl
