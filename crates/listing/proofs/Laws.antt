-- Laws that the functions' proofs cite: digits, names, and lines written part by part.
-- Assumes nothing.
use Prim.Native.Nat.{ℕ, zero, suc, ◌+◌, ◌*◌, ◌-◌, ◌/◌, ◌%◌, ◌<◌, ◌≤◌}
use mathlib.Core.Path.{◌≡◌, refl, sym, ap, ◌∙◌}
use mathlib.Core.List.{List, [], ◌∷◌, ◌++◌, append_assoc}
use native.Mathlib.Omega.{arith}
use lib.Dec.{eqb}
use lib.ListN.{length, get_or, take, drop, drop_of_length-le}
use mathlib.Core.Bool.{cond}
use lib.Seq.{drop-cons}
use borrow.Author.Tests.{eqb-true, eq-eqb, ne_eqb, lt-ltb}
use Rattle.isa.proofs.Rows.{each_at}
use Rattle.text.specs.Digits.{glyph_of, glyphs, digits_of, hex_text, half_text}
use Rattle.text.specs.Pages.{Page, one_on, write_on}
use Rattle.text.proofs.Theorems.{decimal_one, decimal_two}
use Rattle.text.proofs.Pages.{write_append}
use Rattle.listing.specs.Names.{names, letters_in, name_at}
use Rattle.listing.specs.Listing.{tab, operand_text, row_text, second_text, line_text}
use Rattle.listing.specs.declared.Operand.{Operand}
use Rattle.listing.specs.declared.Entry.{Entry}

-- ---- digits

digit_at : (t : List ℕ) (n : ℕ) → t ≡ glyphs → get_or t (n % 16) 0 ≡ glyph_of (n % 16)
unfolding glyph_of
digit_at t n e =
    ap (λ (l : List ℕ). get_or l (n % 16) 0) e
    ∙ eqb-true _ _ (each_at (λ (d : ℕ). eqb (get_or glyphs d 0) (glyph_of d)) 16 (n % 16) refl (omega arith))

hex_digits : (n : ℕ)
    → hex_text n
    ≡ glyph_of (n / 268435456 % 16) ∷ glyph_of (n / 16777216 % 16) ∷ glyph_of (n / 1048576 % 16) ∷ glyph_of (n / 65536 % 16)
    ∷ glyph_of (n / 4096 % 16) ∷ glyph_of (n / 256 % 16) ∷ glyph_of (n / 16 % 16) ∷ glyph_of (n % 16) ∷ []
unfolding digits_of
hex_digits n =
    let e2 : n / 16 / 16 ≡ n / 256 = omega arith in
    let e3 : n / 256 / 16 ≡ n / 4096 = omega arith in
    let e4 : n / 4096 / 16 ≡ n / 65536 = omega arith in
    let e5 : n / 65536 / 16 ≡ n / 1048576 = omega arith in
    let e6 : n / 1048576 / 16 ≡ n / 16777216 = omega arith in
    let e7 : n / 16777216 / 16 ≡ n / 268435456 = omega arith in
    rw (e2, e3, e4, e5, e6, e7)

pub half_digits : (n : ℕ) → half_text n ≡ glyph_of (n / 4096 % 16) ∷ glyph_of (n / 256 % 16) ∷ glyph_of (n / 16 % 16) ∷ glyph_of (n % 16) ∷ []
unfolding digits_of
half_digits n =
    let e2 : n / 16 / 16 ≡ n / 256 = omega arith in
    let e3 : n / 256 / 16 ≡ n / 4096 = omega arith in
    rw (e2, e3)

-- an address and a first half, by a table of digits
pub head_digits : (t : List ℕ) (a h : ℕ) → t ≡ glyphs
    → get_or t (a / 268435456 % 16) 0 ∷ get_or t (a / 16777216 % 16) 0 ∷ get_or t (a / 1048576 % 16) 0 ∷ get_or t (a / 65536 % 16) 0
    ∷ get_or t (a / 4096 % 16) 0 ∷ get_or t (a / 256 % 16) 0 ∷ get_or t (a / 16 % 16) 0 ∷ get_or t (a % 16) 0
    ∷ 9 ∷ get_or t (h / 4096 % 16) 0 ∷ get_or t (h / 256 % 16) 0 ∷ get_or t (h / 16 % 16) 0 ∷ get_or t (h % 16) 0 ∷ []
    ≡ hex_text a ++ tab (half_text h)
head_digits t a h e =
    rw (
      hex_digits a,
      half_digits h,
      digit_at t (a / 268435456) e,
      digit_at t (a / 16777216) e,
      digit_at t (a / 1048576) e,
      digit_at t (a / 65536) e,
      digit_at t (a / 4096) e,
      digit_at t (a / 256) e,
      digit_at t (a / 16) e,
      digit_at t a e,
      digit_at t (h / 4096) e,
      digit_at t (h / 256) e,
      digit_at t (h / 16) e,
      digit_at t h e,
    )

-- a register of one digit, and of two that begin with 1
pub register_one : (n : ℕ) → n < 10 → 9 ∷ 114 ∷ (48 + n) ∷ [] ≡ operand_text (Operand.Reg n)
unfolding operand_text glyph_of
register_one n h = sym (rw (decimal_one n (omega arith) h, lt-ltb n 10 h))

pub register_two : (n : ℕ) → 10 ≤ n → n < 20 → 9 ∷ 114 ∷ 49 ∷ (38 + n) ∷ [] ≡ operand_text (Operand.Reg n)
unfolding operand_text glyph_of
register_two n l h =
    let a : n / 10 ≡ 1 = omega arith in
    let b : 48 + n % 10 ≡ 38 + n = omega arith in
    sym (rw (decimal_two n l (omega arith), a, lt-ltb (n % 10) 10 (omega arith), b))

-- ---- names: from letter i of a place's six on

-- six letters are enough
six_letters : (n : ℕ) (l : List ℕ) → letters_in n (take n l) ≡ letters_in n l
unfolding letters_in
six_letters zero l = refl
six_letters (suc n) [] = refl
six_letters (suc n) (c ∷ l) = ap (λ (r : List ℕ). cond (eqb c 32) [] (c ∷ r)) (six_letters n l)

-- of the lent table t
pub name_first : (t l : List ℕ) (place : ℕ) (p : Page) → t ≡ names → l ≡ take 6 (drop (place * 6) t) → write_on (letters_in (6 - 0) (drop 0 l)) p ≡ write_on (name_at place) p
unfolding name_at
name_first t l place p et el =
    let m : place * 6 ≡ 6 * place = omega arith in
    let f : l ≡ take 6 (drop (6 * place) names) = rw (el, et, m) in
    ap (λ (k : List ℕ). write_on k p) (ap (letters_in 6) f ∙ six_letters 6 (drop (6 * place) names))

no_letters : (n : ℕ) → letters_in n [] ≡ []
unfolding letters_in
no_letters zero = refl
no_letters (suc n) = refl

module _ (l : List ℕ) (i : ℕ) (p : Page) where
  pub name_more : i < 6 → i < length l → (get_or l i 0 ≡ 32 → ⊥)
      → write_on (letters_in (6 - i) (drop i l)) p ≡ write_on (letters_in (6 - (i + 1)) (drop (i + 1) l)) (one_on (get_or l i 0) p)
  unfolding letters_in write_on
  name_more h q d =
      let s : 6 - i ≡ suc (6 - (i + 1)) = omega arith in
      let n : suc i ≡ i + 1 = omega arith in
      rw (s, drop-cons l i 0 q, ne_eqb _ _ d, n)

  pub name_blank : i < 6 → i < length l → get_or l i 0 ≡ 32 → write_on (letters_in (6 - i) (drop i l)) p ≡ p
  unfolding letters_in write_on
  name_blank h q d =
      let s : 6 - i ≡ suc (6 - (i + 1)) = omega arith in
      rw (s, drop-cons l i 0 q, eq-eqb _ _ d)

  pub name_done : length l ≤ i → write_on (letters_in (6 - i) (drop i l)) p ≡ p
  unfolding write_on
  name_done q = rw (drop_of_length-le l {i = i} q, no_letters (6 - i))

-- ---- a line, part by part

pub write_line : (x : Entry) (p : Page)
    → write_on (line_text x) p
    ≡ one_on 10 (write_on (row_text x.shown.row) (write_on (name_at x.shown.place) (one_on 9
    (write_on (second_text x.shown.long x.second) (write_on (hex_text x.at.0 ++ tab (half_text x.first)) p)))))
unfolding line_text write_on
write_line x p =
    ap (λ (l : List ℕ). write_on l p) (sym (append_assoc (hex_text x.at.0) (tab (half_text x.first)) _))
    ∙ write_append (hex_text x.at.0 ++ tab (half_text x.first)) _ p
    ∙ write_append (second_text x.shown.long x.second) _ _
    ∙ write_append (name_at x.shown.place) _ _
    ∙ write_append (row_text x.shown.row) _ _

-- the same, from one place to the next
pub line_written : (x : Entry) (p a b c d e r : Page)
    → a ≡ write_on (hex_text x.at.0 ++ tab (half_text x.first)) p
    → b ≡ write_on (second_text x.shown.long x.second) a
    → c ≡ one_on 9 b
    → d ≡ write_on (name_at x.shown.place) c
    → e ≡ write_on (row_text x.shown.row) d
    → r ≡ one_on 10 e
    → r ≡ write_on (line_text x) p
line_written x p a b c d e r ea eb ec ed ee er =
    er
    ∙ ap (λ (q : Page). one_on 10 q)
    (ee ∙ ap (write_on (row_text x.shown.row))
    (ed ∙ ap (write_on (name_at x.shown.place))
    (ec ∙ ap (λ (q : Page). one_on 9 q)
    (eb ∙ ap (write_on (second_text x.shown.long x.second)) ea))))
    ∙ sym (write_line x p)
