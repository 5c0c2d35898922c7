-- What a field of an operand's sort writes.
-- Assumes nothing.
use Rattle.std.specs.Prelude.{None, Option, Some, ℕ, Ok, Err}
use Prim.Native.Nat.{ℕ, suc, ◌+◌, ◌*◌, ◌-◌, ◌/◌, ◌%◌, ◌^◌, ◌<◌, ◌≤◌}
use mathlib.Core.Logic.{◌⊎◌, inl, inr}
use mathlib.Core.Path.{◌≡◌, refl, sym, ap, ap₂, subst, ◌∙◌}
use mathlib.Core.Bool.{Bool, true, false, cond}
use mathlib.Core.List.{List, [], ◌∷◌, ◌++◌, append-nil}
use native.Mathlib.Omega.{arith}
use lib.Dec.{ltb, eqb}
use lib.IntN.{ℤ}
use lib.ListN.{length, take, drop, take-append-drop}
use lib.Seq.{append_snoc, take-append_seam, drop-append_seam}
use borrow.Author.Tests.{ltb-true, ltb-false, lt-ltb, eqb-true, eqb-false, eq-eqb}
use Rattle.isa.proofs.Rows.{and_left, and_right}
use Rattle.text.specs.Digits.{value_of as worth, glyph_of, digits_read, leading_zero, is_short, decimal_of, decimal_text}
use Rattle.text.specs.Fields.{same_of}
use Rattle.text.specs.Words.{ascii}
use Rattle.text.proofs.Theorems.{decimal_more, decimal_one, decimal_reads}
use Rattle.listing.specs.Listing.{operand_text, tab}
use Rattle.listing.specs.declared.Operand.{Operand}
use Rattle.expr.specs.Expr.{Labels, sum_of, value_of, is_whole, is_sum}
use Rattle.expr.specs.Expr.{Read as Valued}
use Rattle.expr.specs.declared.Value.{Value}
use Rattle.expr.specs.declared.Fault.{Fault}
use Rattle.expr.proofs.Theorems.{only_depth}
use Rattle.forms.specs.Form.{below, numbered_of, number_at, is_of, fields_of}
use Rattle.forms.specs.Says.{bits_of}
use Rattle.forms.specs.declared.Sort.{Sort}
use Rattle.asm.specs.Assemble.{sum_at}
use Rattle.written.specs.Written.{Writes}
use Rattle.written.proofs.Values.{value_word}

-- ---- a decimal without leading zeros is the text of its number

digit_of_lem : (c : ℕ) → worth c < 10 → 48 + worth c ≡ c
unfolding worth
digit_of_lem c = go (ltb c 48) refl (ltb c 58) (ltb c 97) refl (ltb c 103)
  where
    go : (x : Bool) → ltb c 48 ≡ x → (y z : Bool) → ltb c 97 ≡ z → (w : Bool)
        → cond x 16 (cond y (c - 48) (cond z 16 (cond w (c - 87) 16))) < 10 → 48 + cond x 16 (cond y (c - 48) (cond z 16 (cond w (c - 87) 16))) ≡ c
    go true e y z f w h = absurd (omega arith)
    go false e true z f w h = let l = ltb-false c 48 e in omega arith
    go false e false true f w h = absurd (omega arith)
    go false e false false f true h = let l = ltb-false c 97 f in absurd (omega arith)
    go false e false false f false h = absurd (omega arith)

glyph_back : (c : ℕ) → worth c < 10 → glyph_of (worth c) ≡ c
unfolding glyph_of
glyph_back c h = rw (lt-ltb (worth c) 10 h) (digit_of_lem c h)

-- digits l read after v, to w: a step is taken by a digit, or the reading ends
digits_step : (v w c : ℕ) (l : List ℕ) → digits_read 10 v (c ∷ l) ≡ Some w → (worth c < 10) × (digits_read 10 (v * 10 + worth c) l ≡ Some w)
unfolding digits_read
digits_step v w c l = go (ltb (worth c) 10) refl
  where
    go : (t : Bool) → ltb (worth c) 10 ≡ t → cond t (digits_read 10 (v * 10 + worth c) l) None ≡ Some w
        → (worth c < 10) × (digits_read 10 (v * 10 + worth c) l ≡ Some w)
    go true e q = (ltb-true _ _ e, q)
    go false e q = let z : ◌≡◌ {A = ℕ} 0 1 = cc in absurd (omega arith)

digits_end : (v w : ℕ) → digits_read 10 v [] ≡ Some w → v ≡ w
unfolding digits_read
digits_end v w e = cc

grows : (v w : ℕ) (l : List ℕ) → digits_read 10 v l ≡ Some w → v ≤ w
grows v w [] e = let q = digits_end v w e in omega arith
grows v w (c ∷ l) e = let g = grows (v * 10 + worth c) w l (digits_step v w c l e).1 in omega arith

-- after a number that is not 0, they stand as they are
text_on : (v w : ℕ) (l : List ℕ) → 0 < v → w < 10 ^ 20 → digits_read 10 v l ≡ Some w → decimal_text w ≡ decimal_text v ++ l
text_on v w [] low high e = rw (digits_end v w e) (sym (append-nil (decimal_text w)))
text_on v w (c ∷ l) low high e =
    let s = digits_step v w c l e in
    let d = s.0 in
    let n : ℕ = v * 10 + worth c in
    let g : n ≤ w = grows n w l s.1 in
    let q : n / 10 ≡ v = omega arith in
    let r : n % 10 ≡ worth c = omega arith in
    let m : decimal_text n ≡ decimal_text v ++ (c ∷ []) = decimal_more n (omega arith) (omega arith) ∙ rw (q, r, glyph_back c d) in
    text_on n w l (omega arith) high s.1 ∙ ap (λ (t : List ℕ). t ++ l) m ∙ append_snoc (decimal_text v) c l

decimal_parts : (l : List ℕ) (w : ℕ) → decimal_of l ≡ Some w → (leading_zero l ≡ false) × (digits_read 10 0 l ≡ Some w)
decimal_parts l w e = go (is_short l) (leading_zero l) e
  where
    go : (u v : Bool) → cond u (cond v None (digits_read 10 0 l)) None ≡ Some w → (v ≡ false) × (digits_read 10 0 l ≡ Some w)
    go true false e = (refl, e)
    go true true e = let z : ◌≡◌ {A = ℕ} 0 1 = cc in absurd (omega arith)
    go false v e = let z : ◌≡◌ {A = ℕ} 0 1 = cc in absurd (omega arith)

decimal_text_lem : (l : List ℕ) (w : ℕ) → w < 10 ^ 20 → decimal_of l ≡ Some w → decimal_text w ≡ l
decimal_text_lem [] w high e = let z : ◌≡◌ {A = ℕ} 0 1 = cc in absurd (omega arith)
decimal_text_lem (c ∷ l) w high e = go l (eqb (worth c) 0) refl parts.0 s.1
  where
    parts : (leading_zero (c ∷ l) ≡ false) × (digits_read 10 0 (c ∷ l) ≡ Some w)
    parts = decimal_parts (c ∷ l) w e

    s : (worth c < 10) × (digits_read 10 (0 * 10 + worth c) l ≡ Some w)
    s = digits_step 0 w c l parts.1

    first : (n : ℕ) → n ≡ worth c → decimal_text n ≡ c ∷ []
    first n q = let h = s.0 in rw q (decimal_one (worth c) (omega arith) h ∙ rw (glyph_back c h))

    go : (l : List ℕ) (t : Bool) → eqb (worth c) 0 ≡ t → leading_zero (c ∷ l) ≡ false → digits_read 10 (0 * 10 + worth c) l ≡ Some w → decimal_text w ≡ c ∷ l
    go [] t p q r = first w (omega (arith, digits_end _ w r))
    go (d ∷ l) true p q r =
        let o = eqb-true (worth c) 0 p in
        let k = digit_of_lem c s.0 in
        let i : ltb 1 (suc (suc (length l))) ≡ true = lt-ltb 1 (suc (suc (length l))) (omega arith) in
        let j : eqb c 48 ≡ true = eq-eqb c 48 (omega arith) in
        let z : ◌≡◌ {A = ℕ} 0 1 = cc in absurd (omega arith)
    go (d ∷ l) false p q r =
        let n = eqb-false (worth c) 0 p in
        text_on (0 * 10 + worth c) w (d ∷ l) (omega arith) high r ∙ ap (λ (x : List ℕ). x ++ (d ∷ l)) (first (0 * 10 + worth c) (omega arith))

-- ---- registers and SFRs

same_text : (a b : List ℕ) → same_of a b ≡ true → a ≡ b
unfolding same_of
same_text [] [] e = refl
same_text [] (y ∷ b) e = let z : ◌≡◌ {A = ℕ} 0 1 = cc in absurd (omega arith)
same_text (x ∷ a) [] e = let z : ◌≡◌ {A = ℕ} 0 1 = cc in absurd (omega arith)
same_text (x ∷ a) (y ∷ b) e =
    ap₂ (λ (c : ℕ) (l : List ℕ). c ∷ l) (eqb-true x y (and_left (eqb x y) (same_of a b) e)) (same_text a b (and_right (eqb x y) (same_of a b) e))

-- letters p, and a number below n after them
numbered_text : (p : List ℕ) (n : ℕ) (f : List ℕ) → n < 100 → numbered_of p n f < n → p ++ decimal_text (numbered_of p n f) ≡ f
unfolding numbered_of
numbered_text p n f low = go (same_of (take (length p) f) p) refl (decimal_of (drop (length p) f)) refl
  where
    ends : (v : ℕ) → v < n → same_of (take (length p) f) p ≡ true → decimal_of (drop (length p) f) ≡ Some v → p ++ decimal_text v ≡ f
    ends v h e q =
        ap₂ ◌++◌ (sym (same_text (take (length p) f) p e)) (decimal_text_lem (drop (length p) f) v (omega arith) q) ∙ take-append-drop (length p) f

    go : (t : Bool) → same_of (take (length p) f) p ≡ t → (d : Option ℕ) → decimal_of (drop (length p) f) ≡ d → cond t (below n d) n < n → p ++ decimal_text (cond t (below n d) n) ≡ f
    go true e (Some v) q h = at (ltb v n) refl h
      where
        at : (u : Bool) → ltb v n ≡ u → cond u v n < n → p ++ decimal_text (cond u v n) ≡ f
        at true i h = ends v h e q
        at false i h = absurd (omega arith)
    go true e None q h = absurd (omega arith)
    go false e d q h = absurd (omega arith)

register_text_lem : (n : ℕ) (f : List ℕ) → n < 100 → ltb (numbered_of (ascii "r") n f) n ≡ true → operand_text (Operand.Reg (numbered_of (ascii "r") n f)) ≡ tab f
unfolding operand_text
register_text_lem n f low e = ap tab (numbered_text (ascii "r") n f low (ltb-true _ _ e))

sfr_text : (n : ℕ) (f : List ℕ) → n < 100 → ltb (numbered_of (ascii "sfr") n f) n ≡ true → operand_text (Operand.Sfr (numbered_of (ascii "sfr") n f)) ≡ tab f
unfolding operand_text
sfr_text n f low e = ap tab (numbered_text (ascii "sfr") n f low (ltb-true _ _ e))

-- ---- expressions

-- one that has a value is read whole
whole_field : (f : List ℕ) (z : ℤ) (n : ℕ) (r : Valued) → (r ≡ Err Fault.Deep) ⊎ (is_whole f r ≡ true) → r ≡ Ok (Value.Is z, n) → n ≡ length f
unfolding is_whole
whole_field f z n r (inl d) e = let z : ◌≡◌ {A = ℕ} 0 1 = cc in absurd (omega arith)
whole_field f z n r (inr w) e = eqb-true n (length f) (subst (λ (x : Valued). is_whole f x ≡ true) e w)

sum_writes : (t : Labels) (f : List ℕ) (z : ℤ) (n : ℕ) → is_sum f ≡ true → value_of t f ≡ Ok (Value.Is z, n) → Writes t (Operand.Number (bits_of z)) f
unfolding value_of
sum_writes t f z n s e =
    let w = value_word t f z n e in
    let l : n ≡ length f = whole_field f z n (sum_of t 8 f) (only_depth f s t 8) e in
    (w.0, e ∙ rw (w.1, l))

-- ---- operands: each sort's, where v is the value of the line's expression

abbrev pub operand_by : Sort → List ℕ → ℕ → Operand
operand_by Sort.Nothing f v = Operand.Number v
operand_by Sort.Never f v = Operand.Number v
operand_by Sort.Reg f v = Operand.Reg (number_at Sort.Reg f)
operand_by Sort.Sfr f v = Operand.Sfr (number_at Sort.Sfr f)
operand_by Sort.LowSfr f v = Operand.Sfr (number_at Sort.LowSfr f)
operand_by Sort.Sum f v = Operand.Number v

-- the value is that of the field, where it is an expression
pub operand_writes : (t : Labels) (z : ℤ) (n : ℕ) (s : Sort) (f : List ℕ) → fields_of s ≡ 1 → is_of s f ≡ true
    → sum_at t s f (Ok (Value.Is z, n)) ≡ Ok (Value.Is z, n) → Writes t (operand_by s f (bits_of z)) f
unfolding is_of number_at sum_at
operand_writes t z n Sort.Nothing f o h e = absurd (omega arith)
operand_writes t z n Sort.Never f o h e = absurd (omega arith)
operand_writes t z n Sort.Reg f o h e = register_text_lem 16 f (omega arith) h
operand_writes t z n Sort.Sfr f o h e = sfr_text 11 f (omega arith) h
operand_writes t z n Sort.LowSfr f o h e = sfr_text 4 f (omega arith) h
operand_writes t z n Sort.Sum f o h e = sum_writes t f z n h e

-- ---- operands from what is written of them

same_self : (a : List ℕ) → same_of a a ≡ true
unfolding same_of
same_self [] = refl
same_self (x ∷ a) = rw (eq-eqb x x refl) (same_self a)

-- letters p, and after them a number that is below b
numbered_back : (p : List ℕ) (b n : ℕ) → b < 100 → n < b → numbered_of p b (p ++ decimal_text n) ≡ n
unfolding numbered_of
numbered_back p b n l h = rw (take-append_seam, drop-append_seam, same_self p, decimal_reads n (omega arith), lt-ltb n b h)

pub register_back : (n : ℕ) → n < 16 → number_at Sort.Reg (drop 1 (operand_text (Operand.Reg n))) ≡ n
unfolding number_at operand_text
register_back n = numbered_back (ascii "r") 16 n (omega arith)

pub sfr_back : (n : ℕ) → n < 11 → number_at Sort.Sfr (drop 1 (operand_text (Operand.Sfr n))) ≡ n
unfolding number_at operand_text
sfr_back n = numbered_back (ascii "sfr") 11 n (omega arith)

pub low_back : (n : ℕ) → n < 4 → number_at Sort.LowSfr (drop 1 (operand_text (Operand.Sfr n))) ≡ n
unfolding number_at operand_text
low_back n = numbered_back (ascii "sfr") 4 n (omega arith)

module _ (f : List ℕ) (n : ℕ) where
  pub register : n < 16 → operand_text (Operand.Reg n) ≡ tab f → number_at Sort.Reg f ≡ n
  register h e = ap (λ (l : List ℕ). number_at Sort.Reg (drop 1 l)) (sym e) ∙ register_back n h

  pub sfr : n < 11 → operand_text (Operand.Sfr n) ≡ tab f → number_at Sort.Sfr f ≡ n
  sfr h e = ap (λ (l : List ℕ). number_at Sort.Sfr (drop 1 l)) (sym e) ∙ sfr_back n h

  pub low_sfr : n < 4 → operand_text (Operand.Sfr n) ≡ tab f → number_at Sort.LowSfr f ≡ n
  low_sfr h e = ap (λ (l : List ℕ). number_at Sort.LowSfr (drop 1 l)) (sym e) ∙ low_back n h
