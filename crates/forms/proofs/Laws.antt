-- Laws that the functions' proofs cite.
-- Assumes nothing.
use Prim.Native.Nat.{ℕ, suc, ◌+◌, ◌<◌, ◌≤◌}
use mathlib.Core.Path.{◌≡◌, refl, sym, ap, ◌∙◌}
use mathlib.Core.Bool.{Bool, true, false, cond, not, ◌||◌, ◌&&◌}
use lib.Pointwise.{pointwise}
use Rattle.text.specs.Fields.{same_of}
use Rattle.std.proofs.Common.{Option, Some, None, one-add, ltb}
use Rattle.std.specs.List.{position_or_len}
use Rattle.std.specs.Option.{unwrap_or}
use Rattle.std.proofs.lemmas.List.Recursion.{is_position_or_len}
use Rattle.std.proofs.lemmas.List.Sums.{prefix_len-le-length}
use mathlib.Core.List.{List, [], ◌∷◌}
use native.Mathlib.Numerals.{add-one}
use native.Mathlib.Omega.{arith}
use lib.Dec.{eqb}
use lib.IntN.{ℤ, pos, negsuc}
use mir.Val.{of_z}
use mir.Syntax.{w32}
use lib.ListN.{length, get_or, take, drop, length-drop, drop_of_length-le}
use lib.Seq.{drop-cons, drop-drop, length-take-le}
use borrow.Author.Tests.{eqb-true, ltb-false}
use Rattle.word.specs.Bits.{num}
use Rattle.expr.proofs.Laws.{beyond}
use Rattle.forms.specs.Form.{tabs_in, onto_first, lines_of}
use Rattle.forms.specs.Says.{bits_of}
use Rattle.forms.specs.Parts.{line_size, first_line, stop_of, end_of, stop_at, end_at, past_tab, with_entry, entered}

-- ---- what a slice and an iterator answer

pub same_bytes : (a b : List ℕ) → same_of a b ≡ pointwise eqb a b
unfolding same_of
same_bytes [] [] = refl
same_bytes [] (y ∷ b) = refl
same_bytes (x ∷ a) [] = refl
same_bytes (x ∷ a) (y ∷ b) = ap (λ (t : Bool). eqb x y && t) (same_bytes a b)

-- the first place that passes, or else the length
first_or_all : (p : ℕ → Bool) (l : List ℕ) (r : Option ℕ) → r ≡ cond (ltb (position_or_len p l) (length l)) (Some (position_or_len p l)) None
    → unwrap_or r (length l) ≡ position_or_len p l
first_or_all p l r e = go (ltb (position_or_len p l) (length l)) refl e
  where
    go : (t : Bool) → ltb (position_or_len p l) (length l) ≡ t → r ≡ cond t (Some (position_or_len p l)) None → unwrap_or r (length l) ≡ position_or_len p l
    go true h e = rw e
    go false h e =
        let a = ltb-false _ _ h in
        let b = prefix_len-le-length (λ x. not (p x)) l in
        rw e (omega arith)

abbrev pub is_stop : ℕ → Bool
is_stop c = eqb c 9 || eqb c 10

abbrev pub is_end : ℕ → Bool
is_end c = eqb c 10

-- l: what stands from i on; n: how far the first byte is in it that passes
module _ (t l : List ℕ) (i n : ℕ) (r : Option ℕ) (el : l ≡ drop i t) (en : n ≡ unwrap_or r (length l)) where
  pub stop_found : r ≡ cond (ltb (position_or_len is_stop l) (length l)) (Some (position_or_len is_stop l)) None → i + n ≡ stop_at t i
  unfolding stop_at stop_of
  stop_found er =
      ap (λ (k : ℕ). i + k)
      (en ∙ first_or_all is_stop l r er ∙ sym (is_position_or_len stop_of is_stop refl (λ x xs. ap (cond (is_stop x) 0) (sym (one-add (stop_of xs)))) l) ∙ ap stop_of el)

  pub end_found : r ≡ cond (ltb (position_or_len is_end l) (length l)) (Some (position_or_len is_end l)) None → i + n ≡ end_at t i
  unfolding end_at end_of
  end_found er =
      ap (λ (k : ℕ). i + k)
      (en ∙ first_or_all is_end l r er ∙ sym (is_position_or_len end_of is_end refl (λ x xs. ap (cond (is_end x) 0) (sym (one-add (end_of xs)))) l) ∙ ap end_of el)

-- ---- lists read from one place on

pub tabs_on : (l : List ℕ) (i n : ℕ) → i < length l → n ≡ num (eqb (get_or l i 0) 9) → tabs_in (drop i l) ≡ n + tabs_in (drop (i + 1) l)
unfolding tabs_in
tabs_on l i n h e = rw (drop-cons l i 0, add-one, ← e)

pub tabs_none : (l : List ℕ) (i : ℕ) → length l ≤ i → tabs_in (drop i l) ≡ 0
unfolding tabs_in
tabs_none l i h = rw (drop_of_length-le l h)

pub entered_on : (l : List ℕ) (i : ℕ) (t : List ℕ) → i < length l → entered i (drop i l) t ≡ entered (i + 1) (drop (i + 1) l) (with_entry t (get_or l i 0) i)
unfolding entered
entered_on l i t h = rw (drop-cons l i 0, add-one)

pub entered_end : (l : List ℕ) (i : ℕ) (t : List ℕ) → length l ≤ i → entered i (drop i l) t ≡ t
unfolding entered
entered_end l i t h = rw (drop_of_length-le l h)

-- no tab stands past the end
pub past_none : (l : List ℕ) (i : ℕ) → length l ≤ i → i ≡ past_tab l i
unfolding past_tab
past_none l i h = rw (beyond l i h)

-- ---- the lines of a text, one after the other

line_step : (c : ℕ) (s : List ℕ) (t : Bool) → eqb c 10 ≡ t
    → onto_first c (lines_of s) ≡ (c ∷ take (line_size s) s) ∷ lines_of (drop (line_size s) s)
    → cond t ((10 ∷ []) ∷ lines_of s) (onto_first c (lines_of s))
    ≡ take (cond t 1 (suc (line_size s))) (c ∷ s) ∷ lines_of (drop (cond t 1 (suc (line_size s))) (c ∷ s))
line_step c s true e f = rw (eqb-true c 10 e)
line_step c s false e f = f

first_line_lem : (c : ℕ) (s : List ℕ)
    → lines_of (c ∷ s) ≡ take (line_size (c ∷ s)) (c ∷ s) ∷ lines_of (drop (line_size (c ∷ s)) (c ∷ s))
unfolding lines_of line_size onto_first
first_line_lem c [] = line_step c [] (eqb c 10) refl refl
first_line_lem c (d ∷ s) = line_step c (d ∷ s) (eqb c 10) refl (ap (onto_first c) (first_line_lem d s))

pub size_within : (s : List ℕ) → line_size s ≤ length s
unfolding line_size
size_within [] = omega arith
size_within (c ∷ s) = go (eqb c 10) (size_within s)
  where
    go : (t : Bool) → line_size s ≤ length s → cond t 1 (suc (line_size s)) ≤ suc (length s)
    go true h = omega arith
    go false h = omega arith

pub some_size : (c : ℕ) (s : List ℕ) → 0 < line_size (c ∷ s)
unfolding line_size
some_size c s = go (eqb c 10)
  where
    go : (t : Bool) → 0 < cond t 1 (suc (line_size s))
    go true = omega arith
    go false = omega arith

-- the line at a place, and the rest of the text after it
pub record Line (x l : List ℕ) (i : ℕ) : Type 0 where
  pub lines : lines_of (drop i x) ≡ l ∷ lines_of (drop (i + length l) x)
  pub some : 0 < length l
  pub within : i + length l ≤ length x

some_line : (x l s : List ℕ) (i : ℕ) → drop i x ≡ s → 0 < length s → length s + i ≡ length x → l ≡ first_line s → Line x l i
some_line x l [] i d h n e = absurd (omega arith)
some_line x l (c ∷ s) i d h n e =
    let k : length l ≡ line_size (c ∷ s) = ap length e ∙ length-take-le (line_size (c ∷ s)) (c ∷ s) (size_within (c ∷ s)) in
    let w = size_within (c ∷ s) in
    let p = some_size c s in
    let r : drop (i + length l) x ≡ drop (line_size (c ∷ s)) (c ∷ s)
    = ap (λ (j : ℕ). drop (i + j) x) k ∙ sym (drop-drop (line_size (c ∷ s)) i x) ∙ ap (drop (line_size (c ∷ s))) d in
    record {
      lines = rw (d, r, e) (first_line_lem c s);
      some = omega arith;
      within = omega arith;
    }

pub line_there : (x l : List ℕ) (i : ℕ) → i < length x → l ≡ first_line (drop i x) → Line x l i
line_there x l i h e =
    let n = length-drop i x in
    some_line x l (drop i x) i refl (omega arith) (omega arith) e

-- ---- values as bits

pub cast_is : (z : ℤ) → of_z w32 z ≡ bits_of z
unfolding bits_of
cast_is (pos n) = refl
cast_is (negsuc n) = omega arith
