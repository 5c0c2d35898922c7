-- The fields of a line whose texts have no tab and no newline.
-- Assumes nothing.
use Prim.Native.Nat.{ℕ, suc, ◌+◌, ◌-◌}
use mathlib.Core.Path.{◌≡◌, refl, sym, ap, ◌∙◌}
use mathlib.Core.Bool.{Bool, true, not, ◌&&◌}
use mathlib.Core.List.{List, [], ◌∷◌, ◌++◌, append-nil}
use native.Mathlib.Omega.{arith}
use lib.Dec.{ltb, eqb}
use lib.ListN.{length, drop, length-append}
use lib.Seq.{take-length, take_at, get_or_at}
use borrow.Author.Tests.{ltb-true, eq-eqb, ne_eqb, not-true}
use Rattle.isa.proofs.Rows.{and_left, and_right}
use Rattle.text.specs.Fields.{tab_of, before_of, beyond_of}
use Rattle.columns.proofs.Plain.{is_plain, both}
use Rattle.forms.specs.Form.{is_ended, body_of, tabs_in, field_at, onto_first, lines_of}

-- ---- a text before a tab, or before the line's end

pub tab_at : (f r : List ℕ) → is_plain f ≡ true → tab_of (f ++ (9 ∷ r)) ≡ length f
unfolding is_plain tab_of
tab_at [] r e = refl
tab_at (c ∷ f) r e =
    let h = ltb-true 10 c (and_left (ltb 10 c) (is_plain f) e) in
    rw (ne_eqb c 9 (λ q. omega arith)) (ap suc (tab_at f r (and_right (ltb 10 c) (is_plain f) e)))

tab_none : (f : List ℕ) → is_plain f ≡ true → tab_of f ≡ length f
unfolding is_plain tab_of
tab_none [] e = refl
tab_none (c ∷ f) e =
    let h = ltb-true 10 c (and_left (ltb 10 c) (is_plain f) e) in
    rw (ne_eqb c 9 (λ q. omega arith)) (ap suc (tab_none f (and_right (ltb 10 c) (is_plain f) e)))

pub before_plain : (f r : List ℕ) → is_plain f ≡ true → before_of (f ++ (9 ∷ r)) ≡ f
before_plain f r e = take_at f (9 ∷ r) (tab_of (f ++ (9 ∷ r))) (sym (tab_at f r e))

dropped : (f : List ℕ) (c : ℕ) (r : List ℕ) (n : ℕ) → n ≡ length f → drop (n + 1) (f ++ (c ∷ r)) ≡ r
dropped [] c r n e = let z : n ≡ 0 = e in rw z
dropped (d ∷ f) c r n e = let z : n + 1 ≡ suc (length f + 1) = omega arith in rw z (dropped f c r (length f) refl)

pub beyond_plain : (f r : List ℕ) → is_plain f ≡ true → beyond_of (f ++ (9 ∷ r)) ≡ r
beyond_plain f r e = dropped f 9 r (tab_of (f ++ (9 ∷ r))) (tab_at f r e)

pub before_end : (f : List ℕ) → is_plain f ≡ true → before_of f ≡ f
before_end f e = rw (tab_none f e) (take-length f)

pub tabs_plain : (f r : List ℕ) → is_plain f ≡ true → tabs_in (f ++ r) ≡ tabs_in r
unfolding is_plain tabs_in
tabs_plain [] r e = refl
tabs_plain (c ∷ f) r e =
    let h = ltb-true 10 c (and_left (ltb 10 c) (is_plain f) e) in
    let z = tabs_plain f r (and_right (ltb 10 c) (is_plain f) e) in
    rw (ne_eqb c 9 (λ q. omega arith)) (omega arith)

tabs_more : (r : List ℕ) → tabs_in (9 ∷ r) ≡ 1 + tabs_in r
unfolding tabs_in
tabs_more r = refl

tabs_none : (f : List ℕ) → is_plain f ≡ true → tabs_in f ≡ 0
unfolding tabs_in
tabs_none f e = ap tabs_in (sym (append-nil f)) ∙ tabs_plain f [] e

-- ---- a line's fields: an empty one, a name, and one, two or three more

pub field_label : (r : List ℕ) → field_at 0 (9 ∷ r) ≡ []
unfolding field_at tab_of
field_label r = refl

pub field_name : (n r : List ℕ) → is_plain n ≡ true → field_at 1 (9 ∷ (n ++ (9 ∷ r))) ≡ n
unfolding field_at tab_of
field_name n r e = before_plain n r e

module _ (n f : List ℕ) (hn : is_plain n ≡ true) (hf : is_plain f ≡ true) where
  pub field_first : (r : List ℕ) → field_at 2 (9 ∷ (n ++ (9 ∷ (f ++ (9 ∷ r))))) ≡ f
  unfolding field_at tab_of
  field_first r = ap before_of (beyond_plain n (f ++ (9 ∷ r)) hn) ∙ before_plain f r hf

  pub field_only : field_at 2 (9 ∷ (n ++ (9 ∷ f))) ≡ f
  unfolding field_at tab_of
  field_only = ap before_of (beyond_plain n f hn) ∙ before_end f hf

  pub tabs_one : tabs_in (9 ∷ (n ++ (9 ∷ f))) ≡ 2
  tabs_one = omega (arith, tabs_more (n ++ (9 ∷ f)), tabs_plain n (9 ∷ f) hn, tabs_more f, tabs_none f hf)

  module _ (g : List ℕ) (hg : is_plain g ≡ true) where
    pub field_second : (r : List ℕ) → field_at 3 (9 ∷ (n ++ (9 ∷ (f ++ (9 ∷ (g ++ (9 ∷ r))))))) ≡ g
    unfolding field_at tab_of
    field_second r =
        ap (λ (l : List ℕ). before_of (beyond_of l)) (beyond_plain n (f ++ (9 ∷ (g ++ (9 ∷ r)))) hn)
        ∙ ap before_of (beyond_plain f (g ++ (9 ∷ r)) hf) ∙ before_plain g r hg

    pub field_last : field_at 3 (9 ∷ (n ++ (9 ∷ (f ++ (9 ∷ g))))) ≡ g
    unfolding field_at tab_of
    field_last =
        ap (λ (l : List ℕ). before_of (beyond_of l)) (beyond_plain n (f ++ (9 ∷ g)) hn)
        ∙ ap before_of (beyond_plain f g hf) ∙ before_end g hg

    pub tabs_two : tabs_in (9 ∷ (n ++ (9 ∷ (f ++ (9 ∷ g))))) ≡ 3
    tabs_two =
        omega (arith, tabs_more (n ++ (9 ∷ (f ++ (9 ∷ g)))), tabs_plain n (9 ∷ (f ++ (9 ∷ g))) hn, tabs_more (f ++ (9 ∷ g)), tabs_plain f (9 ∷ g) hf, tabs_more g, tabs_none g hg)

    module _ (k : List ℕ) (hk : is_plain k ≡ true) where
      pub field_third : field_at 4 (9 ∷ (n ++ (9 ∷ (f ++ (9 ∷ (g ++ (9 ∷ k))))))) ≡ k
      unfolding field_at tab_of
      field_third =
          ap (λ (l : List ℕ). before_of (beyond_of (beyond_of l))) (beyond_plain n (f ++ (9 ∷ (g ++ (9 ∷ k)))) hn)
          ∙ ap (λ (l : List ℕ). before_of (beyond_of l)) (beyond_plain f (g ++ (9 ∷ k)) hf)
          ∙ ap before_of (beyond_plain g k hg) ∙ before_end k hk

      pub tabs_three : tabs_in (9 ∷ (n ++ (9 ∷ (f ++ (9 ∷ (g ++ (9 ∷ k))))))) ≡ 4
      tabs_three =
          omega (
            arith,
            tabs_more (n ++ (9 ∷ (f ++ (9 ∷ (g ++ (9 ∷ k)))))),
            tabs_plain n (9 ∷ (f ++ (9 ∷ (g ++ (9 ∷ k))))) hn,
            tabs_more (f ++ (9 ∷ (g ++ (9 ∷ k)))),
            tabs_plain f (9 ∷ (g ++ (9 ∷ k))) hf,
            tabs_more (g ++ (9 ∷ k)),
            tabs_plain g (9 ∷ k) hg,
            tabs_more k,
            tabs_none k hk,
          )

-- ---- lines

before_last : (b : List ℕ) (c : ℕ) → length (b ++ (c ∷ [])) - 1 ≡ length b
before_last b c = rw length-append (omega arith)

pub body_of_lem : (b : List ℕ) → body_of (b ++ (10 ∷ [])) ≡ b
body_of_lem b = take_at b (10 ∷ []) (length (b ++ (10 ∷ [])) - 1) (sym (before_last b 10))

pub ended_by : (b : List ℕ) → is_ended (b ++ (10 ∷ [])) ≡ true
ended_by b = eq-eqb _ 10 (get_or_at b 10 [] 0 (length (b ++ (10 ∷ [])) - 1) (sym (before_last b 10)))

-- no newline
unfoldable pub is_one : List ℕ → Bool
is_one [] = true
is_one (c ∷ l) = not (eqb c 10) && is_one l

pub one_append : (a b : List ℕ) → is_one a ≡ true → is_one b ≡ true → is_one (a ++ b) ≡ true
unfolding is_one
one_append [] b e f = f
one_append (c ∷ a) b e f = both _ _ (and_left (not (eqb c 10)) (is_one a) e) (one_append a b (and_right (not (eqb c 10)) (is_one a) e) f)

pub one_plain : (f : List ℕ) → is_plain f ≡ true → is_one f ≡ true
unfolding is_plain is_one
one_plain [] e = refl
one_plain (c ∷ f) e =
    let h = ltb-true 10 c (and_left (ltb 10 c) (is_plain f) e) in
    both _ _ (ap not (ne_eqb c 10 (λ q. omega arith))) (one_plain f (and_right (ltb 10 c) (is_plain f) e))

pub one_tab : (f : List ℕ) → is_one f ≡ true → is_one (9 ∷ f) ≡ true
unfolding is_one
one_tab f e = e

-- a line, and the lines after it
pub lines_more : (b r : List ℕ) → is_one b ≡ true → lines_of ((b ++ (10 ∷ [])) ++ r) ≡ (b ++ (10 ∷ [])) ∷ lines_of r
unfolding is_one lines_of onto_first
lines_more [] r e = refl
lines_more (c ∷ b) r e =
    rw (not-true (eqb c 10) (and_left (not (eqb c 10)) (is_one b) e), lines_more b r (and_right (not (eqb c 10)) (is_one b) e))

pub lines_none : lines_of [] ≡ []
unfolding lines_of
lines_none = refl
