-- Laws of names: the letters and digits that lead, and a name's number.
-- Assumes nothing.
use Prim.Native.Nat.{ℕ, zero, suc, ◌+◌, ◌*◌, ◌-◌, ◌^◌, ◌<◌, ◌≤◌}
use Prim.Native.Nat.compare.{suc-suc}
use mathlib.Core.Path.{◌≡◌, refl, sym, ap, ap₂, subst, ◌∙◌}
use mathlib.Core.Bool.{Bool, true, false, cond, ◌&&◌}
use mathlib.Core.List.{List, [], ◌∷◌, map}
use native.Mathlib.Omega.{arith}
use lib.Dec.{eqb, leb, ltb}
use borrow.Author.Tests.{le-leb, lt-leb, lt-ltb, ltb-true, ltb-false, leb-true, leb-false, eqb-true, ne_eqb, eq-eqb}
use native.Mathlib.Nat.{pow-le-pow_right}
use lib.Pow.{pow-add}
use lib.ListN.{length, get_or, take, drop, length-take, length-drop, drop_of_length-le}
use native.Mathlib.Nat.{le_refl}
use lib.Seq.{length-take-le, take_all}
use Rattle.std.proofs.lemmas.List.{drop_more}
use Rattle.std.specs.Prelude.{Option, Some, None, Ok, Err}
use Rattle.std.specs.Option.{option_map, option_map_or}
use Rattle.expr.specs.declared.Value.{Value}
use Rattle.expr.specs.Value.{signed_word}
use Rattle.expr.specs.Parts.{named, led_by}
use Rattle.std.specs.List.{find}
use Rattle.expr.specs.declared.Entry.{Entry}
use Rattle.expr.specs.declared.Fault.{Fault}
use Rattle.expr.specs.Expr.{Read}
use Rattle.expr.specs.Expr.{is_letter, is_digit, run_of, rank_of, key_from, is_name, Labels, labels_in, names, index_of, found, meaning, is_hex, number_read, word_read, leaf_of}
use Rattle.expr.proofs.Laws.{next}

-- ---- how far the name reaches

module _ (l : List ℕ) (i : ℕ) (inv : run_of l ≡ run_of (drop i l) + i) where
  pub run_more : i < length l → named (get_or l i 0) ≡ true → run_of l ≡ run_of (drop (i + 1) l) + (i + 1)
  unfolding run_of
  run_more h e = let z : run_of (drop i l) ≡ suc (run_of (drop (i + 1) l)) = rw (next l i h, e) in omega arith

  pub run_here : i < length l → named (get_or l i 0) ≡ false → i ≡ run_of l
  unfolding run_of
  run_here h e = let z : run_of (drop i l) ≡ 0 = rw (next l i h, e) in omega arith

  pub run_end : length l ≤ i → i ≡ run_of l
  unfolding run_of
  run_end h = let z : run_of (drop i l) ≡ 0 = rw (drop_of_length-le l h) in omega arith

both_true : (t : Bool) (n m : ℕ) → cond t (suc n) 0 ≡ suc m → (t ≡ true) × (n ≡ m)
both_true true n m e = (refl, omega arith)
both_true false n m e = absurd (omega arith)

-- all of it is a name's, so its first is and the others are
pub all_named : (c : ℕ) (s : List ℕ) → run_of (c ∷ s) ≡ length (c ∷ s) → (named c ≡ true) × (run_of s ≡ length s)
unfolding run_of
all_named c s e = both_true (named c) (run_of s) (length s) e

-- the letters and digits that lead are all that a word has
pub run_most : (s : List ℕ) → run_of s ≤ length s
unfolding run_of
run_most [] = omega arith
run_most (c ∷ s) = go (named c) (run_most s)
  where
    go : (t : Bool) → run_of s ≤ length s → cond t (suc (run_of s)) 0 ≤ suc (length s)
    go true h = omega arith
    go false h = omega arith

-- what is read of a part is not longer than the whole
pub size_in : (s : List ℕ) (n x : ℕ) → x ≤ length (take n s) → x ≤ length s
size_in s n x h = let k = rw length-take at h in omega arith

-- ---- the first label of a name

-- a look-up in the list of labels means what one in both lists does
pub found_means : (l : List Entry) (k : ℕ) → option_map_or (λ (n : ℕ). Value.Is (signed_word n)) (found l k) Value.Unknown ≡ meaning (labels_in l) k
unfolding meaning index_of
found_means [] k = refl
found_means (x ∷ l) k = go (eqb x.name k) (found_means l k)
  where
    go : (t : Bool) → option_map_or (λ (n : ℕ). Value.Is (signed_word n)) (found l k) Value.Unknown ≡ meaning (labels_in l) k
        → option_map_or (λ (n : ℕ). Value.Is (signed_word n)) (option_map (λ (y : Entry). y.place) (cond t (Some x) (find (λ (y : Entry). eqb y.name k) l))) Value.Unknown
        ≡ cond (ltb (cond t 0 (suc (index_of (names l) k))) (suc (length (names l)))) (Value.Is (signed_word (get_or (x.place ∷ (labels_in l).places) (cond t 0 (suc (index_of (names l) k))) 0))) Value.Unknown
    go true h = rw (lt-ltb 0 (suc (length (names l))) (omega arith))
    go false h = rw suc-suc h

-- the place of a number among what is looked through, from the item at n on
module _ {A : Type 0} (f : A → ℕ) (k : ℕ) (l : List A) where
  module _ (n : ℕ) (x d : A) (h : n < length l) (e : x ≡ get_or l n d) where
    pub place_here : f x ≡ k → index_of (map f (drop n l)) k ≡ 0
    unfolding index_of
    place_here p = rw (drop_more l n d h, ← e, eq-eqb _ _ p)

    pub place_on : (f x ≡ k → ⊥) → index_of (map f (drop n l)) k ≡ suc (index_of (map f (drop (n + 1) l)) k)
    unfolding index_of
    place_on p = rw (drop_more l n d h, ← e, ne_eqb _ _ p)

  pub place_end : (n : ℕ) → length l ≤ n → index_of (map f (drop n l)) k ≡ 0
  unfolding index_of
  place_end n h = rw (drop_of_length-le l h)

-- the same of the four that lead: each item, and its number r as the code has it
module _ {A : Type 0} (f : A → ℕ) (k : ℕ) (l : List A) (h : 4 ≤ length l) where
  on : (n : ℕ) (x d : A) (r : ℕ) → n < length l → x ≡ get_or l n d → r ≡ f x → (r ≡ k → ⊥) → index_of (map f (drop n l)) k ≡ suc (index_of (map f (drop (n + 1) l)) k)
  on n x d r b e q m = place_on f k l n x d b e (λ p. m (q ∙ p))

  here : (n : ℕ) (x d : A) (r : ℕ) → n < length l → x ≡ get_or l n d → r ≡ f x → r ≡ k → index_of (map f (drop n l)) k ≡ 0
  here n x d r b e q p = place_here f k l n x d b e (sym q ∙ p)

  module _ (a da : A) (ra : ℕ) (ea : a ≡ get_or l 0 da) (qa : ra ≡ f a) where
    pub is_first : ra ≡ k → index_of (map f l) k ≡ 0
    is_first p = here 0 a da ra (omega arith) ea qa p

    module _ (na : ra ≡ k → ⊥) (b db : A) (rb : ℕ) (eb : b ≡ get_or l 1 db) (qb : rb ≡ f b) where
      pub is_second : rb ≡ k → index_of (map f l) k ≡ 1
      is_second p =
          let x = on 0 a da ra (omega arith) ea qa na in
          let y = here 1 b db rb (omega arith) eb qb p in
          omega arith

      module _ (nb : rb ≡ k → ⊥) (c dc : A) (rc : ℕ) (ec : c ≡ get_or l 2 dc) (qc : rc ≡ f c) where
        third : (m : ℕ) → index_of (map f (drop 2 l)) k ≡ m → index_of (map f l) k ≡ m + 2
        third m z =
            let x = on 0 a da ra (omega arith) ea qa na in
            let y = on 1 b db rb (omega arith) eb qb nb in
            omega arith

        pub is_third : rc ≡ k → index_of (map f l) k ≡ 2
        is_third p = third 0 (here 2 c dc rc (omega arith) ec qc p)

        module _ (nc : rc ≡ k → ⊥) (e de : A) (re : ℕ) (ee : e ≡ get_or l 3 de) (qe : re ≡ f e) where
          pub is_fourth : re ≡ k → index_of (map f l) k ≡ 3
          is_fourth p = third 1 (let x = on 2 c dc rc (omega arith) ec qc nc in let y = here 3 e de re (omega arith) ee qe p in omega arith)

          pub is_beyond : (re ≡ k → ⊥) → index_of (map f l) k ≡ index_of (map f (drop 4 l)) k + 4
          is_beyond p =
              let x = on 2 c dc rc (omega arith) ec qc nc in
              let y = on 3 e de re (omega arith) ee qe p in
              let z = third (index_of (map f (drop 4 l)) k + 2) (omega arith) in
              omega arith

-- where the first label stands that has a name, by its place among the names
in_names : (l : List Entry) (k : ℕ) (d : Entry) → index_of (names l) k < length l → ◌≡◌ {A = Option ℕ} (Some (get_or l (index_of (names l) k) d).place) (found l k)
unfolding index_of
in_names [] k d h = absurd (omega arith)
in_names (x ∷ l) k d h = go (eqb x.name k) (in_names l k d) h
  where
    go : (t : Bool) → (index_of (names l) k < length l → ◌≡◌ {A = Option ℕ} (Some (get_or l (index_of (names l) k) d).place) (found l k))
        → cond t 0 (suc (index_of (names l) k)) < suc (length l)
        → ◌≡◌ {A = Option ℕ} (Some (get_or (x ∷ l) (cond t 0 (suc (index_of (names l) k))) d).place) (option_map (λ (y : Entry). y.place) (cond t (Some x) (find (λ (y : Entry). eqb y.name k) l)))
    go true r h = refl
    go false r h = r (omega arith)

past_names : (l : List Entry) (k : ℕ) → length l ≤ index_of (names l) k → ◌≡◌ {A = Option ℕ} None (found l k)
unfolding index_of
past_names [] k h = refl
past_names (x ∷ l) k h = go (eqb x.name k) (past_names l k) h
  where
    go : (t : Bool) → (length l ≤ index_of (names l) k → ◌≡◌ {A = Option ℕ} None (found l k)) → suc (length l) ≤ cond t 0 (suc (index_of (names l) k))
        → ◌≡◌ {A = Option ℕ} None (option_map (λ (y : Entry). y.place) (cond t (Some x) (find (λ (y : Entry). eqb y.name k) l)))
    go true r h = absurd (omega arith)
    go false r h = r (omega arith)

module _ (l : List Entry) (k n : ℕ) (e : n ≡ index_of (names l) k) where
  pub placed_in : (d : Entry) → n < length l → ◌≡◌ {A = Option ℕ} (Some (get_or l n d).place) (found l k)
  placed_in d h = subst (λ (m : ℕ). m < length l → ◌≡◌ {A = Option ℕ} (Some (get_or l m d).place) (found l k)) (sym e) (in_names l k d) h

  pub placed_past : length l ≤ n → ◌≡◌ {A = Option ℕ} None (found l k)
  placed_past h = past_names l k (subst (λ (m : ℕ). length l ≤ m) e h)

-- ---- a letter's or digit's worth

flags : (a b : Bool) → (a && b) ≡ true → (a ≡ true) × (b ≡ true)
flags true true e = (refl, refl)
flags true false e = absurd (let z : ◌≡◌ {A = ℕ} 0 1 = cc in omega arith)
flags false b e = absurd (let z : ◌≡◌ {A = ℕ} 0 1 = cc in omega arith)

pub letter_range : (c : ℕ) → is_letter c ≡ true → (97 ≤ c) × (c ≤ 122)
letter_range c e = let f = flags (leb 97 c) (leb c 122) e in (leb-true 97 c f.0, leb-true c 122 f.1)

pub digit_range : (c : ℕ) → is_digit c ≡ true → (48 ≤ c) × (c ≤ 57)
digit_range c e = let f = flags (leb 48 c) (leb c 57) e in (leb-true 48 c f.0, leb-true c 57 f.1)

pub hex_long : (w : List ℕ) → is_hex w ≡ true → 2 ≤ length w
hex_long w e = let h = ltb-true 2 (length w) (flags _ (eqb (get_or w 0 0) 48) (flags _ (eqb (get_or w 1 0) 120) e).0).0 in omega arith

-- the first of a word's bytes is the text's
pub first_named : (s : List ℕ) → is_letter (get_or s 0 0) ≡ true → is_letter (get_or (take (run_of s) s) 0 0) ≡ true
unfolding run_of
first_named [] e = e
first_named (c ∷ s) e = rw e e

pub first_other : (s : List ℕ) (n : ℕ) → is_letter (get_or s 0 0) ≡ false → is_letter (get_or (take n s) 0 0) ≡ false
first_other s zero e = refl
first_other [] (suc n) e = refl
first_other (c ∷ s) (suc n) e = e

pub first_letter : (s : List ℕ) (b : ℕ) (r t : Bool) → b ≡ get_or s 0 0 → r ≡ is_letter b → r ≡ t → is_letter (get_or s 0 0) ≡ t
first_letter s b r t e f g = ap is_letter (sym e) ∙ sym f ∙ g

-- a name's byte that is no letter is a digit
pub or_digit : (c : ℕ) → named c ≡ true → is_letter c ≡ false → is_digit c ≡ true
or_digit c e f = rw f at e

pub rank_of_lem : (c : ℕ) → named c ≡ true → (1 ≤ rank_of c) × (rank_of c ≤ 36)
rank_of_lem c e = go (is_letter c) refl
  where
    go : (t : Bool) → is_letter c ≡ t → (1 ≤ cond t (c - 86) (c - 47)) × (cond t (c - 86) (c - 47) ≤ 36)
    go true p = let r = letter_range c p in (omega arith, omega arith)
    go false p = let r = digit_range c (or_digit c e p) in (omega arith, omega arith)

-- a byte has a rank exactly if it is a letter or a digit
module _ (c : ℕ) (o : Option ℕ) (e : o ≡ cond (named c) (Some (rank_of c)) None) where
  pub rank_some : (r : ℕ) → o ≡ Some r → (named c ≡ true) × (r ≡ rank_of c)
  rank_some r f = go (named c) refl e
    where
      go : (t : Bool) → named c ≡ t → o ≡ cond t (Some (rank_of c)) None → (named c ≡ true) × (r ≡ rank_of c)
      go true p q = (p, cc)
      go false p q = let z : ◌≡◌ {A = ℕ} 0 1 = cc in absurd (omega arith)

  pub rank_none : o ≡ None → named c ≡ false
  rank_none f = go (named c) refl e
    where
      go : (t : Bool) → named c ≡ t → o ≡ cond t (Some (rank_of c)) None → named c ≡ false
      go true p q = let z : ◌≡◌ {A = ℕ} 0 1 = cc in absurd (omega arith)
      go false p q = p

-- ---- a name's number

-- the name that leads from a place on
abbrev pub lead : List ℕ → ℕ → List ℕ
lead l i = take (run_of (drop i l)) (drop i l)

module _ (l : List ℕ) (i : ℕ) (h : i < length l) where
  pub lead_on : named (get_or l i 0) ≡ true → (v r : ℕ) → r ≡ rank_of (get_or l i 0) → key_from v (lead l i) ≡ key_from (v * 37 + r) (lead l (i + 1))
  unfolding key_from run_of
  lead_on e v r q = rw (next l i h, e, q)

  pub lead_stop : named (get_or l i 0) ≡ false → (v : ℕ) → key_from v (lead l i) ≡ v
  unfolding key_from run_of
  lead_stop e v = rw (next l i h, e)

pub lead_end : (l : List ℕ) (i : ℕ) → length l ≤ i → (v : ℕ) → key_from v (lead l i) ≡ v
unfolding key_from run_of
lead_end l i h v = rw (drop_of_length-le l h)

-- what is found of the letters and digits that lead
module _ (s : List ℕ) where
  pub led_here : (v i : ℕ) → i ≡ run_of s → v ≡ key_from 0 (lead s 0) → i ≤ 12 → Some (v, i) ≡ led_by s
  unfolding led_by
  led_here v i p q h = let k : run_of s ≤ 12 = omega arith in rw (le-leb (run_of s) 12 k, p, q)

  pub led_long : (i : ℕ) → i < run_of s → 12 ≤ i → None ≡ led_by s
  unfolding led_by
  led_long i p h = let k : 12 < run_of s = omega arith in rw (lt-leb (run_of s) 12 k)

  pub led_some : (v n : ℕ) → led_by s ≡ Some (v, n) → (run_of s ≤ 12) × (v ≡ key_from 0 (lead s 0)) × (n ≡ run_of s)
  unfolding led_by
  led_some v n h = go (leb (run_of s) 12) refl h
    where
      go : (t : Bool) → leb (run_of s) 12 ≡ t → cond {A = Option (ℕ × ℕ)} t (Some (key_from 0 (lead s 0), run_of s)) None ≡ Some (v, n) → (run_of s ≤ 12) × (v ≡ key_from 0 (lead s 0)) × (n ≡ run_of s)
      go true p q =
          let e = λ (o : Option (ℕ × ℕ)). option_map_or (λ (x : ℕ × ℕ). x) o (0, 0) in
          (leb-true _ _ p, ap (λ (o : Option (ℕ × ℕ)). (e o).0) (sym q), ap (λ (o : Option (ℕ × ℕ)). (e o).1) (sym q))
      go false p q = let z : ◌≡◌ {A = ℕ} 0 1 = cc in absurd (omega arith)

  led_none : led_by s ≡ None → 12 < run_of s
  unfolding led_by
  led_none h = go (leb (run_of s) 12) refl h
    where
      go : (t : Bool) → leb (run_of s) 12 ≡ t → cond {A = Option (ℕ × ℕ)} t (Some (key_from 0 (lead s 0), run_of s)) None ≡ None → 12 < run_of s
      go true p q = let z : ◌≡◌ {A = ℕ} 0 1 = cc in absurd (omega arith)
      go false p q = leb-false _ _ p

  -- what a text says that a letter leads
  module _ (t : Labels) (e : is_letter (get_or s 0 0) ≡ true) where
    pub word_some : (v n : ℕ) → led_by s ≡ Some (v, n) → Ok (meaning t v, n) ≡ leaf_of t s
    unfolding leaf_of word_read
    word_some v n h =
        let k = led_some v n h in
        rw (first_named s e, length-take-le (run_of s) s (run_most s), le-leb (run_of s) 12 k.0, k.1, k.2)

    pub word_none : led_by s ≡ None → Err Fault.Form ≡ leaf_of t s
    unfolding leaf_of word_read
    word_none h =
        let k : 12 < run_of s = led_none h in
        rw (first_named s e, length-take-le (run_of s) s (run_most s), lt-leb (run_of s) 12 k)

    -- so a name of at most twelve, with its number, is the leaf that leads
    pub name_leaf : (v i : ℕ) → i ≡ run_of s → v ≡ key_from 0 (lead s 0) → i ≤ 12 → Ok (meaning t v, i) ≡ leaf_of t s
    name_leaf v i p q h = word_some v i (sym (led_here v i p q h))

  -- and whether all of it is a name
  pub named_whole : (v n : ℕ) → led_by s ≡ Some (v, n) → n ≡ length s → is_letter (get_or s 0 0) ≡ true → v ≡ cond (is_name s) (key_from 0 s) 0
  named_whole v n h e f =
      let k = led_some v n h in
      let r : run_of s ≡ length s = sym k.2 ∙ e in
      let m : length s ≤ 12 = omega (arith, k.0) in
      rw (f, eq-eqb _ _ r, le-leb _ 12 m, k.1, r, take_all (length s) s (le_refl (length s)))

  pub named_other : is_letter (get_or s 0 0) ≡ false → 0 ≡ cond (is_name s) (key_from 0 s) 0
  named_other f = rw f

  pub named_part : (v n : ℕ) → led_by s ≡ Some (v, n) → (n ≡ length s → ⊥) → 0 ≡ cond (is_name s) (key_from 0 s) 0
  named_part v n h e =
      let k = led_some v n h in
      let f : run_of s ≡ length s → ⊥ = λ z. e (k.2 ∙ z) in
      go (is_letter (get_or s 0 0)) (eqb (run_of s) (length s)) (ne_eqb _ _ f)
    where
      go : (a b : Bool) → b ≡ false → 0 ≡ cond ((a && b) && leb (length s) 12) (key_from 0 s) 0
      go true true p = let z : ◌≡◌ {A = ℕ} 0 1 = cc in absurd (omega arith)
      go true false p = refl
      go false b p = refl

  pub named_long : led_by s ≡ None → 0 ≡ cond (is_name s) (key_from 0 s) 0
  named_long h =
      let k = led_none h in
      let m = run_most s in
      go (is_letter (get_or s 0 0) && eqb (run_of s) (length s)) (leb (length s) 12) (lt-leb _ 12 (omega arith))
    where
      go : (a b : Bool) → b ≡ false → 0 ≡ cond (a && b) (key_from 0 s) 0
      go true b p = rw p
      go false b p = refl

-- a text that no letter leads is a number's
pub other_leaf : (t : Labels) (s : List ℕ) (n : ℕ) (r : Read) → is_letter (get_or s 0 0) ≡ false → n ≡ run_of s → r ≡ number_read (take n s) → r ≡ leaf_of t s
unfolding leaf_of word_read
other_leaf t s n r e p q = rw (q, p, first_other s (run_of s) e)

pub key_more : (v i r : ℕ) → v < 37 ^ i → r ≤ 36 → v * 37 + r < 37 ^ (i + 1)
key_more v i r h k = let p : 37 ^ (i + 1) ≡ 37 ^ i * 37 = pow-add 37 i 1 in omega arith

-- twelve characters fit in 63 bits
pub key_fits : (v i : ℕ) → v < 37 ^ i → i ≤ 12 → v < 2 ^ 63
key_fits v i h k = let p : 37 ^ i ≤ 37 ^ 12 = pow-le-pow_right {n = 37} (omega arith) {j = 12} k in omega arith

pub key_below : (s : List ℕ) (v i : ℕ) → run_of s ≡ length s → v < 37 ^ i → key_from v s < 37 ^ (i + length s)
unfolding key_from
key_below [] v i e h = let p : i + 0 ≡ i = omega arith in rw p h
key_below (c ∷ s) v i e h =
    let n = all_named c s e in
    let p : i + suc (length s) ≡ i + 1 + length s = omega arith in
    rw p (key_below s (v * 37 + rank_of c) (i + 1) n.1 (key_more v i (rank_of c) h (rank_of_lem c n.0).1))

-- ---- names that differ have different numbers

key_least : (s : List ℕ) (v : ℕ) → v ≤ key_from v s
unfolding key_from
key_least [] v = omega arith
key_least (c ∷ s) v = let h = key_least s (v * 37 + rank_of c) in omega arith

pub key_some : (s : List ℕ) → 0 < length s → run_of s ≡ length s → 0 < key_from 0 s
unfolding key_from
key_some [] h e = absurd (omega arith)
key_some (c ∷ s) h e = let r = rank_of_lem c (all_named c s e).0 in let k = key_least s (0 * 37 + rank_of c) in omega arith

rank_same : (c d : ℕ) → named c ≡ true → named d ≡ true → rank_of c ≡ rank_of d → c ≡ d
rank_same c d p q = go (is_letter c) (is_letter d) refl refl
  where
    go : (a b : Bool) → is_letter c ≡ a → is_letter d ≡ b → cond a (c - 86) (c - 47) ≡ cond b (d - 86) (d - 47) → c ≡ d
    go true true f g e = let x = letter_range c f in let y = letter_range d g in omega arith
    go true false f g e = let x = letter_range c f in let y = digit_range d (or_digit d q g) in omega arith
    go false true f g e = let x = digit_range c (or_digit c p f) in let y = letter_range d g in omega arith
    go false false f g e = let x = digit_range c (or_digit c p f) in let y = digit_range d (or_digit d q g) in omega arith

key_same : (a b : List ℕ) (v w : ℕ) → run_of a ≡ length a → run_of b ≡ length b → length a ≡ length b → key_from v a ≡ key_from w b → (v ≡ w) × (a ≡ b)
unfolding key_from
key_same [] [] v w p q l e = (e, refl)
key_same [] (d ∷ b) v w p q l e = absurd (omega arith)
key_same (c ∷ a) [] v w p q l e = absurd (omega arith)
key_same (c ∷ a) (d ∷ b) v w p q l e =
    let m = all_named c a p in
    let n = all_named d b q in
    let x = rank_of_lem c m.0 in
    let y = rank_of_lem d n.0 in
    let k = key_same a b (v * 37 + rank_of c) (w * 37 + rank_of d) m.1 n.1 (omega arith) e in
    let z : rank_of c ≡ rank_of d = omega (arith, k.0) in
    (omega (arith, k.0), ap₂ (λ (i : ℕ) (s : List ℕ). i ∷ s) (rank_same c d m.0 n.0 z) k.1)

key_split : (i v : ℕ) (s : List ℕ) → key_from v s ≡ key_from (key_from v (take i s)) (drop i s)
unfolding key_from
key_split zero v s = refl
key_split (suc i) v [] = refl
key_split (suc i) v (c ∷ s) = key_split i (v * 37 + rank_of c) s

named_parts : (i : ℕ) (s : List ℕ) → run_of s ≡ length s → (run_of (take i s) ≡ length (take i s)) × (run_of (drop i s) ≡ length (drop i s))
unfolding run_of
named_parts zero s e = (refl, e)
named_parts (suc i) [] e = (refl, refl)
named_parts (suc i) (c ∷ s) e = let n = all_named c s e in let k = named_parts i s n.1 in (rw n.0 (ap suc k.0), k.1)

-- the longer one's first bytes would be worth nothing
longer : (a b : List ℕ) → run_of a ≡ length a → run_of b ≡ length b → length b < length a → key_from 0 a ≡ key_from 0 b → ⊥
longer a b p q l e =
    let n = named_parts (length a - length b) a p in
    let t : 0 < length (take (length a - length b) a) = rw length-take (omega arith) in
    let d : length (drop (length a - length b) a) ≡ length b = rw length-drop (omega arith) in
    let z = key_same (drop (length a - length b) a) b _ 0 n.1 q d (sym (key_split (length a - length b) 0 a) ∙ e) in
    let k = key_some (take (length a - length b) a) t n.0 in
    omega (arith, z.0)

pub key_differs : (a b : List ℕ) → run_of a ≡ length a → run_of b ≡ length b → key_from 0 a ≡ key_from 0 b → a ≡ b
key_differs a b p q e = go (ltb (length a) (length b)) (ltb (length b) (length a)) refl refl
  where
    go : (x y : Bool) → ltb (length a) (length b) ≡ x → ltb (length b) (length a) ≡ y → a ≡ b
    go true y f g = absurd (longer b a q p (ltb-true _ _ f) (sym e))
    go false true f g = absurd (longer a b p q (ltb-true _ _ g) e)
    go false false f g = let x = ltb-false (length a) (length b) f in let y = ltb-false (length b) (length a) g in (key_same a b 0 0 p q (omega arith) e).1

-- what makes a name
pub name_parts : (s : List ℕ) → is_name s ≡ true → (0 < length s) × (run_of s ≡ length s) × (length s ≤ 12)
name_parts s e =
    let f = flags _ (leb (length s) 12) e in
    let g = flags (is_letter (get_or s 0 0)) (eqb (run_of s) (length s)) f.0 in
    (lettered s g.0, eqb-true (run_of s) (length s) g.1, leb-true (length s) 12 f.1)
  where
    lettered : (s : List ℕ) → is_letter (get_or s 0 0) ≡ true → 0 < length s
    lettered [] h = absurd (let z : ◌≡◌ {A = ℕ} 0 1 = cc in omega arith)
    lettered (c ∷ s) h = omega arith
