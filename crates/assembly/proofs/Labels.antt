-- Labels: a label means its first writing, and at most 256 are set.
-- Assumes nothing.
use Prim.Native.Nat.{ℕ, suc, ◌+◌, ◌≤◌, ◌<◌}
use mathlib.Core.Path.{◌≡◌, refl, sym, ap, subst, ◌∙◌}
use mathlib.Core.Bool.{Bool, true, false, cond, not, ◌&&◌}
use mathlib.Core.List.{List, [], ◌∷◌, ◌++◌}
use native.Mathlib.Omega.{arith}
use lib.Dec.{eqb}
use lib.ListN.{length, length-append, get_or-append}
use lib.Seq.{get_or_at}
use borrow.Author.Tests.{ltb-true, ltb-false, le-ltb, eq-eqb, eqb-true}
use Rattle.word.specs.Addresses.{byte_sum}
use Rattle.word.specs.declared.ByteAddr.{ByteAddr}
use Rattle.expr.specs.Expr.{Labels, labels, none, index_of}
use Rattle.forms.specs.Form.{what_in, is_known}
use Rattle.asm.specs.Assemble.{address_of, is_set, has_room, is_new, with_label, label_for, bytes_for, labels_of}
use Rattle.assembly.specs.Assembly.{place_of, first_at}
use Rattle.assembly.proofs.Text.{address_on}

-- ---- a place among numbers

index_kept : (s r : List ℕ) (k : ℕ) → index_of s k < length s → index_of (s ++ r) k ≡ index_of s k
unfolding index_of
index_kept [] r k h = absurd (omega arith)
index_kept (x ∷ s) r k h = go (eqb x k) h (index_kept s r k)
  where
    go : (u : Bool) → cond u 0 (suc (index_of s k)) < suc (length s) → (index_of s k < length s → index_of (s ++ r) k ≡ index_of s k)
        → cond u 0 (suc (index_of (s ++ r) k)) ≡ cond u 0 (suc (index_of s k))
    go true h f = refl
    go false h f = ap suc (f (omega arith))

index_past : (s r : List ℕ) (k : ℕ) → length s ≤ index_of s k → index_of (s ++ r) k ≡ length s + index_of r k
unfolding index_of
index_past [] r k h = omega arith
index_past (x ∷ s) r k h = go (eqb x k) h (index_past s r k)
  where
    go : (u : Bool) → suc (length s) ≤ cond u 0 (suc (index_of s k)) → (length s ≤ index_of s k → index_of (s ++ r) k ≡ length s + index_of r k)
        → cond u 0 (suc (index_of (s ++ r) k)) ≡ suc (length s) + index_of r k
    go true h f = absurd (omega arith)
    go false h f = let e = f (omega arith) in omega arith

index_one : (j k : ℕ) (u : Bool) → eqb j k ≡ u → index_of (j ∷ []) k ≡ cond u 0 1
unfolding index_of
index_one j k u e = rw e

-- ---- one label more

new_parts : (s : List ℕ) (k : ℕ) → is_new s k ≡ true → (length s ≤ index_of s k) × (length s < 256)
new_parts s k e = go (not (eqb k 0)) (is_set s k) (has_room s) refl refl e
  where
    go : (u v w : Bool) → is_set s k ≡ v → has_room s ≡ w → (u && not v && w) ≡ true → (length s ≤ index_of s k) × (length s < 256)
    go true true w p q e = let z : ◌≡◌ {A = ℕ} 0 1 = cc in absurd (omega arith)
    go true false w p q e = (ltb-false (index_of s k) (length s) p, ltb-true (length s) 256 (q ∙ e))
    go false v w p q e = let z : ◌≡◌ {A = ℕ} 0 1 = cc in absurd (omega arith)

-- where a label that is not set is not new, none is
full_by : (s : List ℕ) (k : ℕ) → eqb k 0 ≡ false → length s ≤ index_of s k → is_new s k ≡ false → has_room s ≡ false
full_by s k e h q = rw (e, le-ltb (index_of s k) (length s) h) at q

and_false : (u : Bool) → (u && false) ≡ false
and_false true = refl
and_false false = refl

full_on : (t : Labels) (k : ℕ) (a : ByteAddr) → has_room t.keys ≡ false → with_label t k a ≡ t
unfolding with_label
full_on t k a h = rw (h, and_false)

pub few_labels : (t : Labels) (a : ByteAddr) (ls : List (List ℕ)) → length t.keys ≤ 256 → length (labels_of t a ls).keys ≤ 256
unfolding labels_of with_label
few_labels t a [] h = h
few_labels t a (l ∷ r) h = few_labels (with_label t k a) (byte_sum a (bytes_for (is_known l) (what_in l))) r (go (is_new t.keys k) refl)
  where
    k : ℕ
    k = label_for (is_known l) l

    go : (u : Bool) → is_new t.keys k ≡ u → length (cond u (labels (t.keys ++ (k ∷ [])) (t.places ++ (a.0 ∷ []))) t).keys ≤ 256
    go true e = let n = (new_parts t.keys k e).1 in rw length-append (omega arith)
    go false e = h

-- ---- what a label means

-- k is set, and it stands at x
record Has (t : Labels) (k x : ℕ) : Type 0 where
  even : length t.keys ≡ length t.places
  set : index_of t.keys k < length t.keys
  place : place_of t k ≡ x

-- another label, or a second writing, does not change it
has_on : (t : Labels) (k x j : ℕ) (a : ByteAddr) → Has t k x → Has (with_label t j a) k x
unfolding with_label
has_on t k x j a h = go (is_new t.keys j)
  where
    go : (u : Bool) → Has (cond u (labels (t.keys ++ (j ∷ [])) (t.places ++ (a.0 ∷ []))) t) k x
    go true =
        let i = index_kept t.keys (j ∷ []) k h.set in
        let m = length-append t.keys (j ∷ []) in
        let n = length-append t.places (a.0 ∷ []) in
        let s = h.set in
        let e = h.even in
        record {
          even = omega arith;
          set = omega arith;
          place = rw (i, get_or-append t.places (a.0 ∷ []) 0 (index_of t.keys k) (omega arith)) h.place;
        }
    go false = h

has_all : (t : Labels) (k x : ℕ) (a : ByteAddr) (ls : List (List ℕ)) → Has t k x → Has (labels_of t a ls) k x
unfolding labels_of
has_all t k x a [] h = h
has_all t k x a (l ∷ r) h = has_all (with_label t (label_for (is_known l) l) a) k x _ r (has_on t k x (label_for (is_known l) l) a h)

-- k is not set yet
record Lacks (t : Labels) (k : ℕ) : Type 0 where
  even : length t.keys ≡ length t.places
  unset : length t.keys ≤ index_of t.keys k

has_new : (t : Labels) (k : ℕ) (a : ByteAddr) → Lacks t k → is_new t.keys k ≡ true → Has (with_label t k a) k a.0
unfolding with_label
has_new t k a h e =
    let i = index_past t.keys (k ∷ []) k h.unset in
    let m = length-append t.keys (k ∷ []) in
    let n = length-append t.places (a.0 ∷ []) in
    let o = index_one k k true (eq-eqb k k refl) in
    let s = h.even in
    rw e
    record {
      even = omega arith;
      set = omega arith;
      place = get_or_at t.places a.0 [] 0 (index_of (t.keys ++ (k ∷ [])) k) (omega arith);
    }

lacks_on : (t : Labels) (k j : ℕ) (a : ByteAddr) → eqb j k ≡ false → Lacks t k → Lacks (with_label t j a) k
unfolding with_label
lacks_on t k j a e h = go (is_new t.keys j)
  where
    go : (u : Bool) → Lacks (cond u (labels (t.keys ++ (j ∷ [])) (t.places ++ (a.0 ∷ []))) t) k
    go true =
        let i = index_past t.keys (j ∷ []) k h.unset in
        let m = length-append t.keys (j ∷ []) in
        let n = length-append t.places (a.0 ∷ []) in
        let o = index_one j k false e in
        let s = h.even in
        record { even = omega arith; unset = omega arith }
    go false = h

full_all : (t : Labels) (a : ByteAddr) (ls : List (List ℕ)) → has_room t.keys ≡ false → labels_of t a ls ≡ t
unfolding labels_of
full_all t a [] h = refl
full_all t a (l ∷ r) h = rw (full_on t (label_for (is_known l) l) a h) (full_all t (byte_sum a (bytes_for (is_known l) (what_in l))) r h)

first_place : (t : Labels) (k p : ℕ) (ls : List (List ℕ)) → eqb k 0 ≡ false → Lacks t k → is_set (labels_of t (address_of p) ls).keys k ≡ true
    → place_of (labels_of t (address_of p) ls) k ≡ (address_of (first_at k p ls)).0
unfolding labels_of first_at
first_place t k p [] e h q = let a = ltb-true (index_of t.keys k) (length t.keys) q in let b = h.unset in absurd (omega arith)
first_place t k p (l ∷ r) e h q =
    go (eqb j k) refl (first_place (with_label t j (address_of p)) k (p + bytes_for (is_known l) (what_in l)) r e)
  where
    j : ℕ
    j = label_for (is_known l) l

    n : ℕ
    n = bytes_for (is_known l) (what_in l)

    all : ByteAddr → Labels
    all a = labels_of (with_label t j (address_of p)) a r

    new : (u : Bool) → is_new t.keys k ≡ u → j ≡ k → place_of (all (byte_sum (address_of p) n)) k ≡ (address_of p).0
    new true f i =
        let m : Has (with_label t j (address_of p)) k (address_of p).0 = rw i (has_new t k (address_of p) h f) in
        (has_all (with_label t j (address_of p)) k (address_of p).0 _ r m).place
    new false f i =
        let m = full_by t.keys k e h.unset f in
        let g : all (byte_sum (address_of p) n) ≡ t = rw (full_on t j (address_of p) m) (full_all t _ r m) in
        let a = ltb-true (index_of t.keys k) (length t.keys) (subst (λ (x : Labels). is_set x.keys k ≡ true) g q) in
        let b = h.unset in
        absurd (omega arith)

    go : (u : Bool) → eqb j k ≡ u
        → (Lacks (with_label t j (address_of p)) k → is_set (all (address_of (p + n))).keys k ≡ true
        → place_of (all (address_of (p + n))) k ≡ (address_of (first_at k (p + n) r)).0)
        → place_of (all (byte_sum (address_of p) n)) k ≡ (address_of (cond u p (first_at k (p + n) r))).0
    go true f rest = new (is_new t.keys k) refl (eqb-true j k f)
    go false f rest =
        subst (λ (a : ByteAddr). is_set (all a).keys k ≡ true → place_of (all a) k ≡ (address_of (first_at k (p + n) r)).0) (sym (address_on p n))
        (rest (lacks_on t k j (address_of p) f h)) q

pub first_written : (s k : ℕ) (ls : List (List ℕ)) → eqb k 0 ≡ false → is_set (labels_of none (address_of s) ls).keys k ≡ true
    → place_of (labels_of none (address_of s) ls) k ≡ (address_of (first_at k s ls)).0
first_written s k ls e = first_place none k s ls e (record { even = refl; unset = omega arith })
