-- Labels: which are set, and that each means its first writing.
-- Assumes nothing.
use Prim.Native.Nat.{ℕ, suc, ◌+◌, ◌≤◌, ◌<◌}
use mathlib.Core.Path.{◌≡◌, refl, sym, ap, subst, ◌∙◌}
use mathlib.Core.Bool.{Bool, true, false, cond, not, ◌&&◌, ◌||◌, and-false}
use mathlib.Core.List.{List, [], ◌∷◌, ◌++◌, append-nil}
use native.Mathlib.Omega.{arith}
use lib.Dec.{ltb, eqb, leb-suc-suc}
use lib.ListN.{length, get_or, take, length-append, get_or-append}
use lib.Seq.{append_snoc, get_or_at, take_at, take_all}
use borrow.Author.Tests.{ltb-true, ltb-false, lt-ltb, le-ltb, eq-eqb, ne_eqb, eqb-true}
use Rattle.word.specs.Addresses.{byte_sum}
use Rattle.word.specs.declared.ByteAddr.{ByteAddr}
use Rattle.expr.specs.Value.{signed_word}
use Rattle.expr.specs.Expr.{Labels, labels, none, index_of, meaning}
use Rattle.expr.specs.declared.Value.{Value}
use Rattle.forms.specs.Form.{what_in, shape_of, is_known}
use Rattle.asm.specs.Assemble.{address_of, is_set, has_room, is_new, with_label, label_for, bytes_for, labels_of}
use Rattle.written.specs.Assembly.{is_in, own_label, own_labels, written_in, first_only, known_in, first_at}
use Rattle.written.proofs.Text.{address_on, some_name}

-- ---- a place among numbers

index_kept : (s r : List ℕ) (k : ℕ) → index_of s k < length s → index_of (s ++ r) k ≡ index_of s k
unfolding index_of
index_kept [] r k h = absurd (omega arith)
index_kept (x ∷ s) r k h = go (eqb x k) h (index_kept s r k)
  where
    go : (u : Bool) → cond u 0 (suc (index_of s k)) < suc (length s) → (index_of s k < length s → index_of (s ++ r) k ≡ index_of s k)
        → cond u 0 (suc (index_of (s ++ r) k)) ≡ cond u 0 (suc (index_of s k))
    go true h f = refl
    go false h f = ap suc (f (omega arith))

index_past : (s r : List ℕ) (k : ℕ) → length s ≤ index_of s k → index_of (s ++ r) k ≡ length s + index_of r k
unfolding index_of
index_past [] r k h = omega arith
index_past (x ∷ s) r k h = go (eqb x k) h (index_past s r k)
  where
    go : (u : Bool) → suc (length s) ≤ cond u 0 (suc (index_of s k)) → (length s ≤ index_of s k → index_of (s ++ r) k ≡ length s + index_of r k)
        → cond u 0 (suc (index_of (s ++ r) k)) ≡ suc (length s) + index_of r k
    go true h f = absurd (omega arith)
    go false h f = let e = f (omega arith) in omega arith

index_one : (j k : ℕ) (u : Bool) → eqb j k ≡ u → index_of (j ∷ []) k ≡ cond u 0 1
unfolding index_of
index_one j k u e = rw e

-- ---- a name among others

-- the assembler looks for a name's place, and this finds it where it stands
pub set_is_in : (s : List ℕ) (k : ℕ) → is_set s k ≡ is_in k s
unfolding index_of is_in
set_is_in [] k = refl
set_is_in (x ∷ s) k = go (eqb x k) (set_is_in s k)
  where
    go : (u : Bool) → is_set s k ≡ is_in k s → ltb (cond u 0 (suc (index_of s k))) (suc (length s)) ≡ (u || is_in k s)
    go true e = lt-ltb 0 (suc (length s)) (omega arith)
    go false e = leb-suc-suc (suc (index_of s k)) (length s) ∙ e

in_last : (k j : ℕ) (s : List ℕ) → is_in k (s ++ (j ∷ [])) ≡ (eqb j k || is_in k s)
unfolding is_in
in_last k j [] = refl
in_last k j (x ∷ s) = rw (in_last k j s) (go (eqb x k) (eqb j k))
  where
    go : (u v : Bool) → (u || (v || is_in k s)) ≡ (v || (u || is_in k s))
    go true true = refl
    go true false = refl
    go false true = refl
    go false false = refl

-- ---- one label more

-- where a label that is not set is not new, none is
full_by : (s : List ℕ) (k : ℕ) → eqb k 0 ≡ false → length s ≤ index_of s k → is_new s k ≡ false → has_room s ≡ false
full_by s k e h q = rw (e, le-ltb (index_of s k) (length s) h) at q

full_on : (t : Labels) (k : ℕ) (a : ByteAddr) → has_room t.keys ≡ false → with_label t k a ≡ t
unfolding with_label
full_on t k a h = rw (h, and-false)

-- ---- what a label means

-- where a label stands: its place among those that are set
abbrev place_of : Labels → ℕ → ℕ
place_of t k = get_or t.places (index_of t.keys k) 0

-- k is set, and it stands at x
record Has (t : Labels) (k x : ℕ) : Type 0 where
  even : length t.keys ≡ length t.places
  set : index_of t.keys k < length t.keys
  place : place_of t k ≡ x

-- another label, or a second writing, does not change it
has_on : (t : Labels) (k x j : ℕ) (a : ByteAddr) → Has t k x → Has (with_label t j a) k x
unfolding with_label
has_on t k x j a h = go (is_new t.keys j)
  where
    go : (u : Bool) → Has (cond u (labels (t.keys ++ (j ∷ [])) (t.places ++ (a.0 ∷ []))) t) k x
    go true =
        let i = index_kept t.keys (j ∷ []) k h.set in
        let m = length-append t.keys (j ∷ []) in
        let n = length-append t.places (a.0 ∷ []) in
        let s = h.set in
        let e = h.even in
        record {
          even = omega arith;
          set = omega arith;
          place = rw (i, get_or-append t.places (a.0 ∷ []) 0 (index_of t.keys k) (omega arith)) h.place;
        }
    go false = h

has_all : (t : Labels) (k x : ℕ) (a : ByteAddr) (ls : List (List ℕ)) → Has t k x → Has (labels_of t a ls) k x
unfolding labels_of
has_all t k x a [] h = h
has_all t k x a (l ∷ r) h = has_all (with_label t (label_for (is_known l) l) a) k x _ r (has_on t k x (label_for (is_known l) l) a h)

-- k is not set yet
record Lacks (t : Labels) (k : ℕ) : Type 0 where
  even : length t.keys ≡ length t.places
  unset : length t.keys ≤ index_of t.keys k

has_new : (t : Labels) (k : ℕ) (a : ByteAddr) → Lacks t k → is_new t.keys k ≡ true → Has (with_label t k a) k a.0
unfolding with_label
has_new t k a h e =
    let i = index_past t.keys (k ∷ []) k h.unset in
    let m = length-append t.keys (k ∷ []) in
    let n = length-append t.places (a.0 ∷ []) in
    let o = index_one k k true (eq-eqb k k refl) in
    let s = h.even in
    rw e
    record {
      even = omega arith;
      set = omega arith;
      place = get_or_at t.places a.0 [] 0 (index_of (t.keys ++ (k ∷ [])) k) (omega arith);
    }

lacks_on : (t : Labels) (k j : ℕ) (a : ByteAddr) → eqb j k ≡ false → Lacks t k → Lacks (with_label t j a) k
unfolding with_label
lacks_on t k j a e h = go (is_new t.keys j)
  where
    go : (u : Bool) → Lacks (cond u (labels (t.keys ++ (j ∷ [])) (t.places ++ (a.0 ∷ []))) t) k
    go true =
        let i = index_past t.keys (j ∷ []) k h.unset in
        let m = length-append t.keys (j ∷ []) in
        let n = length-append t.places (a.0 ∷ []) in
        let o = index_one j k false e in
        let s = h.even in
        record { even = omega arith; unset = omega arith }
    go false = h

full_all : (t : Labels) (a : ByteAddr) (ls : List (List ℕ)) → has_room t.keys ≡ false → labels_of t a ls ≡ t
unfolding labels_of
full_all t a [] h = refl
full_all t a (l ∷ r) h = rw (full_on t (label_for (is_known l) l) a h) (full_all t (byte_sum a (bytes_for (is_known l) (what_in l))) r h)

-- ---- line by line

module _ (t : Labels) (p : ℕ) (l : List ℕ) (r : List (List ℕ)) where
  on_unknown : is_known l ≡ false → labels_of t (address_of p) (l ∷ r) ≡ labels_of t (address_of p) r
  unfolding labels_of label_for bytes_for with_label
  on_unknown e =
      let q : p + 0 ≡ p = omega arith in
      rw e (ap (λ (a : ByteAddr). labels_of t a r) (address_on p 0 ∙ ap address_of q))

  on_known : is_known l ≡ true → labels_of t (address_of p) (l ∷ r) ≡ labels_of (with_label t (own_label l) (address_of p)) (address_of (p + (shape_of (what_in l)).size)) r
  unfolding labels_of label_for bytes_for
  on_known e = rw e (ap (λ (a : ByteAddr). labels_of (with_label t (own_label l) (address_of p)) a r) (address_on p (shape_of (what_in l)).size))

-- ---- which labels are set

-- a name that is set already, and no name, add nothing
old_label : (t : Labels) (k : ℕ) (a : ByteAddr) → (ltb 0 k && not (is_in k t.keys)) ≡ false → with_label t k a ≡ t
unfolding with_label
old_label t k a e = rw (set_is_in t.keys k, ← some_name k, e)

-- any other is added while there is room
new_label : (t : Labels) (k : ℕ) (a : ByteAddr) → ltb 0 k ≡ true → is_in k t.keys ≡ false → has_room t.keys ≡ true
    → with_label t k a ≡ labels (t.keys ++ (k ∷ [])) (t.places ++ (a.0 ∷ []))
unfolding with_label
new_label t k a e f g = rw (set_is_in t.keys k, ← some_name k, e, f, g)

-- the names s are those that are set
abbrev Same : List ℕ → Labels → Type 0
Same s t = (k : ℕ) → is_in k s ≡ is_in k t.keys

-- what is shown of lines r, from any labels on
abbrev KeysOf : List (List ℕ) → Type 0
KeysOf r =
    (t : Labels) (s : List ℕ) (p : ℕ) → length t.keys ≤ 256 → Same s t → (labels_of t (address_of p) r).keys ≡ take 256 (t.keys ++ first_only s (written_in r))

keys_with : (r : List (List ℕ)) → KeysOf r → (t : Labels) (s : List ℕ) (p k : ℕ) (a : ByteAddr) → length t.keys ≤ 256 → Same s t
    → (labels_of (with_label t k a) (address_of p) r).keys ≡ take 256 (t.keys ++ first_only s (cond (ltb 0 k) (k ∷ []) [] ++ written_in r))
unfolding first_only is_in
keys_with r rest t s p k a h f = go (ltb 0 k) refl (is_in k s) refl (has_room t.keys) refl
  where
    more : Labels
    more = labels (t.keys ++ (k ∷ [])) (t.places ++ (a.0 ∷ []))

    same_more : Same (k ∷ s) more
    same_more j = sym (in_last j k t.keys ∙ rw (← f j))

    go : (u : Bool) → ltb 0 k ≡ u → (v : Bool) → is_in k s ≡ v → (w : Bool) → has_room t.keys ≡ w
        → (labels_of (with_label t k a) (address_of p) r).keys ≡ take 256 (t.keys ++ first_only s (cond u (k ∷ []) [] ++ written_in r))
    go false e v i w g = rw (old_label t k a (rw e)) (rest t s p h f)
    go true e true i w g = rw (old_label t k a (rw (e, ← f k, i)), i) (rest t s p h f)
    go true e false i true g =
        let l = ltb-true (length t.keys) 256 g in
        rw (new_label t k a e (sym (f k) ∙ i) g, i)
        (rest more (k ∷ s) p (rw length-append (omega arith)) same_more ∙ ap (take 256) (append_snoc t.keys k (first_only (k ∷ s) (written_in r))))
    go true e false i false g =
        let l = ltb-false (length t.keys) 256 g in
        rw (full_on t k a g, full_all t (address_of p) r g) (sym (take_at t.keys (first_only s (k ∷ written_in r)) 256 (omega arith)))

keys_none : KeysOf []
unfolding labels_of first_only written_in
keys_none t s p h f = sym (rw append-nil (take_all 256 t.keys h))

keys_are : (ls : List (List ℕ)) → KeysOf ls
unfolding written_in
keys_are [] t s p h f = keys_none t s p h f
keys_are (l ∷ r) t s p h f = go (is_known l) refl (keys_are r)
  where
    go : (u : Bool) → is_known l ≡ u → KeysOf r → (labels_of t (address_of p) (l ∷ r)).keys ≡ take 256 (t.keys ++ first_only s (cond u (own_labels l ++ written_in r) (written_in r)))
    go true e rest = rw (on_known t p l r e) (keys_with r rest t s (p + (shape_of (what_in l)).size) (own_label l) (address_of p) h f)
    go false e rest = rw (on_unknown t p l r e) (rest t s p h f)

pub set_keys : (p : ℕ) (ls : List (List ℕ)) → (labels_of none (address_of p) ls).keys ≡ known_in ls
set_keys p ls = keys_are ls none [] p (omega arith) (λ k. refl)

-- ---- what they mean

module _ (k : ℕ) (some : eqb k 0 ≡ false) where
  -- what is shown of lines r, from labels on that lack k
  abbrev PlaceIn : List (List ℕ) → Type 0
  PlaceIn r =
      (t : Labels) (p : ℕ) → Lacks t k → is_set (labels_of t (address_of p) r).keys k ≡ true → place_of (labels_of t (address_of p) r) k ≡ (address_of (first_at k p r)).0

  place_with : (r : List (List ℕ)) → PlaceIn r → (t : Labels) (j p q : ℕ) → Lacks t k
      → is_set (labels_of (with_label t j (address_of p)) (address_of q) r).keys k ≡ true
      → place_of (labels_of (with_label t j (address_of p)) (address_of q) r) k ≡ (address_of (cond (eqb j k) p (first_at k q r))).0
  place_with r rest t j p q h s = go (eqb j k) refl
    where
      all : Labels
      all = labels_of (with_label t j (address_of p)) (address_of q) r

      new : (u : Bool) → is_new t.keys k ≡ u → j ≡ k → place_of all k ≡ (address_of p).0
      new true f i =
          let m : Has (with_label t j (address_of p)) k (address_of p).0 = rw i (has_new t k (address_of p) h f) in
          (has_all (with_label t j (address_of p)) k (address_of p).0 (address_of q) r m).place
      new false f i =
          let m = full_by t.keys k some h.unset f in
          let g : all ≡ t = rw (full_on t j (address_of p) m) (full_all t (address_of q) r m) in
          let a = ltb-true (index_of t.keys k) (length t.keys) (subst (λ (x : Labels). is_set x.keys k ≡ true) g s) in
          let b = h.unset in
          absurd (omega arith)

      go : (u : Bool) → eqb j k ≡ u → place_of all k ≡ (address_of (cond u p (first_at k q r))).0
      go true f = new (is_new t.keys k) refl (eqb-true j k f)
      go false f = rest (with_label t j (address_of p)) q (lacks_on t k j (address_of p) f h) s

  place_none : PlaceIn []
  unfolding labels_of
  place_none t p h q = let a = ltb-true (index_of t.keys k) (length t.keys) q in let b = h.unset in absurd (omega arith)

  place_first : (ls : List (List ℕ)) → PlaceIn ls
  unfolding first_at
  place_first [] t p h q = place_none t p h q
  place_first (l ∷ r) t p h q = go (is_known l) refl (place_first r)
    where
      go : (u : Bool) → is_known l ≡ u → PlaceIn r
          → place_of (labels_of t (address_of p) (l ∷ r)) k ≡ (address_of (cond u (cond (eqb (own_label l) k) p (first_at k (p + (shape_of (what_in l)).size) r)) (first_at k p r))).0
      go true e rest =
          let i = on_known t p l r e in
          rw i (place_with r rest t (own_label l) p (p + (shape_of (what_in l)).size) h (rw i at q))
      go false e rest =
          let i = on_unknown t p l r e in
          rw i (rest t p h (rw i at q))

pub set_means : (p k : ℕ) (ls : List (List ℕ)) → 0 < k → is_in k (known_in ls) ≡ true
    → meaning (labels_of none (address_of p) ls) k ≡ Value.Is (signed_word (address_of (first_at k p ls)).0)
unfolding meaning
set_means p k ls h e =
    let s : is_set (labels_of none (address_of p) ls).keys k ≡ true = set_is_in _ k ∙ ap (is_in k) (set_keys p ls) ∙ e in
    rw (s, place_first k (ne_eqb k 0 (λ q. omega arith)) ls none p (record { even = refl; unset = omega arith }) s)

pub unset_unknown : (p k : ℕ) (ls : List (List ℕ)) → is_in k (known_in ls) ≡ false → meaning (labels_of none (address_of p) ls) k ≡ Value.Unknown
unfolding meaning
unset_unknown p k ls e =
    let s : is_set (labels_of none (address_of p) ls).keys k ≡ false = set_is_in _ k ∙ ap (is_in k) (set_keys p ls) ∙ e in
    rw s
