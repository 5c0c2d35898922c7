-- Laws that the functions' proofs cite.
-- Assumes nothing.
use Rattle.std.specs.Prelude.{Err, Ok, Result, Option, Some, None, find, map}
use Rattle.std.specs.Option.{option_map, is_some, ok_or}
use Prim.Native.Nat.compare.{suc-suc}
use Prim.Native.Nat.{ℕ, suc, ◌+◌, ◌%◌, ◌^◌, ◌<◌, ◌≤◌}
use mathlib.Core.Path.{◌≡◌, refl, sym, ap, ap₂, ◌∙◌}
use mathlib.Core.Bool.{Bool, true, false, cond, not, ◌&&◌, ◌||◌}
use mathlib.Core.List.{List, [], ◌∷◌, ◌++◌}
use native.Mathlib.Nat.{le_refl}
use native.Mathlib.Numerals.{add-one}
use native.Mathlib.Omega.{arith}
use lib.Dec.{eqb, ltb}
use lib.ListN.{length, take, drop, set, drop_of_length-le}
use lib.Seq.{take-suc, length-take-le, take-set-le, lt-length-set, get_or-set_same}
use borrow.Author.Tests.{ltb-true, ltb-false, lt-ltb, eq-eqb, ne_eqb}
use Rattle.word.specs.Addresses.{byte_sum}
use Rattle.word.specs.declared.ByteAddr.{ByteAddr}
use Rattle.isa.specs.declared.Encoded.{Encoded}
use Rattle.expr.specs.Expr.{Labels, labels, labels_in, names, found, index_of, value_of}
use Rattle.expr.specs.declared.Entry.{Entry}
use Rattle.expr.specs.Expr.{Read as Valued}
use Rattle.expr.specs.declared.Value.{Value}
use Rattle.text.specs.Pages.{Page, write_on}
use Rattle.text.proofs.Pages.{write_append}
use Rattle.forms.specs.declared.Sort.{Sort}
use Rattle.forms.specs.declared.What.{What}
use Rattle.asm.specs.declared.Refusal.{Refusal}
use Rattle.asm.specs.Assemble.{Assembled}
use Rattle.forms.specs.declared.Cut.{Cut}
use Rattle.forms.specs.Parts.{cut_of}
use Rattle.forms.proofs.Cuts.{line_next}
use Rattle.forms.specs.Form.{body_of, lines_of, what_in, shape_of, is_known_as, is_known}
use Rattle.asm.specs.Parts.{takes_sum, all_known, check_sure}
use Rattle.asm.specs.Assemble.{line_of, end_of, is_set, has_room, is_new, with_name, with_label, label_for, bytes_for, labels_of, address_of, label_in, sum_at, line_value, line_bits, before, refused_if, label_check, fit_check, value_check, line_check, room_check, verdict_of, line_bytes, code_of, is_outside}

-- ---- a line by its fields

pub sum_by : (t : Labels) (s : Sort) (f : List ℕ) (o : Valued) → sum_at t s f o ≡ cond (takes_sum s) (value_of t f) o
unfolding sum_at
sum_by t Sort.Nothing f o = refl
sum_by t Sort.Never f o = refl
sum_by t Sort.Reg f o = refl
sum_by t Sort.Sfr f o = refl
sum_by t Sort.LowSfr f o = refl
sum_by t Sort.Sum f o = refl

-- ---- labels: one more after the first n

and_right : (a b : Bool) → (a && b) ≡ true → b ≡ true
and_right true b e = e
and_right false b e = let z : ◌≡◌ {A = ℕ} 0 1 = cc in absurd (omega arith)

-- the entries' names, and one of them looked for
pub names_length : (l : List Entry) → length (names l) ≡ length l
names_length [] = refl
names_length (x ∷ l) = ap suc (names_length l)

pub found_set : (l : List Entry) (k : ℕ) → is_some (found l k) ≡ is_set (names l) k
unfolding index_of
found_set [] k = refl
found_set (x ∷ l) k = go (eqb x.name k) (found_set l k)
  where
    go : (t : Bool) → is_some (found l k) ≡ is_set (names l) k
        → is_some (option_map (λ (y : Entry). y.place) (cond t (Some x) (find (λ (y : Entry). eqb y.name k) l))) ≡ ltb (cond t 0 (suc (index_of (names l) k))) (suc (length (names l)))
    go true h = sym (lt-ltb 0 (suc (length (names l))) (omega arith))
    go false h = rw suc-suc h

map_push : (f : Entry → ℕ) (l : List Entry) (x : Entry) → map f (l ++ (x ∷ [])) ≡ map f l ++ (f x ∷ [])
map_push f [] x = refl
map_push f (y ∷ l) x = ap (λ (s : List ℕ). f y ∷ s) (map_push f l x)

labels_push : (l : List Entry) (x : Entry) → labels_in (l ++ (x ∷ [])) ≡ labels (names l ++ (x.name ∷ [])) ((labels_in l).places ++ (x.place ∷ []))
labels_push l x = ap₂ labels (map_push (λ (y : Entry). y.name) l x) (map_push (λ (y : Entry). y.place) l x)

one_more : (l : List Entry) (n : ℕ) (x : Entry) → n < length l → take (n + 1) (set l n x) ≡ take n l ++ (x ∷ [])
one_more l n x h =
    ap (λ (i : ℕ). take i (set l n x)) (add-one n)
    ∙ take-suc (set l n x) n x (lt-length-set l n x h)
    ∙ ap₂ (λ (a : List Entry) (b : Entry). a ++ (b ∷ [])) (take-set-le n l n x (le_refl n)) (get_or-set_same l n x x h)

-- a table with the first n of 256 entries, and one label more
module _ (l : List Entry) (n k : ℕ) (a : ByteAddr) (q : length l ≡ 256) (h : n ≤ 256) where
  pub has_place : is_new (names (take n l)) k ≡ true → n < 256
  has_place t =
      let r = ltb-true (length (names (take n l))) 256 (and_right (not (eqb k 0) && not (is_set (names (take n l)) k)) (has_room (names (take n l))) t) in
      let e : length (take n l) ≡ n = length-take-le n l (omega arith) in
      omega (arith, names_length (take n l))

  pub added : is_new (names (take n l)) k ≡ true → labels_in (take (n + 1) (set l n (record { name = k; place = a.0 }))) ≡ with_label (labels_in (take n l)) k a
  unfolding with_label
  added t =
      let p : n < length l = (let r = has_place t in omega arith) in
      rw (t, one_more l n (record { name = k; place = a.0 }) p) (labels_push (take n l) (record { name = k; place = a.0 }))

pub kept : (t : Labels) (k : ℕ) (a : ByteAddr) → is_new t.keys k ≡ false → t ≡ with_label t k a
unfolding with_label
kept t k a e = rw e

pub keys_with : (t : Labels) (k : ℕ) (a : ByteAddr) → (with_label t k a).keys ≡ with_name t.keys k
unfolding with_label with_name
keys_with t k a = go (is_new t.keys k)
  where
    go : (b : Bool) → (cond b (labels (t.keys ++ (k ∷ [])) (t.places ++ (a.0 ∷ []))) t).keys ≡ cond b (t.keys ++ (k ∷ [])) t.keys
    go true = refl
    go false = refl

-- whether a label is new, by the code's tests
module _ (l : List Entry) (k : ℕ) where
  pub new_zero : k ≡ 0 → false ≡ is_new (names l) k
  new_zero e = rw (eq-eqb _ _ e)

  module _ (f : k ≡ 0 → ⊥) (b : Bool) (e : is_some (found l k) ≡ not b) where
    none_set : b ≡ not (is_set (names l) k)
    none_set = go b e
      where
        go : (t : Bool) → is_some (found l k) ≡ not t → t ≡ not (is_set (names l) k)
        go true h = sym (ap not (sym (found_set l k) ∙ h))
        go false h = sym (ap not (sym (found_set l k) ∙ h))

    pub new_there : b ≡ true → ltb (length l) 256 ≡ is_new (names l) k
    new_there t = rw (ne_eqb _ _ f, sym none_set ∙ t, names_length l)

    pub new_set : b ≡ false → false ≡ is_new (names l) k
    new_set t = rw (ne_eqb _ _ f, sym none_set ∙ t)

-- bits that fit, and what lacks them
pub or_none : (o : Option Encoded) (r x : Refusal) → ◌≡◌ {A = Result Encoded Refusal} (ok_or o r) (Err x) → (o ≡ None) × (x ≡ r)
or_none None r x h = (refl, cc)
or_none (Some e) r x h = let z : ◌≡◌ {A = ℕ} 0 1 = cc in absurd (omega arith)

pub or_some : (o : Option Encoded) (r : Refusal) (e : Encoded) → ◌≡◌ {A = Result Encoded Refusal} (ok_or o r) (Ok e) → o ≡ Some e
or_some None r e h = let z : ◌≡◌ {A = ℕ} 0 1 = cc in absurd (omega arith)
or_some (Some d) r e h = cc

pub fit_some : (e : Encoded) (y : Result Unit Refusal) → before (fit_check (Some e)) y ≡ y
fit_some (Encoded.Half h) y = refl
fit_some (Encoded.Pair h s) y = refl

-- what is answered the same has the same parts
pub done_same : (i e j d : ℕ) → ◌≡◌ {A = Assembled} (Ok (i, e)) (Ok (j, d)) → (i ≡ j) × (e ≡ d)
done_same i e j d p = (ap line_of p, ap end_of p)

refused : Assembled → Refusal
refused (Ok (i, e)) = Refusal.Start
refused (Err (r, i)) = r

pub refused_same : (r q : Refusal) (i j : ℕ) → ◌≡◌ {A = Assembled} (Err (r, i)) (Err (q, j)) → (r ≡ q) × (i ≡ j)
unfolding refused
refused_same r q i j p = (ap refused p, ap line_of p)

-- one line further in each pass, by what the calls of a loop's round say

pub labels_on : (s r l : List ℕ) (t u : Labels) (a b : ByteAddr) (w : What) (known : Bool) (k n : ℕ)
    → lines_of s ≡ l ∷ lines_of r → w ≡ what_in l → known ≡ is_known_as w l → k ≡ label_for known l → u ≡ with_label t k a → n ≡ bytes_for known w → b ≡ byte_sum a n
    → labels_of u b (lines_of r) ≡ labels_of t a (lines_of s)
unfolding labels_of
labels_on s r l t u a b w known k n e f g h i j q = rw (e, q, j, i, h, g, f)

-- a pass ends where the text does
module _ (x : List ℕ) (i : ℕ) (h : length x ≤ i) where
  lines_end : lines_of (drop i x) ≡ []
  unfolding lines_of
  lines_end = rw (drop_of_length-le x h)

  pub labels_end : (t : Labels) (a : ByteAddr) → labels_of t a (lines_of (drop i x)) ≡ t
  unfolding labels_of
  labels_end t a = rw lines_end

  pub verdict_end : (t : Labels) (s : List ℕ) (p n k : ℕ) → verdict_of t s p n k (lines_of (drop i x)) ≡ Ok (k, p)
  unfolding verdict_of
  verdict_end t s p n k = rw lines_end

  pub code_end : (t : Labels) (a : ByteAddr) (p : Page) → write_on (code_of t a (lines_of (drop i x))) p ≡ p
  unfolding code_of write_on
  code_end t a p = rw lines_end

-- what is fine has room
fine_last : (x y z : Result Unit Refusal) → before x (before y z) ≡ Ok tt → z ≡ Ok tt
fine_last (Ok _) (Ok _) z e = e
fine_last (Ok _) (Err r) z e = let n : ◌≡◌ {A = ℕ} 0 1 = cc in absurd (omega arith)
fine_last (Err r) y z e = let n : ◌≡◌ {A = ℕ} 0 1 = cc in absurd (omega arith)

fine_before : (x : Result Unit Refusal) (r : Refusal) → before x (Err r) ≡ Ok tt → ⊥
fine_before (Ok _) r e = let n : ◌≡◌ {A = ℕ} 0 1 = cc in absurd (omega arith)
fine_before (Err q) r e = let n : ◌≡◌ {A = ℕ} 0 1 = cc in absurd (omega arith)

fine_value : (w : What) (a : ByteAddr) (b : List ℕ) (x y : Result Unit Refusal) (v : Valued) → value_check w a b x y v ≡ Ok tt → y ≡ Ok tt
unfolding value_check
fine_value w a b x y (Err e) q = let n : ◌≡◌ {A = ℕ} 0 1 = cc in absurd (omega arith)
fine_value w a b x y (Ok (Value.Unknown, n)) q = let n : ◌≡◌ {A = ℕ} 0 1 = cc in absurd (omega arith)
fine_value w a b x y (Ok (Value.Large, n)) q = absurd (fine_before x Refusal.Value q)
fine_value w a b x y (Ok (Value.Is z, n)) q = fine_last x (fit_check (line_bits w a b z)) y q

pub fine_room : (t : Labels) (s : List ℕ) (a : ByteAddr) (p n m : ℕ) (w : What) (l : List ℕ)
    → line_check t s a (room_check p n m) w l ≡ Ok tt → p + n ≤ m
unfolding line_check room_check
fine_room t s a p n m w l e = room (ltb m (p + n)) refl (known (is_known_as w l) e)
  where
    y : Result Unit Refusal
    y = refused_if (ltb m (p + n)) Refusal.Room

    known : (u : Bool) → cond u (value_check w a (body_of l) (label_check s (label_in l)) y (line_value t (shape_of w) (body_of l))) (Err Refusal.Form) ≡ Ok tt → y ≡ Ok tt
    known true q = fine_value w a (body_of l) (label_check s (label_in l)) y (line_value t (shape_of w) (body_of l)) q
    known false q = let n : ◌≡◌ {A = ℕ} 0 1 = cc in absurd (omega arith)

    room : (u : Bool) → ltb m (p + n) ≡ u → refused_if u Refusal.Room ≡ Ok tt → p + n ≤ m
    room true f q = let n : ◌≡◌ {A = ℕ} 0 1 = cc in absurd (omega arith)
    room false f q = ltb-false m (p + n) f

pub verdict_on : (s r l z v : List ℕ) (t : Labels) (w : What) (p n m k i j : ℕ) (c : Result Unit Refusal)
    → lines_of s ≡ l ∷ lines_of r → w ≡ what_in l → n ≡ bytes_for true w → c ≡ line_check t z (address_of p) (room_check p n m) w l → c ≡ Ok tt → k ≡ label_in l
    → v ≡ with_name z k → j ≡ suc i
    → verdict_of t v (p + n) m j (lines_of r) ≡ verdict_of t z p m i (lines_of s)
unfolding verdict_of bytes_for
verdict_on s r l z v t w p n m k i j c e f g h q a b d =
    let u : line_check t z (address_of p) (room_check p (shape_of (what_in l)).size m) (what_in l) l ≡ Ok tt = rw (← f, ← g, ← h) q in
    rw (e, u, d, b, a, g, f)

pub verdict_stops : (s r l z : List ℕ) (t : Labels) (w : What) (p n m i j : ℕ) (c : Result Unit Refusal) (x : Refusal)
    → lines_of s ≡ l ∷ lines_of r → w ≡ what_in l → n ≡ bytes_for true w → c ≡ line_check t z (address_of p) (room_check p n m) w l → c ≡ Err x → j ≡ suc i
    → Err (x, j) ≡ verdict_of t z p m i (lines_of s)
unfolding verdict_of bytes_for
verdict_stops s r l z t w p n m i j c x e f g h q d =
    let u : line_check t z (address_of p) (room_check p (shape_of (what_in l)).size m) (what_in l) l ≡ Err x = rw (← f, ← g, ← h) q in
    rw (e, u, d)

pub code_on : (s r l d : List ℕ) (t : Labels) (a b : ByteAddr) (w : What) (n : ℕ) (p q : Page)
    → lines_of s ≡ l ∷ lines_of r → w ≡ what_in l → n ≡ bytes_for true w → b ≡ byte_sum a n → d ≡ line_bytes t a w l → q ≡ write_on d p
    → write_on (code_of t b (lines_of r)) q ≡ write_on (code_of t a (lines_of s)) p
unfolding code_of bytes_for
code_on s r l d t a b w n p q e f g h i k =
    rw (e, k, i, h, g, f) (sym (write_append (line_bytes t a (what_in l) l) (code_of t (byte_sum a (shape_of (what_in l)).size) (lines_of r)) p))

-- lines of known form
and_assoc : (a b c : Bool) → ((a && b) && c) ≡ (a && (b && c))
and_assoc true b c = refl
and_assoc false b c = refl

pub known_on : (s r l : List ℕ) (w : What) (all known more : Bool)
    → lines_of s ≡ l ∷ lines_of r → w ≡ what_in l → known ≡ is_known_as w l → more ≡ (all && known)
    → (more && all_known (lines_of r)) ≡ (all && all_known (lines_of s))
unfolding all_known
known_on s r l w all known more e f g h = rw (e, h, g, f) (and_assoc all (is_known_as (what_in l) l) (all_known (lines_of r)))

pub known_end : (x : List ℕ) (i : ℕ) → length x ≤ i → (all : Bool) → all ≡ (all && all_known (lines_of (drop i x)))
unfolding all_known
known_end x i h all = rw (lines_end x i h) (go all)
  where
    go : (t : Bool) → t ≡ (t && true)
    go true = refl
    go false = refl

and_left : (a b : Bool) → (a && b) ≡ true → a ≡ true
and_left true b e = refl
and_left false b e = e

-- the first line's form, and that of the others, where all are known
module _ (s r l : List ℕ) (w : What) (e : lines_of s ≡ l ∷ lines_of r) (f : w ≡ what_in l) where
  both_known : all_known (lines_of s) ≡ true → (is_known l && all_known (lines_of r)) ≡ true
  unfolding all_known
  both_known h = rw e at h

  pub first_known : all_known (lines_of s) ≡ true → is_known_as w l ≡ true
  first_known h = rw f (and_left (is_known l) (all_known (lines_of r)) (both_known h))

  pub rest_known : all_known (lines_of s) ≡ true → all_known (lines_of r) ≡ true
  rest_known h = and_right (is_known l) (all_known (lines_of r)) (both_known h)

pub sure_check : (sure : Bool) (t : Labels) (s : List ℕ) (a : ByteAddr) (y : Result Unit Refusal) (w : What) (l : List ℕ)
    → (sure ≡ true → is_known_as w l ≡ true) → check_sure sure t s a y w l ≡ line_check t s a y w l
unfolding check_sure line_check
sure_check true t s a y w l h = rw (h refl)
sure_check false t s a y w l h = refl

-- a start that is not refused
or_right : (a b : Bool) → (a || b) ≡ false → b ≡ false
or_right true b e = let z : ◌≡◌ {A = ℕ} 0 1 = cc in absurd (omega arith)
or_right false b e = e

pub not_outside : (s n : ℕ) → is_outside s n ≡ false → s ≤ n
not_outside s n e = ltb-false n s (or_right (eqb (s % 2) 1) (ltb n s) e)

-- the bytes of a line, and the place of the next one, are numbers of 64 bits where the text's length is
pub line_fits : (x s : List ℕ) (i : ℕ) (c : Cut) → i < length x → s ≡ drop i x → c ≡ cut_of s → length x < 2 ^ 64
    → (c.end + 1 < 2 ^ 64) × (i + (c.end + 1) < 2 ^ 64)
line_fits x s i c h e f k =
    let g = line_next x s i c h e f in
    let w = g.within in
    (omega arith, omega arith)
