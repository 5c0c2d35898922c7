-- The lines of a text, one after the other.
-- Assumes nothing.
use Rattle.std.specs.Prelude.{Err, Ok, Result}
use Prim.Native.Nat.{ℕ, zero, suc, ◌+◌, ◌%◌, ◌≤◌, ◌<◌}
use mathlib.Core.Path.{◌≡◌, refl, sym, ap, ◌∙◌}
use mathlib.Core.Bool.{Bool, true, false, cond, not, ◌&&◌, ◌||◌}
use mathlib.Core.List.{List, [], ◌∷◌, ◌++◌, append-nil, flatten}
use native.Mathlib.Omega.{arith}
use lib.Dec.{ltb, eqb}
use lib.ListN.{length, get_or, set, length-append}
use lib.Seq.{sets, get_or-set_other}
use borrow.Author.Tests.{ltb-true, ltb-false, lt-ltb, le-ltb, eqb-true, eqb-false, ne_eqb}
use Rattle.word.specs.Addresses.{byte_sum}
use Rattle.word.specs.declared.ByteAddr.{ByteAddr}
use Rattle.expr.specs.Expr.{Labels}
use Rattle.forms.specs.Form.{onto_first, lines_of, what_in, shape_of}
use Rattle.asm.specs.Assemble.{address_of, label_in, is_set, has_room, with_name, before, refused_if, label_check, room_check, go_on, verdict_of, code_of, is_outside, text_labels, verdict_in}
use Rattle.asm.specs.declared.Refusal.{Refusal}
use Rattle.asm.specs.Assemble.{Assembled}
use Rattle.asm.proofs.Laws.{refused_same}
use Rattle.written.specs.Assembly.{own_label, own_labels, check_at, AllFine, FineThenNot, Told, odd, past, line}
use Rattle.written.specs.Written.{AllShow}
use Rattle.written.proofs.Lines.{Fine, fine, line_size_lem, line_shown}

-- the lines of a text are the text
pub lines_whole : (x : List ℕ) → flatten (lines_of x) ≡ x
unfolding lines_of onto_first flatten
lines_whole [] = refl
lines_whole (c ∷ s) = go (eqb c 10) refl (lines_of s) (lines_whole s)
  where
    go : (u : Bool) → eqb c 10 ≡ u → (r : List (List ℕ)) → flatten r ≡ s → flatten (cond u ((10 ∷ []) ∷ r) (onto_first c r)) ≡ c ∷ s
    go true e r q = rw (eqb-true c 10 e, q)
    go false e [] q = ap (λ (l : List ℕ). c ∷ l) q
    go false e (l ∷ r) q = ap (λ (l : List ℕ). c ∷ l) q

pub address_on : (p n : ℕ) → byte_sum (address_of p) n ≡ address_of (p + n)
address_on p n =
    let e : (p % 4294967296 + n) % 4294967296 ≡ (p + n) % 4294967296 = omega arith in
    ap (λ (k : ℕ). let a : ByteAddr = record { 0 = k } in a) e

-- ---- none refused

pub some_name : (k : ℕ) → ltb 0 k ≡ not (eqb k 0)
some_name zero = refl
some_name (suc n) = rw (lt-ltb 0 (suc n) (omega arith), ne_eqb (suc n) 0 (λ q. omega arith))

-- after a line that is fine its label is set, if it has one
names_on : (s : List ℕ) (l : List ℕ) → label_check s (label_in l) ≡ Ok tt → with_name s (label_in l) ≡ s ++ own_labels l
unfolding label_check with_name
names_on s l e = rw (some_name (own_label l)) (go (eqb (own_label l) 0) (is_set s (own_label l)) (has_room s) e)
  where
    k : ℕ
    k = own_label l

    go : (u v w : Bool) → cond u (Ok tt) (before (refused_if v Refusal.Twice) (refused_if (not w) Refusal.Many)) ≡ Ok tt
        → cond (not u && not v && w) (s ++ (k ∷ [])) s ≡ s ++ cond (not u) (k ∷ []) []
    go true v w q = sym (append-nil s)
    go false true w q = let z : ◌≡◌ {A = ℕ} 0 1 = cc in absurd (omega arith)
    go false false true q = refl
    go false false false q = let z : ◌≡◌ {A = ℕ} 0 1 = cc in absurd (omega arith)

module _ (t : Labels) (s : List ℕ) (p n : ℕ) (l : List ℕ) (e : check_at t s p n l ≡ Ok tt) where
  -- what is known of a line that is fine at its place
  here : Fine t s (address_of p) (room_check p (shape_of (what_in l)).size n) (what_in l) l
  here = fine t s (address_of p) (room_check p (shape_of (what_in l)).size n) (what_in l) l e

  names_after : with_name s (label_in l) ≡ s ++ own_labels l
  names_after = names_on s l here.label

done_fine : (c : Result Unit Refusal) (j i e : ℕ) (rest : Assembled) → go_on c j rest ≡ Ok (i, e) → (c ≡ Ok tt) × (rest ≡ Ok (i, e))
done_fine (Ok _) j i e rest q = (refl, q)
done_fine (Err r) j i e rest q = let z : ◌≡◌ {A = ℕ} 0 1 = cc in absurd (omega arith)

pub all_fine : (t : Labels) (s : List ℕ) (p n j i e : ℕ) (ls : List (List ℕ)) → verdict_of t s p n j ls ≡ Ok (i, e) → AllFine t s p n ls
unfolding verdict_of
all_fine t s p n j i e [] q = tt
all_fine t s p n j i e (l ∷ r) q =
    let d = done_fine (check_at t s p n l) (suc j) i e _ q in
    (d.0, all_fine t (s ++ own_labels l) (p + (shape_of (what_in l)).size) n (suc j) i e r (rw (names_after t s p n l d.0) at d.1))

room_for : (p n m : ℕ) → room_check p n m ≡ Ok tt → p + n ≤ m
unfolding room_check
room_for p n m e = go (ltb m (p + n)) refl e
  where
    go : (u : Bool) → ltb m (p + n) ≡ u → refused_if u Refusal.Room ≡ Ok tt → p + n ≤ m
    go true f q = let z : ◌≡◌ {A = ℕ} 0 1 = cc in absurd (omega arith)
    go false f q = ltb-false m (p + n) f

code_none : (t : Labels) (a : ByteAddr) → length (code_of t a []) ≡ 0
unfolding code_of
code_none t a = refl

code_step : (t : Labels) (s : List ℕ) (p n : ℕ) (l : List ℕ) (r : List (List ℕ)) → check_at t s p n l ≡ Ok tt
    → length (code_of t (address_of p) (l ∷ r)) ≡ (shape_of (what_in l)).size + length (code_of t (address_of (p + (shape_of (what_in l)).size)) r)
unfolding code_of
code_step t s p n l r e = rw (length-append, line_size_lem t s (address_of p) (room_check p (shape_of (what_in l)).size n) (what_in l) l e, address_on)

pub code_inside : (t : Labels) (s : List ℕ) (p n : ℕ) (ls : List (List ℕ)) → p ≤ n → AllFine t s p n ls → p + length (code_of t (address_of p) ls) ≤ n
code_inside t s p n [] h f = rw code_none (omega arith)
code_inside t s p n (l ∷ r) h f =
    let k = (shape_of (what_in l)).size in
    let b = room_for p k n (here t s p n l f.0).room in
    let c = code_inside t (s ++ own_labels l) (p + k) n r b f.1 in
    rw (code_step t s p n l r f.0) (omega arith)

pub all_show : (t : Labels) (s : List ℕ) (p n : ℕ) (ls : List (List ℕ)) → AllFine t s p n ls → AllShow t p ls (code_of t (address_of p) ls)
unfolding code_of
all_show t s p n [] f = refl
all_show t s p n (l ∷ r) f =
    let k = (shape_of (what_in l)).size in
    let c = line_shown t s (address_of p) (room_check p k n) l (omega arith) f.0 in
    let d = line_size_lem t s (address_of p) (room_check p k n) (what_in l) l f.0 in
    (_, _, refl, c, rw (d, address_on p k) (all_show t (s ++ own_labels l) (p + k) n r f.1))

pub fine_done : (t : Labels) (s : List ℕ) (p n j : ℕ) (ls : List (List ℕ)) → AllFine t s p n ls
    → verdict_of t s p n j ls ≡ Ok (j + length ls, p + length (code_of t (address_of p) ls))
unfolding verdict_of
fine_done t s p n j [] f =
    let a : j ≡ j + 0 = omega arith in
    let b : p ≡ p + 0 = omega arith in
    rw (code_none, ← a, ← b)
fine_done t s p n j (l ∷ r) f =
    let k = (shape_of (what_in l)).size in
    let a : suc j + length r ≡ j + suc (length r) = omega arith in
    let b : p + k + length (code_of t (address_of (p + k)) r) ≡ p + length (code_of t (address_of p) (l ∷ r)) = rw (code_step t s p n l r f.0) (omega arith) in
    rw (f.0, names_after t s p n l f.0) (fine_done t (s ++ own_labels l) (p + k) n (suc j) r f.1 ∙ rw (a, b))

-- ---- one refused

first_not : (t : Labels) (s : List ℕ) (p n j i : ℕ) (q : Refusal) (ls : List (List ℕ)) → verdict_of t s p n j ls ≡ Err (q, i)
    → (k : ℕ) × (i ≡ suc (j + k)) × FineThenNot t s p n k q ls
unfolding verdict_of
first_not t s p n j i q [] e = let z : ◌≡◌ {A = ℕ} 0 1 = cc in absurd (omega arith)
first_not t s p n j i q (l ∷ r) e = go (check_at t s p n l) refl e (first_not t (s ++ own_labels l) (p + (shape_of (what_in l)).size) n (suc j) i q r)
  where
    rest : List ℕ → Assembled
    rest s = verdict_of t s (p + (shape_of (what_in l)).size) n (suc j) r

    go : (c : Result Unit Refusal) → check_at t s p n l ≡ c → go_on c (suc j) (rest (with_name s (label_in l))) ≡ Err (q, i)
        → (rest (s ++ own_labels l) ≡ Err (q, i) → (k : ℕ) × (i ≡ suc (suc j + k)) × FineThenNot t (s ++ own_labels l) (p + (shape_of (what_in l)).size) n k q r)
        → (k : ℕ) × (i ≡ suc (j + k)) × FineThenNot t s p n k q (l ∷ r)
    go (Ok _) c e f = let g = f (ap rest (sym (names_after t s p n l c)) ∙ e) in let h = g.1 in (suc g.0, omega arith, (c, g.2))
    go (Err x) c e f =
        let a = refused_same x q (suc j) i e in
        (0, omega (arith, a.1), c ∙ ap Err a.0)

-- ---- the image

pub sets_outside : (l : List ℕ) (i : ℕ) (v : List ℕ) (j : ℕ) → (i ≤ j → j < i + length v → ⊥) → get_or (sets l i v) j 0 ≡ get_or l j 0
sets_outside l i [] j h = refl
sets_outside l i (b ∷ v) j h =
    sets_outside (set l i b) (suc i) v j (λ x y. h (omega arith) (omega arith))
    ∙ get_or-set_other l i j b 0 (λ e. h (omega arith) (omega arith))

-- ---- the start

pub start_good : (s n : ℕ) → s % 2 ≡ 0 → s ≤ n → is_outside s n ≡ false
start_good s n e h = rw (ne_eqb (s % 2) 1 (λ q. omega arith), le-ltb n s h)

-- even and inside, odd, or past the end
data Start (s n : ℕ) : Bool → Type 0 where
  good : s % 2 ≡ 0 → s ≤ n → Start s n false
  is_odd : s % 2 ≡ 1 → Start s n true
  is_past : n < s → Start s n true

start_is : (s n : ℕ) → Start s n (is_outside s n)
start_is s n = go (eqb (s % 2) 1) refl (ltb n s) refl
  where
    go : (u : Bool) → eqb (s % 2) 1 ≡ u → (v : Bool) → ltb n s ≡ v → Start s n (u || v)
    go true e v f = is_odd (eqb-true _ _ e)
    go false e true f = is_past (ltb-true n s f)
    go false e false f = let i = eqb-false (s % 2) 1 e in good (omega arith) (ltb-false n s f)

-- ---- the verdict

module _ (x : List ℕ) (s n i : ℕ) where
  abbrev verdict : Bool → Assembled
  verdict u = cond u (Err (Refusal.Start, 0)) (verdict_of (text_labels x s) [] s n 0 (lines_of x))

  pub done_inside : (e : ℕ) → verdict_in x s n ≡ Ok (i, e)
      → (s % 2 ≡ 0) × (s ≤ n) × (verdict_of (text_labels x s) [] s n 0 (lines_of x) ≡ Ok (i, e))
  unfolding verdict_in
  done_inside e = go (is_outside s n) (start_is s n)
    where
      go : (u : Bool) → Start s n u → verdict u ≡ Ok (i, e) → (s % 2 ≡ 0) × (s ≤ n) × (verdict_of (text_labels x s) [] s n 0 (lines_of x) ≡ Ok (i, e))
      go true h q = let z : ◌≡◌ {A = ℕ} 0 1 = cc in absurd (omega arith)
      go false (good a b) q = (a, b, q)

  pub refused_told : (q : Refusal) → verdict_in x s n ≡ Err (q, i) → Told (text_labels x s) s n q i (lines_of x)
  unfolding verdict_in
  refused_told q = go (is_outside s n) (start_is s n)
    where
      go : (u : Bool) → Start s n u → verdict u ≡ Err (q, i) → Told (text_labels x s) s n q i (lines_of x)
      go true (is_odd a) e = let p = refused_same Refusal.Start q 0 i e in odd a (sym p.0) (sym p.1)
      go true (is_past a) e = let p = refused_same Refusal.Start q 0 i e in past a (sym p.0) (sym p.1)
      go false (good a b) e =
          let f = first_not (text_labels x s) [] s n 0 i q (lines_of x) e in
          let g = f.1 in
          line a b f.0 (omega arith) f.2
