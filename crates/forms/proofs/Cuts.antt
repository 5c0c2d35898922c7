-- Where the fields of a line stand: the places that one pass finds give the fields, the tabs and the size of the first line.
-- Assumes nothing.
use Prim.Native.Nat.{ℕ, zero, suc, ◌+◌, ◌-◌, ◌<◌, ◌≤◌}
use mathlib.Core.Path.{◌≡◌, refl, sym, ap, subst, ◌∙◌}
use mathlib.Core.Bool.{Bool, true, false, cond}
use mathlib.Core.List.{List, [], ◌∷◌}
use native.Mathlib.Nat.{zero-add}
use native.Mathlib.Numerals.{add-one}
use native.Mathlib.Omega.{arith}
use lib.Dec.{eqb}
use lib.ListN.{length, get_or, take, drop, length-drop}
use lib.Seq.{take-take, drop-drop, get_or-drop, get_or-take, length-take-le}
use borrow.Author.Tests.{eqb-true}
use Rattle.text.specs.Fields.{tab_of, before_of, beyond_of}
use Rattle.forms.specs.declared.Cut.{Cut}
use Rattle.forms.specs.Form.{lines_of, is_ended, body_of, tabs_in, field_at}
use Rattle.forms.specs.Parts.{line_size, first_line, stop_of, end_of, stop_at, end_at, past_tab, from_at, to_at, cut_in, cut_of}
use Rattle.forms.proofs.Laws.{size_within, some_size, line_there}

-- ---- a byte is a tab, a newline, or another

data Byte (c : ℕ) : Type 0 where
  tab : eqb c 9 ≡ true → eqb c 10 ≡ false → Byte c
  newline : eqb c 9 ≡ false → eqb c 10 ≡ true → Byte c
  other : eqb c 9 ≡ false → eqb c 10 ≡ false → Byte c

byte : (c : ℕ) → Byte c
byte c = go (eqb c 9) (eqb c 10) refl refl
  where
    go : (a b : Bool) → eqb c 9 ≡ a → eqb c 10 ≡ b → Byte c
    go true true e f = let x = eqb-true c 9 e in let y = eqb-true c 10 f in absurd (omega arith)
    go true false e f = tab e f
    go false true e f = newline e f
    go false false e f = other e f

-- ---- the bytes before the first newline, and those after the first tab among them

up_to : List ℕ → List ℕ
up_to l = take (end_of l) l

rest_of : List ℕ → List ℕ
rest_of l = drop (past_tab l (stop_of l)) l

past_next : (c : ℕ) (l : List ℕ) (n : ℕ) → past_tab (c ∷ l) (suc n) ≡ suc (past_tab l n)
unfolding past_tab
past_next c l n = go (eqb (get_or l n 0) 9)
  where
    go : (t : Bool) → cond t (suc (suc n)) (suc n) ≡ suc (cond t (suc n) n)
    go true = refl
    go false = refl

-- a byte that is no tab and no newline is passed
module _ (c : ℕ) (l : List ℕ) (e : eqb c 9 ≡ false) (f : eqb c 10 ≡ false) where
  rest_later : rest_of (c ∷ l) ≡ rest_of l
  unfolding rest_of stop_of
  rest_later = rw (f, e, past_next)

  past_later : past_tab (c ∷ l) (stop_of (c ∷ l)) ≡ suc (past_tab l (stop_of l))
  unfolding stop_of
  past_later = rw (f, e) (past_next c l (stop_of l))

  stop_later : stop_of (c ∷ l) ≡ suc (stop_of l)
  unfolding stop_of
  stop_later = rw (f, e)

  beyond_later : beyond_of (up_to l) ≡ up_to (rest_of l) → beyond_of (up_to (c ∷ l)) ≡ up_to (rest_of (c ∷ l))
  unfolding up_to end_of tab_of
  beyond_later h = rw (rest_later, ← h, f, e, add-one (tab_of (up_to l)), add-one)

  tabs_later : tabs_in (up_to l) ≡ (past_tab l (stop_of l) - stop_of l) + tabs_in (up_to (rest_of l))
      → tabs_in (up_to (c ∷ l)) ≡ (past_tab (c ∷ l) (stop_of (c ∷ l)) - stop_of (c ∷ l)) + tabs_in (up_to (rest_of (c ∷ l)))
  unfolding up_to end_of tabs_in
  tabs_later h = rw (rest_later, past_later, stop_later, f, e) (omega arith)

  end_later : end_of l ≡ past_tab l (stop_of l) + end_of (rest_of l) → end_of (c ∷ l) ≡ past_tab (c ∷ l) (stop_of (c ∷ l)) + end_of (rest_of (c ∷ l))
  unfolding end_of
  end_later h = rw (rest_later, past_later, f) (omega arith)

before_up : (l : List ℕ) → before_of (up_to l) ≡ take (stop_of l) l
unfolding up_to end_of stop_of tab_of
before_up [] = refl
before_up (c ∷ l) = go (byte c) (before_up l)
  where
    go : Byte c → before_of (up_to l) ≡ take (stop_of l) l → before_of (up_to (c ∷ l)) ≡ take (stop_of (c ∷ l)) (c ∷ l)
    go (tab e f) h = rw (f, e)
    go (newline e f) h = rw (f, e)
    go (other e f) h = rw (f, e) (ap (λ (x : List ℕ). c ∷ x) h)

beyond_up : (l : List ℕ) → beyond_of (up_to l) ≡ up_to (rest_of l)
unfolding up_to rest_of end_of stop_of past_tab tab_of
beyond_up [] = refl
beyond_up (c ∷ l) = go (byte c) (beyond_up l)
  where
    go : Byte c → beyond_of (up_to l) ≡ up_to (rest_of l) → beyond_of (up_to (c ∷ l)) ≡ up_to (rest_of (c ∷ l))
    go (tab e f) h = rw (f, e, e)
    go (newline e f) h = rw (f, e, e, f)
    go (other e f) h = beyond_later c l e f h

tabs_up : (l : List ℕ) → tabs_in (up_to l) ≡ (past_tab l (stop_of l) - stop_of l) + tabs_in (up_to (rest_of l))
unfolding up_to rest_of end_of stop_of past_tab tabs_in
tabs_up [] = refl
tabs_up (c ∷ l) = go (byte c) (tabs_up l)
  where
    go : Byte c → tabs_in (up_to l) ≡ (past_tab l (stop_of l) - stop_of l) + tabs_in (up_to (rest_of l)) → tabs_in (up_to (c ∷ l)) ≡ (past_tab (c ∷ l) (stop_of (c ∷ l)) - stop_of (c ∷ l)) + tabs_in (up_to (rest_of (c ∷ l)))
    go (tab e f) h = rw (f, e, e)
    go (newline e f) h = rw (f, e, e, f)
    go (other e f) h = tabs_later c l e f h

end_up : (l : List ℕ) → end_of l ≡ past_tab l (stop_of l) + end_of (rest_of l)
unfolding rest_of end_of stop_of past_tab
end_up [] = refl
end_up (c ∷ l) = go (byte c) (end_up l)
  where
    go : Byte c → end_of l ≡ past_tab l (stop_of l) + end_of (rest_of l) → end_of (c ∷ l) ≡ past_tab (c ∷ l) (stop_of (c ∷ l)) + end_of (rest_of (c ∷ l))
    go (tab e f) h = rw (f, e, e) (omega arith)
    go (newline e f) h = rw (f, e, e, f)
    go (other e f) h = end_later c l e f h

end_stop : (l : List ℕ) → end_of l ≡ stop_of l + end_of (drop (stop_of l) l)
unfolding end_of stop_of
end_stop [] = refl
end_stop (c ∷ l) = go (byte c) (end_stop l)
  where
    go : Byte c → end_of l ≡ stop_of l + end_of (drop (stop_of l) l) → end_of (c ∷ l) ≡ stop_of (c ∷ l) + end_of (drop (stop_of (c ∷ l)) (c ∷ l))
    go (tab e f) h = rw (f, e, f) (omega arith)
    go (newline e f) h = rw (f, e, f)
    go (other e f) h = rw (f, e) (omega arith)

-- ---- the same from a place on

past_from : (t : List ℕ) (p n : ℕ) → past_tab t (p + n) ≡ p + past_tab (drop p t) n
unfolding past_tab
past_from t p n = rw get_or-drop (go (eqb (get_or t (p + n) 0) 9))
  where
    go : (b : Bool) → cond b (suc (p + n)) (p + n) ≡ p + cond b (suc n) n
    go true = omega arith
    go false = refl

module _ (t : List ℕ) (p : ℕ) where
  -- where the next field begins
  on : ℕ
  on = past_tab t (stop_at t p)

  on_from : on ≡ p + past_tab (drop p t) (stop_of (drop p t))
  unfolding on stop_at
  on_from = past_from t p (stop_of (drop p t))

  on_rest : drop on t ≡ rest_of (drop p t)
  unfolding rest_of
  on_rest = ap (λ (n : ℕ). drop n t) on_from ∙ sym (drop-drop (past_tab (drop p t) (stop_of (drop p t))) p t)

  beyond_at : beyond_of (up_to (drop p t)) ≡ up_to (drop on t)
  beyond_at = beyond_up (drop p t) ∙ ap up_to (sym on_rest)

  tabs_at : tabs_in (up_to (drop p t)) ≡ (on - stop_at t p) + tabs_in (up_to (drop on t))
  unfolding stop_at
  tabs_at =
      let e = tabs_up (drop p t) in
      let f = on_from in
      rw on_rest (e ∙ ap (λ (n : ℕ). n + tabs_in (up_to (rest_of (drop p t)))) (omega arith))

  end_at_lem : end_at t on ≡ end_at t p
  unfolding end_at
  end_at_lem = let e = end_up (drop p t) in let f = on_from in rw on_rest (omega arith)

  end_same : end_at t (stop_at t p) ≡ end_at t p
  unfolding end_at stop_at
  end_same = let e = end_stop (drop p t) in let d = drop-drop (stop_of (drop p t)) p t in rw (← d) (omega arith)

-- ---- what is found lies within the text

stop_within : (l : List ℕ) → stop_of l ≤ end_of l
stop_within l = let e = end_stop l in omega arith

end_within : (l : List ℕ) → end_of l ≤ length l
unfolding end_of
end_within [] = omega arith
end_within (c ∷ l) = go (eqb c 10) (end_within l)
  where
    go : (t : Bool) → end_of l ≤ length l → cond t 0 (suc (end_of l)) ≤ suc (length l)
    go true h = omega arith
    go false h = omega arith

-- no tab is where nothing is
past_most : (t : List ℕ) (p : ℕ) → p ≤ length t → (p ≤ past_tab t p) × (past_tab t p ≤ length t)
unfolding past_tab
past_most [] p h = (omega arith, h)
past_most (c ∷ t) zero h = go (eqb c 9)
  where
    go : (b : Bool) → (0 ≤ cond b 1 0) × (cond b 1 0 ≤ suc (length t))
    go true = (omega arith, omega arith)
    go false = (omega arith, omega arith)
past_most (c ∷ t) (suc p) h = go (past_most t p (omega arith))
  where
    go : (p ≤ past_tab t p) × (past_tab t p ≤ length t) → (suc p ≤ past_tab (c ∷ t) (suc p)) × (past_tab (c ∷ t) (suc p) ≤ suc (length t))
    go h = rw (past_next c t p) (omega arith, omega arith)

module _ (t : List ℕ) (p : ℕ) (h : p ≤ length t) where
  end_most : end_at t p ≤ length t
  unfolding end_at
  end_most = let e = end_within (drop p t) in let n = length-drop p t in omega arith

  stop_most : (p ≤ stop_at t p) × (stop_at t p ≤ end_at t p)
  unfolding stop_at end_at
  stop_most = let e = stop_within (drop p t) in (omega arith, omega arith)

  on_most : (stop_at t p ≤ on t p) × (on t p ≤ length t)
  unfolding on
  on_most = let e = end_most in let s = stop_most in past_most t (stop_at t p) (omega arith)

-- ---- the fields

part_of : (n p m : ℕ) (s : List ℕ) → p + n ≤ m → take n (drop p (take m s)) ≡ take n (drop p s)
part_of n zero m s h = take-take n m s (omega arith)
part_of n (suc p) zero s h = absurd (omega arith)
part_of n (suc p) (suc m) [] h = refl
part_of n (suc p) (suc m) (c ∷ s) h = part_of n p m s (omega arith)

field_at_lem : (t : List ℕ) (k p : ℕ) → field_at k (up_to (drop p t)) ≡ take (stop_of (drop (from_at t p k) t)) (drop (from_at t p k) t)
unfolding field_at from_at on
field_at_lem t zero p = before_up (drop p t)
field_at_lem t (suc k) p = ap (field_at k) (beyond_at t p) ∙ field_at_lem t k (on t p)

-- ---- the first line

init : List ℕ → List ℕ
init [] = []
init (c ∷ []) = []
init (c ∷ d ∷ l) = c ∷ init (d ∷ l)

init_of : (l : List ℕ) → body_of l ≡ init l
unfolding init
init_of [] = refl
init_of (c ∷ []) = refl
init_of (c ∷ d ∷ l) =
    let e : length (c ∷ d ∷ l) - 1 ≡ suc (length (d ∷ l) - 1) = omega arith in
    rw e (ap (λ (x : List ℕ). c ∷ x) (init_of (d ∷ l)))

init_on : (c : ℕ) (l : List ℕ) → 0 < length l → init (c ∷ l) ≡ c ∷ init l
unfolding init
init_on c [] h = absurd (omega arith)
init_on c (d ∷ l) h = refl

some_line : (c : ℕ) (s : List ℕ) → 0 < length (first_line (c ∷ s))
some_line c s = let e = length-take-le (line_size (c ∷ s)) (c ∷ s) (size_within (c ∷ s)) in let h = some_size c s in omega arith

init_line : (s : List ℕ) → init (first_line s) ≡ up_to (init s)
unfolding init up_to line_size end_of
init_line [] = refl
init_line (c ∷ []) = go (eqb c 10)
  where
    go : (t : Bool) → init (take (cond t 1 1) (c ∷ [])) ≡ []
    go true = refl
    go false = refl
init_line (c ∷ d ∷ s) = go (eqb c 10) (init_line (d ∷ s))
  where
    go : (t : Bool) → init (first_line (d ∷ s)) ≡ up_to (init (d ∷ s))
        → init (take (cond t 1 (suc (line_size (d ∷ s)))) (c ∷ d ∷ s)) ≡ take (cond t 0 (suc (end_of (init (d ∷ s))))) (c ∷ init (d ∷ s))
    go true h = refl
    go false h = init_on c (first_line (d ∷ s)) (some_line d s) ∙ ap (λ (x : List ℕ). c ∷ x) h

size_line : (c : ℕ) (s : List ℕ) → line_size (c ∷ s) ≡ suc (end_of (init (c ∷ s)))
unfolding init line_size end_of
size_line c [] = go (eqb c 10)
  where
    go : (t : Bool) → ◌≡◌ {A = ℕ} (cond t 1 1) 1
    go true = refl
    go false = refl
size_line c (d ∷ s) = go (eqb c 10) (size_line d s)
  where
    go : (t : Bool) → line_size (d ∷ s) ≡ suc (end_of (init (d ∷ s))) → cond t 1 (suc (line_size (d ∷ s))) ≡ suc (cond t 0 (suc (end_of (init (d ∷ s)))))
    go true h = refl
    go false h = ap suc h

-- what is known of the places c of the first line of a text s
pub record Cutting (s : List ℕ) (c : Cut) : Type 0 where
  pub in1 : (c.to0 ≤ c.from1) × (c.from1 ≤ c.to1)
  pub in2 : (c.to1 ≤ c.from2) × (c.from2 ≤ c.to2)
  pub in3 : (c.to2 ≤ c.from3) × (c.from3 ≤ c.to3)
  pub in4 : (c.to3 ≤ c.from4) × (c.from4 ≤ c.to4)
  pub within : (c.to4 ≤ c.end) × (c.end ≤ length s - 1)
  pub field0 : take (c.to0 - 0) (drop 0 s) ≡ field_at 0 (body_of (first_line s))
  pub field1 : take (c.to1 - c.from1) (drop c.from1 s) ≡ field_at 1 (body_of (first_line s))
  pub field2 : take (c.to2 - c.from2) (drop c.from2 s) ≡ field_at 2 (body_of (first_line s))
  pub field3 : take (c.to3 - c.from3) (drop c.from3 s) ≡ field_at 3 (body_of (first_line s))
  pub field4 : take (c.to4 - c.from4) (drop c.from4 s) ≡ field_at 4 (body_of (first_line s))
  pub tabs : (c.from1 - c.to0) + (c.from2 - c.to1) + (c.from3 - c.to2) + (c.from4 - c.to3) + tabs_in (take (c.end - c.from4) (drop c.from4 s)) ≡ tabs_in (body_of (first_line s))
  pub ended : eqb (get_or s c.end 0) 10 ≡ is_ended (first_line s)
  pub size : 0 < length s → c.end + 1 ≡ length (first_line s)

module _ (s : List ℕ) where
  t : List ℕ
  t = body_of s

  below : length t ≡ length s - 1
  unfolding t
  below = length-take-le (length s - 1) s (omega arith)

  line : body_of (first_line s) ≡ up_to t
  unfolding t
  line = init_of (first_line s) ∙ init_line s ∙ ap up_to (sym (init_of s))

  -- a part of the text without its last byte is one of the text
  module _ (p n : ℕ) (h : p + n ≤ length t) where
    whole : take n (drop p t) ≡ take n (drop p s)
    unfolding t
    whole = let e = below in part_of n p (length s - 1) s (omega arith)

    part : (q : ℕ) → q ≡ p + n → take n (drop p t) ≡ take (q - p) (drop p s)
    part q e = let d : q - p ≡ n = omega arith in rw d whole

  module _ (k : ℕ) (h : from_at t 0 k ≤ length t) where
    field : take (to_at t k - from_at t 0 k) (drop (from_at t 0 k) s) ≡ field_at k (body_of (first_line s))
    unfolding to_at stop_at
    field =
        let e = end_within (drop (from_at t 0 k) t) in
        let f = stop_within (drop (from_at t 0 k) t) in
        let n = length-drop (from_at t 0 k) t in
        sym (ap (field_at k) line ∙ field_at_lem t k 0 ∙ part (from_at t 0 k) (stop_of (drop (from_at t 0 k) t)) (omega arith) (to_at t k) refl)

  -- where the fields begin, one after the other
  module _ (k : ℕ) where
    begin : from_at t 0 k ≤ length t → from_at t 0 (suc k) ≡ on t (from_at t 0 k) → (to_at t k ≤ from_at t 0 (suc k)) × (from_at t 0 (suc k) ≤ length t)
    unfolding to_at
    begin h e = rw e (on_most t (from_at t 0 k) h)

    tabs_more : from_at t 0 (suc k) ≡ on t (from_at t 0 k)
        → tabs_in (up_to (drop (from_at t 0 k) t)) ≡ (from_at t 0 (suc k) - to_at t k) + tabs_in (up_to (drop (from_at t 0 (suc k)) t))
    unfolding to_at
    tabs_more e = rw e (tabs_at t (from_at t 0 k))

    end_more : from_at t 0 (suc k) ≡ on t (from_at t 0 k) → end_at t (from_at t 0 (suc k)) ≡ end_at t (from_at t 0 k)
    end_more e = rw e (end_at_lem t (from_at t 0 k))

    stop : from_at t 0 k ≤ length t → (from_at t 0 k ≤ to_at t k) × (to_at t k ≤ end_at t (from_at t 0 k))
    unfolding to_at
    stop h = stop_most t (from_at t 0 k) h

    end_to : end_at t (to_at t k) ≡ end_at t (from_at t 0 k)
    unfolding to_at
    end_to = end_same t (from_at t 0 k)

  end_first : end_at t 0 ≡ end_of t
  unfolding end_at
  end_first = zero-add (end_of t)

  -- the whole of the line from its last field on
  last : (p q : ℕ) → p ≤ length t → q ≡ end_at t p → up_to (drop p t) ≡ take (q - p) (drop p s)
  unfolding up_to end_at
  last p q h e =
      let f = end_within (drop p t) in
      let n = length-drop p t in
      part p (end_of (drop p t)) (omega arith) q e

  line_end : 0 < length s → end_of t + 1 ≡ length (first_line s)
  unfolding t
  line_end h = go s h
    where
      go : (x : List ℕ) → 0 < length x → end_of (body_of x) + 1 ≡ length (first_line x)
      go [] h = absurd (omega arith)
      go (c ∷ x) h = rw (init_of (c ∷ x)) (let n = size_line c x in let m = length-take-le (line_size (c ∷ x)) (c ∷ x) (size_within (c ∷ x)) in omega arith)

  line_ended : eqb (get_or s (end_of t) 0) 10 ≡ is_ended (first_line s)
  unfolding t line_size
  line_ended = go s
    where
      go : (x : List ℕ) → eqb (get_or x (end_of (body_of x)) 0) 10 ≡ is_ended (first_line x)
      go [] = refl
      go (c ∷ x) =
          let n = size_line c x in
          let m = length-take-le (line_size (c ∷ x)) (c ∷ x) (size_within (c ∷ x)) in
          let i : length (first_line (c ∷ x)) - 1 ≡ end_of (init (c ∷ x)) = omega arith in
          rw (init_of (c ∷ x), i, get_or-take (line_size (c ∷ x)) (c ∷ x) (end_of (init (c ∷ x))) 0 (omega arith))

  cutting : Cutting s (cut_in t)
  unfolding cut_in from_at on
  cutting =
      let h0 : from_at t 0 0 ≤ length t = omega arith in
      let h1 = begin 0 h0 refl in
      let h2 = begin 1 h1.1 refl in
      let h3 = begin 2 h2.1 refl in
      let h4 = begin 3 h3.1 refl in
      let s0 = stop 0 h0 in
      let s1 = stop 1 h1.1 in
      let s2 = stop 2 h2.1 in
      let s3 = stop 3 h3.1 in
      let s4 = stop 4 h4.1 in
      let e4 = end_to 4 in
      let m = end_most t (from_at t 0 4) h4.1 in
      let b = below in
      let e : end_at t (to_at t 4) ≡ end_of t = end_to 4 ∙ end_more 3 refl ∙ end_more 2 refl ∙ end_more 1 refl ∙ end_more 0 refl ∙ end_first in
      record {
        in1 = (h1.0, s1.0);
        in2 = (h2.0, s2.0);
        in3 = (h3.0, s3.0);
        in4 = (h4.0, s4.0);
        within = (omega arith, omega arith);
        field0 = field 0 h0;
        field1 = field 1 h1.1;
        field2 = field 2 h2.1;
        field3 = field 3 h3.1;
        field4 = field 4 h4.1;
        tabs =
            let n0 = tabs_more 0 refl in
            let n1 = tabs_more 1 refl in
            let n2 = tabs_more 2 refl in
            let n3 = tabs_more 3 refl in
            let z = ap tabs_in (last (from_at t 0 4) (end_at t (to_at t 4)) h4.1 e4) in
            let w = ap tabs_in line in
            omega arith;
        ended = rw e line_ended;
        size = λ h. rw e (line_end h);
      }

pub cut_there : (s : List ℕ) (c : Cut) → c ≡ cut_of s → Cutting s c
unfolding t
cut_there s c e = subst (λ (x : Cut). Cutting s x) (sym e) (cutting s)

-- the lines of a text x from the place i on, where the first of them takes n bytes
pub record Next (x s : List ℕ) (i n : ℕ) : Type 0 where
  pub lines : lines_of (drop i x) ≡ first_line s ∷ lines_of (drop (i + n) x)
  pub some : 0 < n
  pub within : i + n ≤ length x

pub line_next : (x s : List ℕ) (i : ℕ) (c : Cut) → i < length x → s ≡ drop i x → c ≡ cut_of s → Next x s i (c.end + 1)
line_next x s i c h e f =
    let g = line_there x (first_line s) i h (ap first_line e) in
    let n : 0 < length s = rw e (let d = length-drop i x in omega arith) in
    let k = (cut_there s c f).size n in
    record {
      lines = rw k g.lines;
      some = omega arith;
      within = rw k g.within;
    }
