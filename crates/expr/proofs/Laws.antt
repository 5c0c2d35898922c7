-- Laws that the functions' proofs cite.
-- Assumes nothing.
use Rattle.std.specs.Prelude.{Ok, Err}
use Prim.Native.Nat.{ℕ, zero, suc, ◌+◌, ◌-◌, ◌<◌, ◌≤◌}
use mathlib.Core.Path.{◌≡◌, refl, sym, ap, ◌∙◌}
use mathlib.Core.Bool.{Bool, true, false}
use mathlib.Core.List.{List, [], ◌∷◌}
use native.Mathlib.Numerals.{add-one}
use native.Mathlib.Omega.{arith}
use lib.Dec.{ltb}
use borrow.Author.Tests.{ltb-true, ltb-false, eq-eqb, ne_eqb}
use lib.ListN.{length, get_or, take, drop, length-drop, drop_of_length-le}
use lib.Seq.{take_all, drop-cons, drop-drop, get_or-drop}
use Rattle.expr.specs.Expr.{Labels, size_of, onward, joined_of, chain_of, items_of, sign_of, signed_of, closed_of, leaf_of, plain_with, operand_with, sum_with, inside_of, operand_of, sum_of}
use Rattle.expr.specs.Parts.{joins_in}
use Rattle.expr.specs.declared.cycle.Level.{Level}
use Rattle.expr.specs.declared.Value.{Value}
use Rattle.expr.specs.Expr.{Read}
use Rattle.expr.specs.declared.Fault.{Fault}

-- past the end there is 0, and what is not 0 stands before the end
pub beyond : (s : List ℕ) (i : ℕ) → length s ≤ i → get_or s i 0 ≡ 0
beyond [] i h = refl
beyond (x ∷ s) zero h = absurd (omega arith)
beyond (x ∷ s) (suc i) h = beyond s i (omega arith)

pub within : (s : List ℕ) (i : ℕ) → (get_or s i 0 ≡ 0 → ⊥) → i < length s
within [] i f = absurd (f refl)
within (x ∷ s) zero f = omega arith
within (x ∷ s) (suc i) f = let h : i < length s = within s i f in omega arith

-- what the code lends as `&l[i..]`
abbrev pub rest : {A : Type 0} → List A → ℕ → List A
rest l i = take (length l - i) (drop i l)

pub rest_of : {A : Type 0} (l : List A) (i : ℕ) → rest l i ≡ drop i l
rest_of l i = take_all (length l - i) (drop i l) (rw length-drop (omega arith))

module _ (l : List ℕ) (i : ℕ) (h : i < length l) where
  pub next : drop i l ≡ get_or l i 0 ∷ drop (i + 1) l
  next = rw (add-one, drop-cons l i 0)

-- ---- chains

module _ (joins : ℕ → Bool) (item : List ℕ → Read) where
  -- the bytes read already are passed
  pub chain_pass : (v : Value) (n k : ℕ) (s : List ℕ) → chain_of joins item v n k s ≡ chain_of joins item v n 0 (drop k s)
  unfolding chain_of
  chain_pass v n zero s = refl
  chain_pass v n (suc k) [] = refl
  chain_pass v n (suc k) (c ∷ s) = chain_pass v n k s

  module _ (l : List ℕ) (i : ℕ) (h : i < length l) where
    pub chain_stop : (v : Value) (n : ℕ) → joins (get_or l i 0) ≡ false → chain_of joins item v n 0 (drop i l) ≡ Ok (v, n)
    unfolding chain_of
    chain_stop v n e = rw (next l i h, e)

    pub chain_on : (v x : Value) (n m : ℕ) → joins (get_or l i 0) ≡ true → joined_of (get_or l i 0) v (item (drop (i + 1) l)) ≡ Ok (x, m) → chain_of joins item v n 0 (drop i l) ≡ chain_of joins item x (n + 1 + m) 0 (drop (i + 1 + m) l)
    unfolding chain_of onward
    chain_on v x n m e f = rw (next l i h, e, f) (chain_pass x (n + 1 + m) m (drop (i + 1) l) ∙ rw (drop-drop))

    pub chain_not : (v : Value) (n : ℕ) (e : Fault) → joins (get_or l i 0) ≡ true → joined_of (get_or l i 0) v (item (drop (i + 1) l)) ≡ Err e → chain_of joins item v n 0 (drop i l) ≡ Err e
    unfolding chain_of onward
    chain_not v n e t f = rw (next l i h, t, f)

  pub chain_none : (v : Value) (n : ℕ) (l : List ℕ) (i : ℕ) → length l ≤ i → chain_of joins item v n 0 (drop i l) ≡ Ok (v, n)
  unfolding chain_of
  chain_none v n l i h = rw (drop_of_length-le l h)

-- past the end or at a byte that doesn't join
pub chain_over : (joins : ℕ → Bool) (item : List ℕ → Read) (l : List ℕ) (i : ℕ) (v : Value) (n : ℕ) → joins (get_or l i 0) ≡ false → chain_of joins item v n 0 (drop i l) ≡ Ok (v, n)
chain_over joins item l i v n e = go (ltb i (length l)) refl
  where
    go : (t : Bool) → ltb i (length l) ≡ t → chain_of joins item v n 0 (drop i l) ≡ Ok (v, n)
    go true p = chain_stop joins item l i (ltb-true _ _ p) v n e
    go false p = chain_none joins item v n l i (ltb-false _ _ p)

-- two readings that are the same are of one value, and of as many bytes
value_of : Read → Value
value_of (Ok (v, n)) = v
value_of (Err e) = Value.Unknown

pub got_same : (v w : Value) (n m : ℕ) → ◌≡◌ {A = Read} (Ok (v, n)) (Ok (w, m)) → (v ≡ w) × (n ≡ m)
unfolding value_of size_of
got_same v w n m e = (ap value_of e, ap size_of e)

-- ---- where a chain goes on

not_at_end : (level : Level) → joins_in level 0 ≡ true → ⊥
not_at_end Level.Sum e = let z : ◌≡◌ {A = ℕ} 0 1 = cc in omega arith
not_at_end Level.Product e = let z : ◌≡◌ {A = ℕ} 0 1 = cc in omega arith

pub joins_there : (level : Level) (s : List ℕ) (i b : ℕ) (r : Bool) → b ≡ get_or s i 0 → r ≡ joins_in level b → r ≡ true → (i < length s) × (joins_in level (get_or s i 0) ≡ true)
joins_there level s i b r e f g =
    let t : joins_in level (get_or s i 0) ≡ true = ap (joins_in level) (sym e) ∙ sym f ∙ g in
    (within s i (λ z. not_at_end level (ap (joins_in level) (sym z) ∙ t)), t)

pub joins_not : (level : Level) (s : List ℕ) (i b : ℕ) (r : Bool) → b ≡ get_or s i 0 → r ≡ joins_in level b → r ≡ false → joins_in level (get_or s i 0) ≡ false
joins_not level s i b r e f g = ap (joins_in level) (sym e) ∙ sym f ∙ g

-- ---- a byte that is there

pub byte_within : (s : List ℕ) (i b : ℕ) → b ≡ get_or s i 0 → (b ≡ 0 → ⊥) → i < length s
byte_within s i b e f = within s i (λ z. f (e ∙ z))

-- ---- the cycle

pub unsigned : (x : Read) → signed_of 0 x ≡ x
unfolding signed_of
unsigned (Err e) = refl
unsigned (Ok (v, n)) = refl

module _ (joins : ℕ → Bool) (item : List ℕ → Read) (s : List ℕ) where
  pub items_got : (v : Value) (n : ℕ) → item s ≡ Ok (v, n) → items_of joins item s ≡ chain_of joins item v n 0 (drop n s)
  unfolding items_of onward
  items_got v n e = rw e (chain_pass joins item v n n s)

  -- what is all of the text has nothing to join
  pub items_all : (v : Value) (n : ℕ) → length s ≤ n → item s ≡ Ok (v, n) → items_of joins item s ≡ Ok (v, n)
  items_all v n h e = items_got v n e ∙ chain_none joins item v n s n h

  pub items_not : (e : Fault) → item s ≡ Err e → items_of joins item s ≡ Err e
  unfolding items_of onward
  items_not e h = rw h

inside_more : (t : Labels) (s : List ℕ) (more : ℕ) → (more ≡ 0 → ⊥) → inside_of t more s ≡ sum_of t (more - 1) s
unfolding inside_of sum_of
inside_more t s zero f = absurd (f refl)
inside_more t s (suc m) f = let e : m ≡ suc m - 1 = omega arith in ap (λ (n : ℕ). sum_with (inside_of t n) t s) e

inside_none : (t : Labels) (s : List ℕ) (more : ℕ) → more ≡ 0 → inside_of t more s ≡ Err Fault.Deep
unfolding inside_of
inside_none t s more e = rw e

module _ (t : Labels) (s : List ℕ) (more k b : ℕ) (hk : k ≡ sign_of s) (hb : b ≡ get_or s k 0) where
  front : get_or (drop k s) 0 0 ≡ b
  front = get_or-drop k s 0 0 ∙ ap (λ (n : ℕ). get_or s n 0) (omega arith) ∙ sym hb

  pub operand_leaf : (b ≡ 40 → ⊥) → operand_of t more s ≡ signed_of k (leaf_of t (drop k s))
  unfolding operand_of operand_with plain_with
  operand_leaf f = rw (← hk, front, ne_eqb b 40 f)

  operand_deep : b ≡ 40 → operand_of t more s ≡ signed_of k (closed_of (drop (k + 1) s) (inside_of t more (drop (k + 1) s)))
  unfolding operand_of operand_with plain_with
  operand_deep f = rw (← hk, front, eq-eqb b 40 f) (ap (λ (l : List ℕ). signed_of k (closed_of l (inside_of t more l))) (drop-drop 1 k s))

  pub operand_none : b ≡ 40 → more ≡ 0 → operand_of t more s ≡ Err Fault.Deep
  unfolding signed_of closed_of
  operand_none f e = operand_deep f ∙ rw (inside_none t (drop (k + 1) s) more e)

  pub operand_inside : b ≡ 40 → (more ≡ 0 → ⊥) → operand_of t more s ≡ signed_of k (closed_of (drop (k + 1) s) (sum_of t (more - 1) (drop (k + 1) s)))
  operand_inside f e = operand_deep f ∙ rw (inside_more t (drop (k + 1) s) more e)

  pub operand_got : b ≡ 40 → (more ≡ 0 → ⊥) → (u w r : Read) → u ≡ sum_of t (more - 1) (rest s (k + 1)) → w ≡ closed_of (rest s (k + 1)) u → r ≡ signed_of k w → r ≡ operand_of t more s
  operand_got f e u w r hu hw hr = rw (hr, hw, hu, rest_of s (k + 1)) (sym (operand_inside f e))

  pub operand_plain : (b ≡ 40 → ⊥) → (w r : Read) → w ≡ leaf_of t (rest s k) → r ≡ signed_of k w → r ≡ operand_of t more s
  operand_plain f w r hw hr = rw (hr, hw, rest_of s k) (sym (operand_leaf f))

-- a turn of a chain: u is what is read after the byte that joins, w what that makes of v
module _ (joins : ℕ → Bool) (item : List ℕ → Read) (l : List ℕ) (i : ℕ) (h : i < length l) (t : joins (get_or l i 0) ≡ true) (v : Value) (u w : Read) (hu : u ≡ item (rest l (i + 1))) (hw : w ≡ joined_of (get_or l i 0) v u) where
  made : joined_of (get_or l i 0) v (item (drop (i + 1) l)) ≡ w
  made = sym (hw ∙ ap (λ (z : Read). joined_of (get_or l i 0) v z) (hu ∙ ap item (rest_of l (i + 1))))

  pub chain_turn : (x : Value) (m : ℕ) → w ≡ Ok (x, m) → chain_of joins item v i 0 (drop i l) ≡ chain_of joins item x (i + 1 + m) 0 (drop (i + 1 + m) l)
  chain_turn x m e = chain_on joins item l i h v x i m t (made ∙ e)

  pub chain_fault : (e : Fault) → w ≡ Err e → chain_of joins item v i 0 (drop i l) ≡ Err e
  chain_fault e g = chain_not joins item l i h v i e t (made ∙ g)
