-- The walk over a text is the grammar: laws of its steps, and that it reads an operand, a product and a sum as the definition does.
-- Assumes nothing.
use Rattle.std.specs.Prelude.{Ok, Err, ◌⊎◌}
use Prim.Native.Nat.{ℕ, zero, suc, ◌+◌, ◌-◌, ◌<◌, ◌≤◌}
use mathlib.Core.Logic.{inl, inr}
use mathlib.Core.Path.{◌≡◌, refl, sym, ap, ◌∙◌}
use mathlib.Core.Bool.{Bool, true, false, cond, not, ◌&&◌, ◌||◌}
use mathlib.Core.List.{List, [], ◌∷◌}
use native.Mathlib.Numerals.{add-one}
use native.Mathlib.Omega.{arith}
use lib.Dec.{eqb, ltb}
use borrow.Author.Tests.{eqb-true, eqb-false, ltb-true, ltb-false, eq-eqb, ne_eqb, lt-ltb}
use lib.ListN.{length, get_or, drop, length-drop, drop_of_length-le}
use lib.Seq.{drop-drop, get_or-drop}
use Rattle.expr.specs.Expr.{Read}
use Rattle.expr.specs.declared.Value.{Value}
use Rattle.expr.specs.declared.Fault.{Fault}
use Rattle.expr.specs.Value.{combined}
use Rattle.expr.specs.Expr.{none, size_of, leaf_of, joined_of, chain_of, items_of, adds, multiplies, sign_of, signed_of, closed_of, plain_with, operand_with, product_with, sum_with, inside_of, sum_of, is_whole, is_sum}
use Rattle.expr.specs.Parts.{joins, walk}
use Rattle.expr.proofs.Laws.{next, unsigned, rest, rest_of, beyond, items_got, items_not, chain_stop, chain_on, chain_not, chain_none}
use Rattle.expr.proofs.Alike.{leaf_some, no_plain, sum_within}

-- ---- steps

-- the bytes read already are passed
walk_pass : (w m : Bool) (k n : ℕ) (s : List ℕ) → walk w m k n s ≡ walk w m k 0 (drop n s)
unfolding walk
walk_pass w m k zero s = refl
walk_pass w m k (suc n) [] = refl
walk_pass w m k (suc n) (c ∷ s) = walk_pass w m k n s

-- after an operand it is the same whether a minus could have stood before it
pub walk_after : (m : Bool) (k : ℕ) (s : List ℕ) → walk false m k 0 s ≡ walk false false k 0 s
unfolding walk
walk_after m k [] = refl
walk_after m k (c ∷ s) = refl

module _ (c : ℕ) (s : List ℕ) (m : Bool) (k : ℕ) where
  at_open : c ≡ 40 → walk true m k 0 (c ∷ s) ≡ walk true true (k + 1) 0 s
  unfolding walk
  at_open e = rw (eq-eqb _ _ e)

  at_minus : (c ≡ 40 → ⊥) → (m && eqb c 45) ≡ true → walk true m k 0 (c ∷ s) ≡ walk true false k 0 s
  unfolding walk
  at_minus f e = rw (ne_eqb _ _ f, e)

  module _ (f : c ≡ 40 → ⊥) (e : (m && eqb c 45) ≡ false) (n : ℕ) (h : n ≡ size_of (leaf_of none (c ∷ s))) where
    at_nothing : n ≡ 0 → walk true m k 0 (c ∷ s) ≡ false
    unfolding walk
    at_nothing z = rw (ne_eqb _ _ f, e, ← h, eq-eqb _ _ z)

    at_leaf : (n ≡ 0 → ⊥) → walk true m k 0 (c ∷ s) ≡ walk false false k 0 (drop (n - 1) s)
    unfolding walk
    at_leaf z = rw (ne_eqb _ _ f, e, ← h, ne_eqb _ _ z) (walk_pass false false k (n - 1) s)

  at_join : joins c ≡ true → walk false m k 0 (c ∷ s) ≡ walk true true k 0 s
  unfolding walk
  at_join e = rw e

  at_close : c ≡ 41 → (k ≡ 0 → ⊥) → walk false m k 0 (c ∷ s) ≡ walk false false (k - 1) 0 s
  unfolding walk
  at_close e f = let h : 0 < k = omega arith in rw (e, lt-ltb _ _ h)

  at_other : joins c ≡ false → (eqb c 41 && ltb 0 k) ≡ false → walk false m k 0 (c ∷ s) ≡ false
  unfolding walk
  at_other e f = rw (e, f)

-- the same at a place of a text, as the code walks
module _ (l : List ℕ) (i : ℕ) (h : i < length l) (m : Bool) (k : ℕ) where
  from : (w : Bool) → walk w m k 0 (drop i l) ≡ walk w m k 0 (get_or l i 0 ∷ drop (i + 1) l)
  from w = ap (walk w m k 0) (next l i h)

  pub step_open : get_or l i 0 ≡ 40 → walk true true (k + 1) 0 (drop (i + 1) l) ≡ walk true m k 0 (drop i l)
  step_open e = sym (from true ∙ at_open _ _ m k e)

  pub step_minus : (get_or l i 0 ≡ 40 → ⊥) → (m && eqb (get_or l i 0) 45) ≡ true → walk true false k 0 (drop (i + 1) l) ≡ walk true m k 0 (drop i l)
  step_minus f e = sym (from true ∙ at_minus _ _ m k f e)

  module _ (f : get_or l i 0 ≡ 40 → ⊥) (e : (m && eqb (get_or l i 0) 45) ≡ false) (n : ℕ) (g : n ≡ size_of (leaf_of none (rest l i))) where
    size : n ≡ size_of (leaf_of none (get_or l i 0 ∷ drop (i + 1) l))
    size = g ∙ ap (λ (s : List ℕ). size_of (leaf_of none s)) (rest_of l i ∙ next l i h)

    pub step_nothing : n ≡ 0 → false ≡ walk true m k 0 (drop i l)
    step_nothing z = sym (from true ∙ at_nothing _ _ m k f e n size z)

    pub step_leaf : (n ≡ 0 → ⊥) → walk false false k 0 (drop (i + n) l) ≡ walk true m k 0 (drop i l)
    step_leaf z =
        let q : i + 1 + (n - 1) ≡ i + n = omega arith in
        sym (from true ∙ at_leaf _ _ m k f e n size z ∙ rw (drop-drop, q))

  pub step_join : joins (get_or l i 0) ≡ true → walk true true k 0 (drop (i + 1) l) ≡ walk false m k 0 (drop i l)
  step_join e = sym (from false ∙ at_join _ _ m k e)

  pub step_close : get_or l i 0 ≡ 41 → (k ≡ 0 → ⊥) → walk false false (k - 1) 0 (drop (i + 1) l) ≡ walk false m k 0 (drop i l)
  step_close e f = sym (from false ∙ at_close _ _ m k e f)

  pub step_other : joins (get_or l i 0) ≡ false → (eqb (get_or l i 0) 41 && ltb 0 k) ≡ false → false ≡ walk false m k 0 (drop i l)
  step_other e f = sym (from false ∙ at_other _ _ m k e f)

pub walk_end : (l : List ℕ) (i : ℕ) → length l ≤ i → (w m : Bool) (k : ℕ) → walk w m k 0 (drop i l) ≡ (not w && eqb k 0)
unfolding walk
walk_end l i h w m k = rw (drop_of_length-le l h)

pub joins_times : (c : ℕ) → c ≡ 42 → joins c ≡ true
joins_times c e = rw e

pub joins_adds : (c : ℕ) (r : Bool) → r ≡ adds c → r ≡ true → joins c ≡ true
joins_adds c r e f = go (eqb c 42) (sym e ∙ f)
  where
    go : (t : Bool) → adds c ≡ true → (t || adds c) ≡ true
    go true h = refl
    go false h = h

pub joins_not : (c : ℕ) (r : Bool) → r ≡ adds c → r ≡ false → (c ≡ 42 → ⊥) → joins c ≡ false
joins_not c r e f g = rw (ne_eqb _ _ g) (sym e ∙ f)

pub closes_none : (c k : ℕ) → k ≡ 0 → (eqb c 41 && ltb 0 k) ≡ false
closes_none c k e = rw e (go (eqb c 41))
  where
    go : (t : Bool) → (t && false) ≡ false
    go true = refl
    go false = refl

pub closes_not : (c k : ℕ) → (c ≡ 41 → ⊥) → (eqb c 41 && ltb 0 k) ≡ false
closes_not c k f = rw (ne_eqb _ _ f)

-- the tests of the code that are false
pub not_minus : (m : Bool) (c : ℕ) → ((m ≡ true) × (c ≡ 45 → ⊥)) ⊎ (m ≡ false) → (m && eqb c 45) ≡ false
not_minus m c (inl p) = rw (p.0, ne_eqb _ _ p.1)
not_minus m c (inr p) = rw p

pub not_closing : (c k : ℕ) → ((c ≡ 41) × (k ≤ 0)) ⊎ (c ≡ 41 → ⊥) → (eqb c 41 && ltb 0 k) ≡ false
not_closing c k (inl p) = let e : k ≡ 0 = omega (arith, p.1) in closes_none c k e
not_closing c k (inr p) = closes_not c k p

-- ---- a reading, and the walk after it

-- where a reading ends the walk goes on; where there is none it says no
abbrev goes : ℕ → List ℕ → Read → Bool
goes k s (Ok (v, n)) = walk false false k 0 (drop n s)
goes k s (Err e) = false

-- whether a byte of some kind follows what is read
abbrev follows : (ℕ → Bool) → List ℕ → Read → Bool
follows j s (Ok (v, n)) = j (get_or s n 0)
follows j s (Err e) = false

-- of texts up to a length: the walk takes what is read, and no byte of a kind follows it
abbrev Walks : (ℕ → Bool) → (List ℕ → Read) → ℕ → Type 0
Walks j item more = (s : List ℕ) (k : ℕ) → length s ≤ more → (walk true true k 0 s ≡ goes k s (item s)) × (follows j s (item s) ≡ false)

abbrev nothing : ℕ → Bool
nothing c = false

follows_nothing : (s : List ℕ) (x : Read) → follows nothing s x ≡ false
follows_nothing s (Ok (v, n)) = refl
follows_nothing s (Err e) = refl

-- ---- operands, over what stands inside parentheses

or_false : (a b c : Bool) → (a || (b || c)) ≡ false → (b || a) ≡ false
or_false true b c e = absurd (let z : ◌≡◌ {A = ℕ} 0 1 = cc in omega arith)
or_false false true c e = absurd (let z : ◌≡◌ {A = ℕ} 0 1 = cc in omega arith)
or_false false false c e = refl

-- what a sum is not followed by
abbrev unjoined : ℕ → Bool
unjoined c = adds c || (multiplies c || nothing c)

closed_walk : (c : ℕ) (r : List ℕ) (k : ℕ) (x : Read) → follows unjoined r x ≡ false → goes (k + 1) r x ≡ goes k (c ∷ r) (closed_of r x)
unfolding closed_of
closed_walk c r k (Err e) h = refl
closed_walk c r k (Ok (v, n)) h = go (ltb n (length r)) (eqb (get_or r n 0) 41) refl refl
  where
    go : (a b : Bool) → ltb n (length r) ≡ a → eqb (get_or r n 0) 41 ≡ b → walk false false (k + 1) 0 (drop n r) ≡ goes k (c ∷ r) (cond (eqb (get_or r n 0) 41) (Ok (v, n + 2)) (Err Fault.Form))
    go false b p q =
        let e : get_or r n 0 ≡ 0 = beyond r n (ltb-false _ _ p) in
        rw e (walk_end r n (ltb-false _ _ p) false false (k + 1) ∙ ne_eqb (k + 1) 0 (λ z. omega arith))
    go true true p q =
        let e : n + 2 ≡ suc (n + 1) = omega arith in
        let f : k + 1 - 1 ≡ k = omega arith in
        rw (q, e) (sym (step_close r n (ltb-true _ _ p) false (k + 1) (eqb-true _ _ q) (λ z. omega arith)) ∙ ap (λ (i : ℕ). walk false false i 0 (drop (n + 1) r)) f)
    go true false p q = rw q (sym (step_other r n (ltb-true _ _ p) false (k + 1) (or_false (adds (get_or r n 0)) (multiplies (get_or r n 0)) false h) (closes_not (get_or r n 0) (k + 1) (eqb-false _ _ q))))

leaf_walk : (c : ℕ) (r : List ℕ) (k : ℕ) → (c ≡ 40 → ⊥) → walk true false k 0 (c ∷ r) ≡ goes k (c ∷ r) (leaf_of none (c ∷ r))
unfolding size_of
leaf_walk c r k f = go (leaf_of none (c ∷ r)) refl
  where
    go : (x : Read) → leaf_of none (c ∷ r) ≡ x → walk true false k 0 (c ∷ r) ≡ goes k (c ∷ r) x
    go (Err e) p = at_nothing c r false k f refl 0 (sym (ap size_of p)) refl
    go (Ok (v, zero)) p = absurd (leaf_some none (c ∷ r) v p)
    go (Ok (v, suc n)) p = at_leaf c r false k f refl (suc n) (sym (ap size_of p)) (λ z. omega arith) ∙ (let q : suc n - 1 ≡ n = omega arith in ap (λ (i : ℕ). walk false false k 0 (drop i r)) q)

signed_walk : (c : ℕ) (r : List ℕ) (k : ℕ) (x : Read) → goes k r x ≡ goes k (c ∷ r) (signed_of 1 x)
unfolding signed_of
signed_walk c r k (Err e) = refl
signed_walk c r k (Ok (v, n)) = rw (add-one n)

no_minus : (c : ℕ) (r : List ℕ) (k : ℕ) → eqb c 45 ≡ false → walk true true k 0 (c ∷ r) ≡ walk true false k 0 (c ∷ r)
unfolding walk
no_minus c r k e = rw e

module _ (inside : List ℕ → Read) (more : ℕ) (inner : (s : List ℕ) (k : ℕ) → length s < more → (walk true true k 0 s ≡ goes k s (inside s)) × (follows unjoined s (inside s) ≡ false)) where
  plain_walk : (s : List ℕ) (k : ℕ) → length s ≤ more → walk true false k 0 s ≡ goes k s (plain_with inside none s)
  unfolding walk plain_with
  plain_walk [] k h = sym (ap (goes k []) (no_plain none inside))
  plain_walk (c ∷ r) k h = go (eqb c 40) refl
    where
      go : (b : Bool) → eqb c 40 ≡ b → walk true false k 0 (c ∷ r) ≡ goes k (c ∷ r) (cond b (closed_of r (inside r)) (leaf_of none (c ∷ r)))
      go true e = let i = inner r (k + 1) (omega arith) in at_open c r false k (eqb-true _ _ e) ∙ i.0 ∙ closed_walk c r k (inside r) i.1
      go false e = leaf_walk c r k (eqb-false _ _ e)

  operand_first : (s : List ℕ) (k : ℕ) → length s ≤ more → walk true true k 0 s ≡ goes k s (operand_with inside none s)
  unfolding operand_with sign_of walk
  operand_first [] k h = sym (ap (goes k []) (unsigned _ ∙ no_plain none inside))
  operand_first (c ∷ r) k h = go (eqb c 45) refl
    where
      go : (b : Bool) → eqb c 45 ≡ b → walk true true k 0 (c ∷ r) ≡ goes k (c ∷ r) (signed_of (cond b 1 0) (plain_with inside none (drop (cond b 1 0) (c ∷ r))))
      go true e = let f = eqb-true c 45 e in at_minus c r true k (λ z. omega arith) e ∙ plain_walk r k (omega arith) ∙ signed_walk c r k _
      go false e = no_minus c r k e ∙ plain_walk (c ∷ r) k h ∙ ap (goes k (c ∷ r)) (sym (unsigned _))

  operand_walk : Walks nothing (operand_with inside none) more
  operand_walk s k h = (operand_first s k h, follows_nothing s (operand_with inside none s))

-- ---- chains

module _ (js j : ℕ → Bool) (none_js : js 0 ≡ false) (none_j : j 0 ≡ false) (only : (c : ℕ) → js c ≡ true → joins c ≡ true) (item : List ℕ → Read) (more : ℕ) (reads : Walks j item more) where
  abbrev either : ℕ → Bool
  either c = js c || j c

  module _ (l : List ℕ) (k : ℕ) (short : length l ≤ more) where
    abbrev Goes : ℕ → Value → Type 0
    Goes i v = (walk false false k 0 (drop i l) ≡ goes k l (chain_of js item v i 0 (drop i l))) × (follows either l (chain_of js item v i 0 (drop i l)) ≡ false)

    -- the chain gives this
    gives : (i : ℕ) (v : Value) (x : Read) → chain_of js item v i 0 (drop i l) ≡ x → walk false false k 0 (drop i l) ≡ goes k l x → follows either l x ≡ false → Goes i v
    gives i v x e a b = rw e (a, b)

    end_goes : (i : ℕ) (v : Value) → length l ≤ i → Goes i v
    end_goes i v h = gives i v (Ok (v, i)) (chain_none js item v i l i h) refl (rw (beyond l i h, none_js) none_j)

    stop_goes : (i : ℕ) (v : Value) → i < length l → js (get_or l i 0) ≡ false → j (get_or l i 0) ≡ false → Goes i v
    stop_goes i v h e f = gives i v (Ok (v, i)) (chain_stop js item l i h v i e) refl (rw e f)

    turn_goes : (i : ℕ) (v : Value) → i < length l → js (get_or l i 0) ≡ true → (x : Read) → item (drop (i + 1) l) ≡ x
        → ((n : ℕ) (b : Value) → j (get_or l (i + 1 + n) 0) ≡ false → Goes (i + 1 + n) b) → Goes i v
    unfolding joined_of
    turn_goes i v h e (Err f) p next = gives i v (Err f) (chain_not js item l i h v i f e (ap (joined_of _ v) p)) (on ∙ ap (goes k (drop (i + 1) l)) p) refl
      where
        on : walk false false k 0 (drop i l) ≡ goes k (drop (i + 1) l) (item (drop (i + 1) l))
        on = sym (step_join l i h false k (only _ e)) ∙ (reads (drop (i + 1) l) k (rw length-drop (omega arith))).0
    turn_goes i v h e (Ok (w, n)) p next =
        let r = reads (drop (i + 1) l) k (rw length-drop (omega arith)) in
        let x = combined (get_or l i 0) v w in
        let g = next n x (sym (ap j (get_or-drop (i + 1) l n 0)) ∙ sym (ap (follows j (drop (i + 1) l)) p) ∙ r.1) in
        let q : chain_of js item v i 0 (drop i l) ≡ chain_of js item x (i + 1 + n) 0 (drop (i + 1 + n) l) = chain_on js item l i h v x i n e (ap (joined_of _ v) p) in
        gives i v _ q (sym (step_join l i h false k (only _ e)) ∙ r.0 ∙ ap (goes k (drop (i + 1) l)) p ∙ ap (walk false false k 0) (drop-drop n (i + 1) l) ∙ g.0) g.1

    chain_goes : (d i : ℕ) (v : Value) → length l ≤ i + d → j (get_or l i 0) ≡ false → Goes i v
    chain_goes zero i v h f = end_goes i v (omega arith)
    chain_goes (suc d) i v h f = go (ltb i (length l)) (js (get_or l i 0)) refl refl (λ n b g. chain_goes d (i + 1 + n) b (omega arith) g)
      where
        go : (a b : Bool) → ltb i (length l) ≡ a → js (get_or l i 0) ≡ b → ((n : ℕ) (b : Value) → j (get_or l (i + 1 + n) 0) ≡ false → Goes (i + 1 + n) b) → Goes i v
        go false b p q next = end_goes i v (ltb-false _ _ p)
        go true false p q next = stop_goes i v (ltb-true _ _ p) q f
        go true true p q next = turn_goes i v (ltb-true _ _ p) q _ refl next

  items_walk : Walks either (items_of js item) more
  items_walk l k short = go (item l) refl (reads l k short)
    where
      go : (x : Read) → item l ≡ x → (walk true true k 0 l ≡ goes k l (item l)) × (follows j l (item l) ≡ false) → (walk true true k 0 l ≡ goes k l (items_of js item l)) × (follows either l (items_of js item l) ≡ false)
      go (Err e) p (a, b) = rw (items_not js item l e p) (a ∙ ap (goes k l) p, refl)
      go (Ok (v, n)) p (a, b) =
          let g = chain_goes l k short (length l) n v (omega arith) (sym (ap (follows j l) p) ∙ b) in
          rw (items_got js item l v n p) (a ∙ ap (goes k l) p ∙ g.0, g.1)

-- ---- sums

only_times : (c : ℕ) → multiplies c ≡ true → joins c ≡ true
only_times c e = rw e

sum_walks : (inside : List ℕ → Read) (more : ℕ) → ((s : List ℕ) (k : ℕ) → length s < more → (walk true true k 0 s ≡ goes k s (inside s)) × (follows unjoined s (inside s) ≡ false))
    → Walks unjoined (sum_with inside none) more
unfolding sum_with product_with
sum_walks inside more inner =
    items_walk adds (λ c. multiplies c || nothing c) refl refl (λ c e. joins_adds c true (sym e) refl) (product_with inside none) more
    (items_walk multiplies nothing refl refl only_times (operand_with inside none) more (operand_walk inside more inner))

inside_walks : (more : ℕ) (s : List ℕ) (k : ℕ) → length s < more → (walk true true k 0 s ≡ goes k s (inside_of none more s)) × (follows unjoined s (inside_of none more s) ≡ false)
unfolding inside_of
inside_walks zero s k h = absurd (omega arith)
inside_walks (suc more) s k h = sum_walks (inside_of none more) more (inside_walks more) s k (omega arith)

-- where no parenthesis is open, the walk says whether all is read
whole : (s : List ℕ) (x : Read) → size_of x ≤ length s → follows unjoined s x ≡ false → goes 0 s x ≡ is_whole s x
unfolding is_whole size_of
whole s (Err e) h f = refl
whole s (Ok (v, n)) h f = go (ltb n (length s)) refl
  where
    go : (a : Bool) → ltb n (length s) ≡ a → walk false false 0 0 (drop n s) ≡ eqb n (length s)
    go false p = let e : n ≡ length s = let q = ltb-false n (length s) p in omega arith in walk_end s n (ltb-false _ _ p) false false 0 ∙ sym (eq-eqb _ _ e)
    go true p =
        let q = ltb-true n (length s) p in
        sym (step_other s n q false 0 (or_false (adds (get_or s n 0)) (multiplies (get_or s n 0)) false f) (closes_none (get_or s n 0) 0 refl)) ∙ sym (ne_eqb n (length s) (λ z. omega arith))

pub sum_walk : (s : List ℕ) → is_sum s ≡ walk true true 0 0 s
unfolding is_sum inside_of sum_of
sum_walk s =
    let w = inside_walks (suc (length s)) s 0 (omega arith) in
    sym (w.0 ∙ whole s (inside_of none (suc (length s)) s) (sum_within none (length s) s) w.1)
