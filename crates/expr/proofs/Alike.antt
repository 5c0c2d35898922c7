-- Two readings go alike: of a text, and of the same text with an end that joins nothing, by other labels and with another allowance.
-- Once for both uses: a text is read as before where `)` follows, and its form depends neither on labels nor, but for depth, on the allowance.
-- Assumes nothing.
use Rattle.std.specs.Prelude.{None, Option, Some, ℕ, Ok, Err}
use Prim.Native.Nat.{ℕ, zero, suc, ◌+◌, ◌<◌, ◌≤◌}
use mathlib.Core.Path.{◌≡◌, refl, sym, ap, ap₂, ◌∙◌}
use mathlib.Core.Bool.{Bool, true, false, cond, ◌||◌}
use mathlib.Core.List.{List, [], ◌∷◌, ◌++◌, append-nil}
use native.Mathlib.Omega.{arith}
use lib.Dec.{eqb, leb, ltb}
use borrow.Author.Tests.{eqb-true, ltb-true, ltb-false}
use lib.ListN.{length, get_or, take, drop, length-append, length-drop, length-take, get_or-append}
use lib.Seq.{take-append-le, drop-append-le, drop_at}
use Rattle.text.specs.Digits.{digits_read, leading_zero}
use Rattle.expr.specs.Expr.{Read}
use Rattle.expr.specs.declared.Value.{Value}
use Rattle.expr.specs.declared.Fault.{Fault}
use Rattle.expr.specs.Value.{combined, written}
use Rattle.expr.specs.Expr.{Labels, none, size_of, is_letter, is_hex, run_of, key_of, meaning, counted, word_read, leaf_of, joined_of, chain_of, items_of, adds, multiplies, sign_of, signed_of, closed_of, plain_with, operand_with, product_with, sum_with, inside_of, sum_of}
use Rattle.expr.proofs.Laws.{got_same, within, items_got, items_not, chain_stop, chain_on, chain_not, chain_none}
use Rattle.expr.proofs.Names.{run_most}

-- ---- nothing is read of nothing

pub no_plain : (t : Labels) (inside : List ℕ → Read) → plain_with inside t [] ≡ Err Fault.Form
unfolding plain_with leaf_of word_read run_of
no_plain t inside = refl

-- ---- what is alike: where the first gives a value the second gives one that is the same, of as many bytes of the text, or a fault that is allowed

module _ (same : Value → Value → Type 0) (allowed : Fault → Type 0) where
  abbrev pub like : List ℕ → Read → Read → Type 0
  like s (Err e) r = Unit
  like s (Ok (v, n)) (Ok (w, m)) = same v w × (m ≡ n) × (n ≤ length s)
  like s (Ok (v, n)) (Err e) = allowed e

  like_by : (s : List ℕ) {a b : Read} → a ≡ b → {x y : Read} → x ≡ y → like s b y → like s a x
  like_by s e f h = rw (e, f) h

  pub like_fault : (s : List ℕ) (r : Read) (e : Fault) → allowed e → like s r (Err e)
  like_fault s (Ok (v, n)) e a = a
  like_fault s (Err f) e a = tt

  -- of a word: both are values of all its bytes, or neither is
  abbrev exact : ℕ → Read → Read → Type 0
  exact z (Err e) y = Unit
  exact z (Ok (v, n)) (Ok (w, m)) = same v w × (n ≡ z) × (m ≡ z)
  exact z (Ok (v, n)) (Err e) = ⊥

  exact_like : (z : ℕ) (s : List ℕ) → z ≤ length s → (x y : Read) → exact z x y → like s x y
  exact_like z s h (Ok (v, n)) (Ok (u, m)) (a, b, c) = (a, omega arith, omega arith)
  exact_like z s h (Ok (v, n)) (Err e) a = absurd a
  exact_like z s h (Err e) y a = tt

  module _ (t u : Labels) (end : List ℕ) (ends : run_of end ≡ 0)
      (self : (v : Value) → same v v)
      (meant : (k : ℕ) → same (meaning t k) (meaning u k))
      (made : (c : ℕ) (v w x y : Value) → same v w → same x y → same (combined c v x) (combined c w y)) where
    -- ---- leaves

    word_exact : (w : List ℕ) → exact (length w) (word_read t w) (word_read u w)
    unfolding word_read counted
    word_exact w = go (is_letter (get_or w 0 0)) (leb (length w) 12) (is_hex w) (eqb (length w) 0 || leading_zero w) (digits_read 16 0 (drop 2 w)) (digits_read 10 0 w)
      where
        go : (a b c d : Bool) (x y : Option ℕ)
            → exact (length w) (cond a (cond b (Ok (meaning t (key_of w), length w)) (Err Fault.Form)) (cond c (counted (length w) x) (cond d (Err Fault.Form) (counted (length w) y))))
            (cond a (cond b (Ok (meaning u (key_of w), length w)) (Err Fault.Form)) (cond c (counted (length w) x) (cond d (Err Fault.Form) (counted (length w) y))))
        go true true c d x y = (meant (key_of w), refl, refl)
        go true false c d x y = tt
        go false b true d (Some n) y = (self (written n), refl, refl)
        go false b true d None y = tt
        go false b false true x y = tt
        go false b false false x (Some n) = (self (written n), refl, refl)
        go false b false false x None = tt

    run_same : (s : List ℕ) → run_of (s ++ end) ≡ run_of s
    unfolding run_of
    run_same [] = ends
    run_same (c ∷ s) = rw (run_same s)

    leaf_like : (s : List ℕ) → like s (leaf_of t s) (leaf_of u (s ++ end))
    unfolding leaf_of
    leaf_like s =
        let same_word : take (run_of (s ++ end)) (s ++ end) ≡ take (run_of s) s = rw (run_same s) (take-append-le (run_of s) s end (run_most s)) in
        let short : length (take (run_of s) s) ≤ length s = rw length-take (omega arith) in
        rw same_word (exact_like (length (take (run_of s) s)) s short (word_read t (take (run_of s) s)) (word_read u (take (run_of s) s)) (word_exact (take (run_of s) s)))

    -- ---- operands, over what stands inside parentheses

    closed_like : (c : ℕ) (r : List ℕ) (x y : Read) → like r x y → like (c ∷ r) (closed_of r x) (closed_of (r ++ end) y)
    unfolding closed_of
    closed_like c r (Err e) y h = tt
    closed_like c r (Ok (v, n)) (Err e) h = go (eqb (get_or r n 0) 41)
      where
        go : (b : Bool) → like (c ∷ r) (cond b (Ok (v, n + 2)) (Err Fault.Form)) (Err e)
        go true = h
        go false = tt
    closed_like c r (Ok (v, n)) (Ok (w, m)) (a, e, h) = go (eqb (get_or r n 0) 41) refl
      where
        go : (b : Bool) → eqb (get_or r n 0) 41 ≡ b → like (c ∷ r) (cond b (Ok (v, n + 2)) (Err Fault.Form)) (cond (eqb (get_or (r ++ end) m 0) 41) (Ok (w, m + 2)) (Err Fault.Form))
        go true p =
            let q : get_or r n 0 ≡ 41 = eqb-true _ _ p in
            let k : n < length r = within r n (λ z. omega (arith, z)) in
            rw (e, get_or-append r end 0 n k, p) (a, refl, omega arith)
        go false p = tt

    signed_like : (c : ℕ) (r : List ℕ) (x y : Read) → like r x y → like (c ∷ r) (signed_of 1 x) (signed_of 1 y)
    unfolding signed_of
    signed_like c r (Err e) y h = tt
    signed_like c r (Ok (v, n)) (Err e) h = h
    signed_like c r (Ok (v, n)) (Ok (w, m)) (a, e, h) = (made 45 _ _ v w (self _) a, ap (λ (i : ℕ). i + 1) e, omega arith)

    unsigned_like : (s : List ℕ) (x y : Read) → like s x y → like s (signed_of 0 x) (signed_of 0 y)
    unfolding signed_of
    unsigned_like s (Err e) y h = tt
    unsigned_like s (Ok (v, n)) (Err e) h = h
    unsigned_like s (Ok (v, n)) (Ok (w, m)) h = h

    module _ (in1 in2 : List ℕ → Read) (inner : (s : List ℕ) → like s (in1 s) (in2 (s ++ end))) where
      plain_like : (s : List ℕ) → like s (plain_with in1 t s) (plain_with in2 u (s ++ end))
      unfolding plain_with
      plain_like [] = like_by [] (no_plain t in1) {y = plain_with in2 u end} refl tt
      plain_like (c ∷ r) = go (eqb c 40)
        where
          go : (b : Bool) → like (c ∷ r) (cond b (closed_of r (in1 r)) (leaf_of t (c ∷ r))) (cond b (closed_of (r ++ end) (in2 (r ++ end))) (leaf_of u (c ∷ r ++ end)))
          go true = closed_like c r _ _ (inner r)
          go false = leaf_like (c ∷ r)

      no_signed : signed_of 0 (Err Fault.Form) ≡ Err Fault.Form
      unfolding signed_of
      no_signed = refl

      operand_like : (s : List ℕ) → like s (operand_with in1 t s) (operand_with in2 u (s ++ end))
      unfolding operand_with sign_of
      operand_like [] = like_by [] (ap (signed_of 0) (no_plain t in1) ∙ no_signed) {y = operand_with in2 u end} refl tt
      operand_like (c ∷ r) = go (eqb c 45)
        where
          go : (b : Bool) → like (c ∷ r) (signed_of (cond b 1 0) (plain_with in1 t (drop (cond b 1 0) (c ∷ r)))) (signed_of (cond b 1 0) (plain_with in2 u (drop (cond b 1 0) (c ∷ r ++ end))))
          go true = signed_like c r _ _ (plain_like r)
          go false = unsigned_like (c ∷ r) _ _ (plain_like (c ∷ r))

    -- ---- chains

    module _ (joins : ℕ → Bool) (stops : joins (get_or end 0 0) ≡ false) (item1 item2 : List ℕ → Read) (each : (s : List ℕ) → like s (item1 s) (item2 (s ++ end))) where
      at_end : (v : Value) (i : ℕ) (e : List ℕ) → joins (get_or e 0 0) ≡ false → chain_of joins item2 v i 0 e ≡ Ok (v, i)
      unfolding chain_of
      at_end v i [] h = refl
      at_end v i (c ∷ e) h = rw h

      module _ (l : List ℕ) where
        abbrev first : ℕ → Value → Read
        first i v = chain_of joins item1 v i 0 (drop i l)

        abbrev second : ℕ → Value → Read
        second i w = chain_of joins item2 w i 0 (drop i (l ++ end))

        end_like : (i : ℕ) (v w : Value) → same v w → i ≤ length l → length l ≤ i → like l (first i v) (second i w)
        end_like i v w a p q =
            let e : length l ≡ i = omega arith in
            like_by l (chain_none joins item1 v i l i q) (ap (chain_of joins item2 w i 0) (drop_at l end i e) ∙ at_end w i end stops) (a, refl, p)

        module _ (i : ℕ) (h : i < length l) (v w : Value) (a : same v w) where
          far : i < length (l ++ end)
          far = rw length-append (omega arith)

          byte_same : get_or (l ++ end) i 0 ≡ get_or l i 0
          byte_same = get_or-append l end 0 i h

          stop_like : joins (get_or l i 0) ≡ false → like l (first i v) (second i w)
          stop_like e = like_by l (chain_stop joins item1 l i h v i e) (chain_stop joins item2 (l ++ end) i far w i (ap joins byte_same ∙ e)) (a, refl, omega arith)

          turn_like : joins (get_or l i 0) ≡ true → (x y : Read) → item1 (drop (i + 1) l) ≡ x → item2 (drop (i + 1) (l ++ end)) ≡ y → like (drop (i + 1) l) x y
              → ((n : ℕ) (b c : Value) → same b c → i + 1 + n ≤ length l → like l (first (i + 1 + n) b) (second (i + 1 + n) c)) → like l (first i v) (second i w)
          unfolding joined_of
          turn_like j (Err e) y p q r k = like_by l (chain_not joins item1 l i h v i e j (ap (joined_of _ v) p)) {y = second i w} refl tt
          turn_like j (Ok (x, n)) (Err e) p q r k = like_by l {a = first i v} refl (chain_not joins item2 (l ++ end) i far w i e (ap joins byte_same ∙ j) (ap (joined_of _ w) q)) (like_fault l (first i v) e r)
          turn_like j (Ok (x, n)) (Ok (y, m)) p q (b, f, g) k =
              let e : joined_of (get_or (l ++ end) i 0) w (item2 (drop (i + 1) (l ++ end))) ≡ Ok (combined (get_or l i 0) w y, n)
              = ap (joined_of _ w) q ∙ rw (byte_same, f) in
              let long = rw length-drop at g in
              like_by l (chain_on joins item1 l i h v (combined (get_or l i 0) v x) i n j (ap (joined_of _ v) p)) (chain_on joins item2 (l ++ end) i far w (combined (get_or l i 0) w y) i n (ap joins byte_same ∙ j) e)
              (k n _ _ (made (get_or l i 0) v w x y a b) (omega arith))

        chain_like : (d i : ℕ) (v w : Value) → same v w → i ≤ length l → length l ≤ i + d → like l (first i v) (second i w)
        chain_like zero i v w a p q = end_like i v w a p (omega arith)
        chain_like (suc d) i v w a p q = go (ltb i (length l)) (joins (get_or l i 0)) refl refl (λ n b c m h. chain_like d (i + 1 + n) b c m h (omega arith))
          where
            go : (x y : Bool) → ltb i (length l) ≡ x → joins (get_or l i 0) ≡ y
                → ((n : ℕ) (b c : Value) → same b c → i + 1 + n ≤ length l → like l (first (i + 1 + n) b) (second (i + 1 + n) c)) → like l (first i v) (second i w)
            go false y e f k = end_like i v w a p (ltb-false _ _ e)
            go true false e f k = stop_like i (ltb-true _ _ e) v w a f
            go true true e f k =
                let h = ltb-true i (length l) e in
                let rest : drop (i + 1) (l ++ end) ≡ drop (i + 1) l ++ end = drop-append-le (i + 1) l end (omega arith) in
                turn_like i h v w a f _ _ refl refl (rw rest (each (drop (i + 1) l))) k

        items_like : like l (items_of joins item1 l) (items_of joins item2 (l ++ end))
        items_like = go (item1 l) (item2 (l ++ end)) refl refl (each l)
          where
            go : (x y : Read) → item1 l ≡ x → item2 (l ++ end) ≡ y → like l x y → like l (items_of joins item1 l) (items_of joins item2 (l ++ end))
            go (Err e) y p q r = like_by l (items_not joins item1 l e p) {y = items_of joins item2 (l ++ end)} refl tt
            go (Ok (v, n)) (Err e) p q r = like_by l {a = items_of joins item1 l} refl (items_not joins item2 (l ++ end) e q) (like_fault l (items_of joins item1 l) e r)
            go (Ok (v, n)) (Ok (w, m)) p q (a, f, h) =
                like_by l (items_got joins item1 l v n p) (items_got joins item2 (l ++ end) w m q ∙ rw f) (chain_like (length l) n v w a h (omega arith))

    -- ---- the grammar

    module _ (plus : adds (get_or end 0 0) ≡ false) (times : multiplies (get_or end 0 0) ≡ false) (in1 in2 : List ℕ → Read) (inner : (s : List ℕ) → like s (in1 s) (in2 (s ++ end))) where
      product_like : (s : List ℕ) → like s (product_with in1 t s) (product_with in2 u (s ++ end))
      unfolding product_with
      product_like s = items_like multiplies times (operand_with in1 t) (operand_with in2 u) (operand_like in1 in2 inner) s

      pub sum_like : (s : List ℕ) → like s (sum_with in1 t s) (sum_with in2 u (s ++ end))
      unfolding sum_with
      sum_like s = items_like adds plus (product_with in1 t) (product_with in2 u) product_like s

-- ---- a number or label has a byte

abbrev no : Fault → Type 0
no e = ⊥

abbrev pub any : Value → Value → Type 0
any v w = Unit

nil_name : run_of [] ≡ 0
unfolding run_of
nil_name = refl

word_some : (t : Labels) (w : List ℕ) (v : Value) → word_read t w ≡ Ok (v, 0) → ⊥
unfolding word_read
word_some t [] v e = let z : ◌≡◌ {A = ℕ} 0 1 = cc in omega arith
word_some t (c ∷ w) v e = go (word_read t (c ∷ w)) e (word_exact any no t t [] nil_name (λ v. tt) (λ k. tt) (λ c v w x y a b. tt) (c ∷ w))
  where
    go : (x : Read) → x ≡ Ok (v, 0) → exact any no (suc (length w)) x x → ⊥
    go (Ok (u, n)) p (a, b, c) = let q = got_same _ _ _ _ p in omega (arith, q.1)
    go (Err f) p h = let z : ◌≡◌ {A = ℕ} 0 1 = cc in omega arith

pub leaf_some : (t : Labels) (s : List ℕ) (v : Value) → leaf_of t s ≡ Ok (v, 0) → ⊥
unfolding leaf_of
leaf_some t s v e = word_some t (take (run_of s) s) v e

no_name : (r : List ℕ) → run_of (41 ∷ r) ≡ 0
unfolding run_of
no_name r = refl

-- ---- where `)` follows, a text is read as before, and never past its end

module _ (t : Labels) (r : List ℕ) where
  inside_kept : (more : ℕ) (s : List ℕ) → like ◌≡◌ no s (inside_of t more s) (inside_of t more (s ++ 41 ∷ r))
  unfolding inside_of
  inside_kept zero s = tt
  inside_kept (suc more) s = sum_like ◌≡◌ no t t (41 ∷ r) (no_name r) (λ v. refl) (λ k. refl) (λ c v w x y e f. ap₂ (combined c) e f) refl refl (inside_of t more) (inside_of t more) (inside_kept more) s

  pub sum_kept : (more : ℕ) (s : List ℕ) → like ◌≡◌ no s (sum_of t more s) (sum_of t more (s ++ 41 ∷ r))
  unfolding inside_of sum_of
  sum_kept more s = inside_kept (suc more) s

pub sum_within : (t : Labels) (more : ℕ) (s : List ℕ) → size_of (sum_of t more s) ≤ length s
unfolding size_of
sum_within t more s = go (sum_of t more s) (sum_of t more (s ++ 41 ∷ [])) (sum_kept t [] more s)
  where
    go : (x y : Read) → like ◌≡◌ no s x y → size_of x ≤ length s
    go (Err e) y h = omega arith
    go (Ok (v, n)) (Ok (w, m)) (a, e, h) = h
    go (Ok (v, n)) (Err e) h = absurd h

pub sum_still : (t : Labels) (more : ℕ) (s r : List ℕ) (v : Value) (n : ℕ) → sum_of t more s ≡ Ok (v, n) → sum_of t more (s ++ 41 ∷ r) ≡ Ok (v, n)
sum_still t more s r v n = go (sum_of t more s) (sum_of t more (s ++ 41 ∷ r)) (sum_kept t r more s)
  where
    go : (x y : Read) → like ◌≡◌ no s x y → x ≡ Ok (v, n) → y ≡ Ok (v, n)
    go (Err e) y h p = absurd (let z : ◌≡◌ {A = ℕ} 0 1 = cc in omega arith)
    go (Ok (u, k)) (Err e) h p = absurd h
    go (Ok (u, k)) (Ok (w, m)) (a, b, c) p = let q = got_same _ _ _ _ p in ap₂ (λ (x : Value) (i : ℕ). Ok (x, i)) (sym a ∙ q.0) (b ∙ q.1)

-- ---- whatever labels mean, and however many parentheses may open, the form is the same but for depth

abbrev pub deep : Fault → Type 0
deep Fault.Deep = Unit
deep Fault.Form = ⊥

inside_form : (t : Labels) (most more : ℕ) (s : List ℕ) → like any deep s (inside_of none most s) (inside_of t more (s ++ []))
unfolding inside_of
inside_form t zero more s = tt
inside_form t (suc most) zero s = like_fault any deep s (sum_with (inside_of none most) none s) Fault.Deep tt
inside_form t (suc most) (suc more) s = sum_like any deep none t [] nil_name (λ v. tt) (λ k. tt) (λ c v w x y a b. tt) refl refl (inside_of none most) (inside_of t more) (inside_form t most more) s

pub sum_form : (t : Labels) (more : ℕ) (s : List ℕ) → like any deep s (sum_of none (length s) s) (sum_of t more s)
unfolding inside_of sum_of
sum_form t more s = rw append-nil at (inside_form t (suc (length s)) (suc more) s)
