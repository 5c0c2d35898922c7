-- A bad line, and no other, has a reason.
-- Assumes nothing.
use Rattle.std.specs.Prelude.{None, Option, Some, ℕ}
use Prim.Native.Nat.{ℕ, zero, suc, ◌+◌, ◌*◌, ◌/◌, ◌%◌, ◌<◌, ◌≤◌}
use mathlib.Core.Path.{◌≡◌, refl, sym, ap, ◌∙◌}
use mathlib.Core.Bool.{Bool, true, false, cond, not, ◌&&◌, ◌||◌}
use mathlib.Core.List.{List, [], ◌∷◌}
use native.Mathlib.Omega.{arith}
use lib.Dec.{ltb, leb, eqb}
use lib.ListN.{length}
use borrow.Author.Tests.{ltb-true, ltb-false, lt-ltb, le-ltb, le-leb, leb-true, leb-false, eqb-true, ne_eqb}
use Rattle.text.specs.Digits.{value_of, digits_read, digits_in, leading_zero, decimal_of, address_of, are_hex}
use Rattle.text.specs.Fields.{before_of, beyond_of, same_of}
use Rattle.marks.specs.Memory.{Marks}
use Rattle.script.specs.Line.{told, size_of, budget_of, is_even, are_bytes, put_of, count_of, mark_of, first_of, body_of, line_of, word_mem, word_at, word_mark, word_run}
use Rattle.script.specs.Fault.{good, found, letters_in, bad_digits, bad_address, decimal_fault, address_fault, bytes_fault, limit_fault, away_fault, count_fault, number_fault, put_fault, mark_fault, first_fault, body_fault, fault_of}
use Rattle.script.specs.Statements.{is_bad, is_fault}
use Rattle.script.specs.declared.Fault.{Fault}
use Rattle.script.specs.declared.Phase.{Phase}
use Rattle.script.specs.declared.Reason.{Reason}

-- ---- digits that lead a field, and the number that they write

abbrev is_number : Option ℕ → Bool
is_number None = false
is_number (Some n) = true

digits_few : (b n : ℕ) (l : List ℕ) → (digits_in b n l ≤ n) × (digits_in b n l ≤ length l)
unfolding digits_in
digits_few b zero l = (omega arith, omega arith)
digits_few b (suc n) [] = (omega arith, omega arith)
digits_few b (suc n) (c ∷ l) = go (ltb (value_of c) b) (digits_few b n l)
  where
    go : (t : Bool) → (digits_in b n l ≤ n) × (digits_in b n l ≤ length l)
        → (cond t (suc (digits_in b n l)) 0 ≤ suc n) × (cond t (suc (digits_in b n l)) 0 ≤ suc (length l))
    go true h = (omega arith, omega arith)
    go false h = (omega arith, omega arith)

-- all of them are digits, so they write a number; and the other way round
digits_all : (b n v : ℕ) (l : List ℕ) → is_number (digits_read b v l) ≡ true → length l ≤ n → digits_in b n l ≡ length l
unfolding digits_in digits_read
digits_all b zero v [] e h = refl
digits_all b (suc n) v [] e h = refl
digits_all b zero v (c ∷ l) e h = absurd (omega arith)
digits_all b (suc n) v (c ∷ l) e h = go (ltb (value_of c) b) e (λ q. digits_all b n (v * b + value_of c) l q (omega arith))
  where
    go : (t : Bool) → is_number (cond t (digits_read b (v * b + value_of c) l) None) ≡ true
        → (is_number (digits_read b (v * b + value_of c) l) ≡ true → digits_in b n l ≡ length l)
        → cond t (suc (digits_in b n l)) 0 ≡ suc (length l)
    go true q i = ap suc (i q)
    go false q i = let z : ◌≡◌ {A = ℕ} 0 1 = cc in absurd (omega arith)

digits_read_lem : (b n v : ℕ) (l : List ℕ) → length l ≤ digits_in b n l → is_number (digits_read b v l) ≡ true
unfolding digits_in digits_read
digits_read_lem b n v [] h = refl
digits_read_lem b zero v (c ∷ l) h = absurd (omega arith)
digits_read_lem b (suc n) v (c ∷ l) h = go (ltb (value_of c) b) h (digits_read_lem b n (v * b + value_of c) l)
  where
    go : (t : Bool) → suc (length l) ≤ cond t (suc (digits_in b n l)) 0
        → (length l ≤ digits_in b n l → is_number (digits_read b (v * b + value_of c) l) ≡ true)
        → is_number (cond t (digits_read b (v * b + value_of c) l) None) ≡ true
    go true q i = i (omega arith)
    go false q i = absurd (omega arith)

hex_read : (v : ℕ) (l : List ℕ) → are_hex l ≡ is_number (digits_read 16 v l)
unfolding are_hex digits_read
hex_read v [] = refl
hex_read v (c ∷ l) = go (ltb (value_of c) 16) (hex_read (v * 16 + value_of c) l)
  where
    go : (t : Bool) → are_hex l ≡ is_number (digits_read 16 (v * 16 + value_of c) l)
        → (t && are_hex l) ≡ is_number (cond t (digits_read 16 (v * 16 + value_of c) l) None)
    go true i = i
    go false i = refl

-- n bytes of a field are digits, all and not none, exactly if this many lead it
module _ (b n : ℕ) (f : List ℕ) where
  bad_few : is_number (digits_read b 0 f) ≡ false → bad_digits (digits_in b n f) (length f) ≡ true
  bad_few e = go (ltb (digits_in b n f) (length f)) refl (eqb (digits_in b n f) 0)
    where
      go : (t : Bool) → ltb (digits_in b n f) (length f) ≡ t → (z : Bool) → (z || t) ≡ true
      go t q true = refl
      go true q false = refl
      go false q false =
          let r : is_number (digits_read b 0 f) ≡ true = digits_read_lem b n 0 f (ltb-false _ _ q) in
          let w : false ≡ true = sym e ∙ r in
          let y : ◌≡◌ {A = ℕ} 0 1 = cc in
          absurd (omega arith)

  bad_long : n < length f → bad_digits (digits_in b n f) (length f) ≡ true
  bad_long h = go (eqb (digits_in b n f) 0) (digits_few b n f)
    where
      go : (z : Bool) → (digits_in b n f ≤ n) × (digits_in b n f ≤ length f) → (z || ltb (digits_in b n f) (length f)) ≡ true
      go true q = refl
      go false q = lt-ltb (digits_in b n f) (length f) (omega arith)

  -- they are digits, and as many as may be
  bad_none : is_number (digits_read b 0 f) ≡ true → length f ≤ n → bad_digits (digits_in b n f) (length f) ≡ eqb (length f) 0
  bad_none e h = rw (digits_all b n 0 f e h, le-ltb (length f) (length f) (omega arith)) (go (eqb (length f) 0))
    where
      go : (z : Bool) → (z || false) ≡ z
      go true = refl
      go false = refl

-- ---- each part of a line: x is what follows where the form is right

-- a fault of reason r, or else x
module _ (l : List ℕ) (r : Reason) (a : ℕ) (x : Option Fault) where
  one_fault : (t : Bool) → is_fault (cond t (found r a l) x) ≡ (t || is_fault x)
  one_fault true = refl
  one_fault false = refl

decimal_form : (f : List ℕ) → is_number (decimal_of f) ≡ (not (bad_digits (digits_in 10 5 f) (length f)) && not (leading_zero f))
decimal_form f = go (is_number (digits_read 10 0 f)) refl (leb (length f) 5) refl (leading_zero f)
  where
    none : (s z : Bool) → is_number (digits_read 10 0 f) ≡ false → is_number (cond s (cond z None (digits_read 10 0 f)) None) ≡ false
    none true true e = refl
    none true false e = e
    none false z e = refl

    some : (t z : Bool) → is_number (digits_read 10 0 f) ≡ true
        → is_number (cond (not t && true) (cond z None (digits_read 10 0 f)) None) ≡ (not t && not z)
    some true z e = refl
    some false true e = refl
    some false false e = e

    one : leb 1 (length f) ≡ not (eqb (length f) 0)
    one = by (length f)
      where
        by : (n : ℕ) → leb 1 n ≡ not (eqb n 0)
        by zero = refl
        by (suc n) = le-leb 1 (suc n) (omega arith) ∙ sym (ap not (ne_eqb (suc n) 0 (λ e. omega arith)))

    go : (t : Bool) → is_number (digits_read 10 0 f) ≡ t → (s : Bool) → leb (length f) 5 ≡ s → (z : Bool)
        → is_number (cond (leb 1 (length f) && leb (length f) 5) (cond z None (digits_read 10 0 f)) None)
        ≡ (not (bad_digits (digits_in 10 5 f) (length f)) && not z)
    go false e s h z = rw (bad_few 10 5 f e) (none (leb 1 (length f) && leb (length f) 5) z e)
    go true e true h z = rw (h, bad_none 10 5 f e (leb-true _ _ h), one) (some (eqb (length f) 0) z e)
    go true e false h z =
        let w = leb-false (length f) 5 h in
        rw (h, le-leb 1 (length f) (omega arith), bad_long 10 5 f (omega arith))

-- a decimal, an address, bytes: a fault exactly if they are none, or if one follows
decimal_fault_lem : (a : ℕ) (l f : List ℕ) (x : Option Fault) → is_fault (decimal_fault a l f x) ≡ (not (is_number (decimal_of f)) || is_fault x)
unfolding decimal_fault
decimal_fault_lem a l f x =
    one_fault l Reason.Decimal (a + digits_in 10 5 f) (cond (leading_zero f) (found Reason.LeadingZero a l) x) (bad_digits (digits_in 10 5 f) (length f))
    ∙ ap (λ (y : Bool). bad_digits (digits_in 10 5 f) (length f) || y) (one_fault l Reason.LeadingZero a x (leading_zero f))
    ∙ go (bad_digits (digits_in 10 5 f) (length f)) (leading_zero f) (is_fault x)
    ∙ ap (λ (y : Bool). not y || is_fault x) (sym (decimal_form f))
  where
    go : (p q r : Bool) → (p || (q || r)) ≡ (not (not p && not q) || r)
    go true q r = refl
    go false true r = refl
    go false false r = refl

address_form : (f : List ℕ) → bad_address (digits_in 16 8 f) (length f) ≡ not (is_number (address_of f))
address_form f = ap not (go (eqb (length f) 8) refl)
  where
    eight : length f ≡ 8 → (t : Bool) → is_number (digits_read 16 0 f) ≡ t → (eqb (digits_in 16 8 f) 8 && true) ≡ t
    eight e true q = rw (digits_all 16 8 0 f q (omega arith), e)
    eight e false q = by (eqb (digits_in 16 8 f) 8) refl
      where
        by : (t : Bool) → eqb (digits_in 16 8 f) 8 ≡ t → (t && true) ≡ false
        by false z = refl
        by true z =
            let d : digits_in 16 8 f ≡ 8 = eqb-true _ _ z in
            let r : is_number (digits_read 16 0 f) ≡ true = digits_read_lem 16 8 0 f (omega arith) in
            let w : true ≡ false = sym r ∙ q in
            let y : ◌≡◌ {A = ℕ} 0 1 = cc in
            absurd (omega arith)

    never : (t : Bool) → (t && false) ≡ false
    never true = refl
    never false = refl

    go : (t : Bool) → eqb (length f) 8 ≡ t → (eqb (digits_in 16 8 f) 8 && t) ≡ is_number (cond t (digits_read 16 0 f) None)
    go true e = eight (eqb-true _ _ e) (is_number (digits_read 16 0 f)) refl
    go false e = never (eqb (digits_in 16 8 f) 8)

address_fault_lem : (a : ℕ) (l f : List ℕ) (x : Option Fault) → is_fault (address_fault a l f x) ≡ (not (is_number (address_of f)) || is_fault x)
unfolding address_fault
address_fault_lem a l f x =
    one_fault l Reason.Address (a + digits_in 16 8 f) x (bad_address (digits_in 16 8 f) (length f))
    ∙ ap (λ (y : Bool). y || is_fault x) (address_form f)

-- an even number of digits, not none, is two or more
bytes_form : (h : List ℕ) → are_bytes h ≡ (not (bad_digits (digits_in 16 32 h) (length h)) && is_even (length h))
bytes_form h = rw (hex_read 0 h) (go (is_number (digits_read 16 0 h)) refl (leb (length h) 32) refl)
  where
    even : (n : ℕ) → (is_even n && (leb 2 n && true)) ≡ (not (eqb n 0) && is_even n)
    even n = by (is_even n) refl
      where
        by : (t : Bool) → is_even n ≡ t → (t && (leb 2 n && true)) ≡ (not (eqb n 0) && t)
        by true e = two (ltb n 2) refl
          where
            two : (s : Bool) → ltb n 2 ≡ s → (leb 2 n && true) ≡ (not (eqb n 0) && true)
            two true q =
                let w = ltb-true n 2 q in
                let z : n % 2 ≡ 0 = eqb-true _ _ e in
                let y : n ≡ 0 = omega arith in
                rw y
            two false q =
                let w = ltb-false n 2 q in
                rw (le-leb 2 n w, ne_eqb n 0 (λ (y : n ≡ 0). omega arith))
        by false e = never (not (eqb n 0))
          where
            never : (t : Bool) → false ≡ (t && false)
            never true = refl
            never false = refl

    long : (a b : Bool) → (a && (b && false)) ≡ false
    long true true = refl
    long true false = refl
    long false b = refl

    go : (t : Bool) → is_number (digits_read 16 0 h) ≡ t → (s : Bool) → leb (length h) 32 ≡ s
        → (t && (is_even (length h) && (leb 2 (length h) && s))) ≡ (not (bad_digits (digits_in 16 32 h) (length h)) && is_even (length h))
    go false e s q = rw (bad_few 16 32 h e)
    go true e true q = rw (bad_none 16 32 h e (leb-true _ _ q)) (even (length h))
    go true e false q =
        let w = leb-false (length h) 32 q in
        rw (bad_long 16 32 h w) (long (is_even (length h)) (leb 2 (length h)))

bytes_fault_lem : (l h : List ℕ) (x : Option Fault) → is_fault (bytes_fault l h x) ≡ (not (are_bytes h) || is_fault x)
unfolding bytes_fault
bytes_fault_lem l h x =
    one_fault l Reason.Bytes (12 + digits_in 16 32 h) (cond (is_even (length h)) x (found Reason.Odd (12 + digits_in 16 32 h) l)) (bad_digits (digits_in 16 32 h) (length h))
    ∙ go (bad_digits (digits_in 16 32 h) (length h)) (is_even (length h))
    ∙ ap (λ (y : Bool). not y || is_fault x) (sym (bytes_form h))
  where
    go : (p q : Bool) → (p || is_fault (cond q x (found Reason.Odd (12 + digits_in 16 32 h) l))) ≡ (not (not p && q) || is_fault x)
    go true q = refl
    go false true = refl
    go false false = refl

away_fault_lem : (x c a n : ℕ) (l : List ℕ) → is_fault (away_fault (Some x) c a l n) ≡ not (eqb c 0 || leb (x + c) n)
unfolding away_fault
away_fault_lem x c a n l = go (eqb c 0 || leb (x + c) n)
  where
    go : (t : Bool) → is_fault (cond t good (found Reason.Outside a l)) ≡ not t
    go true = refl
    go false = refl

-- ---- each kind of line: it is bad exactly if it has a fault

limit_bad : (p : ℕ → Phase) (l : List ℕ) → ((n : ℕ) → is_bad (p n) ≡ false) → (n : ℕ)
    → is_fault (limit_fault (Some n) l) ≡ is_bad (cond (leb n 16384) (p n) Phase.Bad)
unfolding limit_fault
limit_bad p l g n = go (leb n 16384)
  where
    go : (t : Bool) → is_fault (cond t good (found Reason.TooLarge 4 l)) ≡ is_bad (cond t (p n) Phase.Bad)
    go true = sym (g n)
    go false = refl

size_bad : (l r : List ℕ) → is_fault (number_fault l r) ≡ is_bad (size_of (decimal_of r))
size_bad l r = decimal_fault_lem 4 l r (limit_fault (decimal_of r) l) ∙ go (decimal_of r)
  where
    go : (x : Option ℕ) → (not (is_number x) || is_fault (limit_fault x l)) ≡ is_bad (size_of x)
    go None = refl
    go (Some n) = limit_bad Phase.Body l (λ (i : ℕ). refl) n

budget_bad : (l r : List ℕ) (n : ℕ) → is_fault (number_fault l r) ≡ is_bad (budget_of (decimal_of r) n)
budget_bad l r n = decimal_fault_lem 4 l r (limit_fault (decimal_of r) l) ∙ go (decimal_of r)
  where
    go : (x : Option ℕ) → (not (is_number x) || is_fault (limit_fault x l)) ≡ is_bad (budget_of x n)
    go None = refl
    go (Some b) = limit_bad (Phase.Done n) l (λ (i : ℕ). refl) b

module _ (l : List ℕ) (n : ℕ) (m : List ℕ) (k : Marks) where
  -- whatever memory and marks then are
  body_if : (t : Bool) (x : List ℕ) (y : Marks) → is_bad (cond t (told (Phase.Body n) x y) (told Phase.Bad m k)).phase ≡ not t
  body_if true x y = refl
  body_if false x y = refl

  put_bad : (r : List ℕ) → is_fault (put_fault l r n) ≡ is_bad (put_of (address_of (before_of r)) (beyond_of r) n m k).phase
  unfolding put_of
  put_bad r =
      address_fault_lem 3 l (before_of r) (bytes_fault l (beyond_of r) (away_fault (address_of (before_of r)) (length (beyond_of r) / 2) 3 l n))
      ∙ ap (λ (y : Bool). not (is_number (address_of (before_of r))) || y) (bytes_fault_lem l (beyond_of r) (away_fault (address_of (before_of r)) (length (beyond_of r) / 2) 3 l n))
      ∙ go (address_of (before_of r)) (beyond_of r)
    where
      third : (p q r s : Bool) → (p && (q && (r && s))) ≡ true → r ≡ true
      third true true true s e = refl
      third true true false s e = e
      third true false r s e = let z : ◌≡◌ {A = ℕ} 0 1 = cc in absurd (omega arith)
      third false q r s e = let z : ◌≡◌ {A = ℕ} 0 1 = cc in absurd (omega arith)

      half : (a : ℕ) (h : List ℕ) (t : Bool) → are_bytes h ≡ t
          → (not t || is_fault (away_fault (Some a) (length h / 2) 3 l n)) ≡ not (t && leb (a + length h / 2) n)
      half a h false e = refl
      half a h true e =
          let q : 2 ≤ length h = leb-true _ _ (third (are_hex h) (is_even (length h)) (leb 2 (length h)) (leb (length h) 32) e) in
          rw (away_fault_lem a (length h / 2) 3 n l, ne_eqb (length h / 2) 0 (λ (y : length h / 2 ≡ 0). omega arith))

      go : (x : Option ℕ) (h : List ℕ) → (not (is_number x) || (not (are_bytes h) || is_fault (away_fault x (length h / 2) 3 l n))) ≡ is_bad (put_of x h n m k).phase
      go None h = refl
      go (Some a) h = half a h (are_bytes h) refl ∙ sym (body_if (are_bytes h && leb (a + length h / 2) n) _ _)

  mark_bad : (r : List ℕ) → is_fault (mark_fault l r n) ≡ is_bad (mark_of (address_of (before_of r)) (decimal_of (beyond_of r)) n m k).phase
  unfolding mark_of count_of count_fault
  mark_bad r =
      address_fault_lem 5 l (before_of r) (decimal_fault 14 l (beyond_of r) (count_fault (address_of (before_of r)) (decimal_of (beyond_of r)) l n))
      ∙ ap (λ (y : Bool). not (is_number (address_of (before_of r))) || y) (decimal_fault_lem 14 l (beyond_of r) (count_fault (address_of (before_of r)) (decimal_of (beyond_of r)) l n))
      ∙ go (address_of (before_of r)) (decimal_of (beyond_of r))
    where
      go : (x c : Option ℕ) → (not (is_number x) || (not (is_number c) || is_fault (count_fault x c l n))) ≡ is_bad (mark_of x c n m k).phase
      go None c = refl
      go (Some a) None = refl
      go (Some a) (Some c) = away_fault_lem a c 5 n l ∙ sym (body_if (eqb c 0 || leb (a + c) n) _ _)

  body_bad : (w r : List ℕ) → is_fault (body_fault l w r n) ≡ is_bad (body_of w r n m k).phase
  unfolding body_fault body_of
  body_bad w r = go (same_of w word_at) (same_of w word_mark) (same_of w word_run)
    where
      go : (a b c : Bool)
          → is_fault (cond a (put_fault l r n) (cond b (mark_fault l r n) (cond c (number_fault l r) (found Reason.Word (letters_in 4 l) l))))
          ≡ is_bad (cond a (put_of (address_of (before_of r)) (beyond_of r) n m k)
          (cond b (mark_of (address_of (before_of r)) (decimal_of (beyond_of r)) n m k) (cond c (told (budget_of (decimal_of r) n) m k) (told Phase.Bad m k)))).phase
      go true b c = put_bad r
      go false true c = mark_bad r
      go false false true = budget_bad l r n
      go false false false = refl

first_bad : (l : List ℕ) → is_fault (first_fault l) ≡ is_bad (first_of l)
unfolding first_fault first_of
first_bad l = go (same_of (before_of l) word_mem)
  where
    go : (t : Bool) → is_fault (cond t (number_fault l (beyond_of l)) (found Reason.First (letters_in 4 l) l)) ≡ is_bad (cond t (size_of (decimal_of (beyond_of l))) Phase.Bad)
    go true = size_bad l (beyond_of l)
    go false = refl

-- in every phase; after a bad line its own fault stays
pub line_bad : (p : Phase) (f : Option Fault) (l m : List ℕ) (k : Marks) → is_fault f ≡ is_bad p → is_fault (fault_of p f l) ≡ is_bad (line_of p l m k).phase
unfolding fault_of line_of
line_bad Phase.First f l m k h = first_bad l
line_bad (Phase.Body n) f l m k h = body_bad l n m k (before_of l) (beyond_of l)
line_bad (Phase.Done n b) f l m k h = refl
line_bad Phase.Bad f l m k h = h
