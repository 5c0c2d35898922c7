-- Small laws that the functions' proofs cite.
-- Assumes nothing.
use Prim.Native.Nat.{ℕ, zero, suc, ◌+◌, ◌*◌, ◌/◌, ◌<◌, ◌≤◌}
use mathlib.Core.Path.{◌≡◌, refl, sym, ap, ◌∙◌}
use mathlib.Core.Bool.{Bool, true, false, cond, not}
use mathlib.Core.List.{List, [], ◌∷◌}
use native.Mathlib.Numerals.{add-one}
use native.Mathlib.Omega.{arith}
use lib.ListN.{length, get_or, take, drop, set, drop_of_length-le}
use lib.Seq.{sets, drop-cons}
use Rattle.std.specs.List.{prefix_len}
use Rattle.text.specs.Digits.{pair_of}
use Rattle.script.specs.Line.{pairs_of}
use Rattle.script.specs.Fault.{ends_word, letters_in}
use Rattle.script.specs.Reader.{Fed, byte_of, feed_of}

-- ---- bytes in hex

pub bytes_more : (h : List ℕ) (i : ℕ) → i < length h / 2
    → pairs_of (drop (2 * i) h) ≡ pair_of (get_or h (2 * i) 0) (get_or h (2 * i + 1) 0) ∷ pairs_of (drop (2 * (i + 1)) h)
unfolding pairs_of
bytes_more h i l = ap pairs_of two
  where
    next : (j : ℕ) → j < length h → drop j h ≡ get_or h j 0 ∷ drop (j + 1) h
    next j q = rw (add-one, drop-cons h j 0)

    two : drop (2 * i) h ≡ get_or h (2 * i) 0 ∷ get_or h (2 * i + 1) 0 ∷ drop (2 * (i + 1)) h
    two =
        let e : 2 * (i + 1) ≡ 2 * i + 1 + 1 = omega arith in
        next (2 * i) (omega arith) ∙ ap (λ (r : List ℕ). get_or h (2 * i) 0 ∷ r) (next (2 * i + 1) (omega arith))
        ∙ ap (λ (n : ℕ). get_or h (2 * i) 0 ∷ get_or h (2 * i + 1) 0 ∷ drop n h) (sym e)

pub bytes_none : (h : List ℕ) (i : ℕ) → length h / 2 ≤ i → pairs_of (drop (2 * i) h) ≡ []
unfolding pairs_of
bytes_none h i l = short (drop (2 * i) h) (rw lib.ListN.length-drop (omega arith))
  where
    short : (r : List ℕ) → length r ≤ 1 → pairs_of r ≡ []
    short [] q = refl
    short (c ∷ []) q = refl
    short (c ∷ d ∷ r) q = absurd (omega arith)

-- one byte more stored, and none left
pub put_more : (m h : List ℕ) (a i : ℕ) → i < length h / 2
    → sets m (a + i) (pairs_of (drop (2 * i) h)) ≡ sets (set m (a + i) (pair_of (get_or h (2 * i) 0) (get_or h (2 * i + 1) 0))) (a + (i + 1)) (pairs_of (drop (2 * (i + 1)) h))
put_more m h a i l =
    let e : a + (i + 1) ≡ suc (a + i) = omega arith in
    rw (bytes_more h i l, e)

pub put_none : (m h : List ℕ) (a i : ℕ) → length h / 2 ≤ i → sets m a (pairs_of (drop (2 * i) h)) ≡ m
put_none m h a i l = rw (bytes_none h i l)

-- ---- parts

pub feed_more : (l : List ℕ) (i : ℕ) (s : Fed) → i < length l → feed_of (drop i l) s ≡ feed_of (drop (i + 1) l) (byte_of (get_or l i 0) s)
unfolding feed_of
feed_more l i s h = rw (add-one, drop-cons l i 0)

pub feed_none : (l : List ℕ) (i : ℕ) (s : Fed) → length l ≤ i → feed_of (drop i l) s ≡ s
unfolding feed_of
feed_none l i s h = rw (drop_of_length-le l h)

-- ---- letters of a word

pub letters_is : (n : ℕ) (l : List ℕ) → letters_in n l ≡ prefix_len (λ c. not (ends_word c)) (take n l)
unfolding letters_in
letters_is zero l = refl
letters_is (suc n) [] = refl
letters_is (suc n) (c ∷ l) = go (ends_word c) (letters_is n l)
  where
    go : (t : Bool) {a b : ℕ} → a ≡ b → cond t 0 (suc a) ≡ cond (not t) (1 + b) 0
    go true e = refl
    go false e = omega (arith, e)
