-- Laws that the functions' proofs cite: numbers read digit by digit, and a line more in a part.
-- Assumes nothing.
use Rattle.std.specs.Prelude.{None, Some}
use Prim.Native.Nat.{ℕ, ◌+◌, ◌*◌, ◌^◌, ◌<◌, ◌≤◌}
use mathlib.Core.Path.{◌≡◌, refl, sym, ap, ◌∙◌}
use mathlib.Core.Bool.{Bool, true, false, cond}
use mathlib.Core.List.{List, [], ◌∷◌, ◌++◌, append_assoc}
use native.Mathlib.Nat.{mul-le-mul_left}
use native.Mathlib.Numerals.{add-one}
use native.Mathlib.Omega.{arith}
use lib.Dec.{ltb, eqb}
use lib.Pointwise.{pointwise}
use lib.ListN.{length, get_or, take, drop, replicate, length-append, drop_of_length-le}
use lib.Seq.{drop-cons, sets, sets-eq, length-sets, length-take-le, take-append_seam, take_at}
use borrow.Author.Tests.{lt-ltb, le-ltb}
use Rattle.word.specs.declared.ByteAddr.{ByteAddr}
use Rattle.text.specs.Pages.{Page, page, write_on}
use Rattle.text.specs.Fields.{same_of}
use Rattle.text.proofs.Pages.{written_at}
use Rattle.listing.specs.Listing.{entry_at, size_of, line_text, listing_of}
use Rattle.listing.specs.Lent.{line_of}
use Rattle.listing.specs.declared.Line.{Line}
use Rattle.listing.proofs.Fits.{line_fits}
use Rattle.listing.proofs.Ranged.{size_low, size_high, from, after, listing_more}
use Rattle.manik_list.specs.Numbers.{digit_of, number_in, is_hex, word_of}

-- ---- digits

module _ (l : List ℕ) (i : ℕ) (h : i < length l) where
  next : drop i l ≡ get_or l i 0 ∷ drop (i + 1) l
  next = rw (add-one, drop-cons l i 0)

  -- a digit's value d is below the base, or it is not
  pub number_on : (b v d : ℕ) → d ≡ digit_of (get_or l i 0) → d < b → number_in b v (drop i l) ≡ number_in b (v * b + d) (drop (i + 1) l)
  unfolding number_in
  number_on b v d e k = rw (next, ← e, lt-ltb d b k)

  pub number_stop : (b v d : ℕ) → d ≡ digit_of (get_or l i 0) → b ≤ d → number_in b v (drop i l) ≡ None
  unfolding number_in
  number_stop b v d e k = rw (next, ← e, le-ltb d b k)

pub number_none : (l : List ℕ) (i b v : ℕ) → length l ≤ i → v < 2 ^ 32 → number_in b v (drop i l) ≡ Some v
unfolding number_in
number_none l i b v h k = rw (drop_of_length-le l h, lt-ltb v (2 ^ 32) k)

-- a number that does not fit stays so
pub number_over : (l : List ℕ) (b v : ℕ) → 1 ≤ b → 2 ^ 32 ≤ v → number_in b v l ≡ None
unfolding number_in
number_over [] b v h k = rw (le-ltb v (2 ^ 32) k)
number_over (c ∷ l) b v h k = go (ltb (digit_of c) b) (number_over l b (v * b + digit_of c) h (omega (arith, mul-le-mul_left v h)))
  where
    go : (t : Bool) → number_in b (v * b + digit_of c) l ≡ None → cond t (number_in b (v * b + digit_of c) l) None ≡ None
    go true e = e
    go false e = refl

-- whether a word begins with 0x, as std's strip_prefix says it
pub hex_same : (l : List ℕ) → is_hex l ≡ pointwise eqb (take 2 l) (48 ∷ 120 ∷ [])
unfolding same_of
hex_same [] = refl
hex_same (c ∷ []) = refl
hex_same (c ∷ d ∷ l) = refl

pub word_none : (l : List ℕ) (b : ℕ) → length l ≡ 0 → word_of b l ≡ None
unfolding word_of
word_none [] b h = refl
word_none (c ∷ l) b h = absurd (omega arith)

pub word_first : (l : List ℕ) (b : ℕ) → (length l ≡ 0 → ⊥) → number_in b 0 l ≡ word_of b l
unfolding word_of
word_first [] b h = absurd (h refl)
word_first (c ∷ l) b h = refl

-- ---- parts

-- a text that fits stands after what was there
put_after : (t l : List ℕ) (n : ℕ) (q : Page) → q ≡ write_on t (page l n) → n + length t ≤ length l
    → (q.at ≡ n + length t) × (take q.at q.text ≡ take n l ++ t) × (length q.text ≡ length l)
put_after t l n q e h =
    let w : q ≡ page (sets l n t) (n + length t) = e ∙ written_at t l n h in
    rw w (refl, head, length-sets l n t)
  where
    long : length (take n l ++ t) ≡ n + length t
    long = rw (length-append (take n l) t, length-take-le n l (omega arith))

    head : take (n + length t) (sets l n t) ≡ take n l ++ t
    head =
        ap (take (n + length t)) (sets-eq t l n h)
        ∙ take_at (take n l ++ t) (drop (n + length t) l) (n + length t) long

-- n bytes of a room of k are the lines from s to before a, and each line had 48 bytes at most
pub record Filled (m : List ℕ) (s e k : ℕ) (out : List ℕ) (n a : ℕ) : Type 0 where
  pub same : listing_of m s e ≡ take n out ++ listing_of m a e
  pub room : length out ≡ k
  pub gone : n + 24 * s ≤ 24 * a
  pub near : a ≤ 65540

-- the line x at a
module _ (m : List ℕ) (e : ℕ) (low : e ≤ 65536) (a : ℕ) (h : a < e) (x : Line) (ex : x ≡ line_of m (from a) e) where
  line : List ℕ
  line = line_text (entry_at m (from a) e)

  size : ℕ
  size = size_of (entry_at m (from a) e)

  shown : take x.length x.text ≡ line
  unfolding line_of line
  shown = ap (λ (y : Line). take y.length y.text) ex ∙ take-append_seam line (drop (length line) (replicate 48 0))

  went : x.next.0 ≡ a + size
  unfolding line_of size
  went = ap (λ (y : Line). y.next.0) ex ∙ ap (λ (b : ByteAddr). b.0) (after a size (omega arith) (size_high (entry_at m (from a) e)))

  pub next_low : a + 2 ≤ x.next.0
  unfolding size
  next_low = omega (arith, went, size_low (entry_at m (from a) e))

  next_high : x.next.0 ≤ a + 4
  unfolding size
  next_high = omega (arith, went, size_high (entry_at m (from a) e))

  short : length line ≤ 48
  unfolding line
  short = line_fits m (from a) e

  more : (l : List ℕ) → l ++ listing_of m a e ≡ (l ++ line) ++ listing_of m x.next.0 e
  unfolding line size
  more l =
      ap (λ (t : List ℕ). l ++ t) (listing_more m e low a h)
      ∙ sym (append_assoc l line (listing_of m (a + size) e))
      ∙ ap (λ (b : ℕ). (l ++ line) ++ listing_of m b e) (sym went)

  pub filled_more : (s k : ℕ) (out : List ℕ) (n : ℕ) (t : List ℕ) (q : Page) → t ≡ take x.length x.text → q ≡ write_on t (page out n) → n + 48 ≤ k
      → Filled m s e k out n a → Filled m s e k q.text q.at x.next.0
  filled_more s k out n t q et eq i f =
      let j = short in
      let r = f.room in
      let put = put_after line out n q (eq ∙ ap (λ (l : List ℕ). write_on l (page out n)) (et ∙ shown)) (omega arith) in
      record {
        same = f.same ∙ more (take n out) ∙ ap (λ (l : List ℕ). l ++ listing_of m x.next.0 e) (sym put.1);
        room = put.2 ∙ r;
        gone = omega (arith, put.0, next_low, f.gone);
        near = omega (arith, next_high);
      }
