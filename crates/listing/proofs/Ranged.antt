-- The lines of a range: one more, none left, and how long they are.
-- Assumes nothing.
use Prim.Native.Nat.{ℕ, zero, suc, ◌+◌, ◌-◌, ◌*◌, ◌%◌, ◌^◌, ◌<◌, ◌≤◌}
use mathlib.Core.Path.{◌≡◌, refl, sym, ap, ap₂, subst, ◌∙◌}
use mathlib.Core.Bool.{Bool, true, false, cond}
use mathlib.Core.List.{List, [], ◌∷◌, ◌++◌}
use native.Mathlib.Omega.{arith}
use lib.Dec.{ltb}
use lib.ListN.{length, drop, replicate, length-append}
use lib.Seq.{sets-eq}
use borrow.Author.Tests.{ltb-true, ltb-false, lt-ltb, le-ltb}
use Rattle.word.specs.Addresses.{byte_sum}
use Rattle.word.specs.declared.ByteAddr.{ByteAddr}
use Rattle.text.specs.Pages.{Page, page, write_on}
use Rattle.text.proofs.Pages.{write_append, written, written_at}
use Rattle.listing.specs.Listing.{entry_at, size_of, line_text, entries_of, lines_text, entries_in, listing_of}
use Rattle.listing.specs.Lent.{line_of}
use Rattle.listing.specs.Parts.{Kept}
use Rattle.listing.specs.declared.Entry.{Entry}
use Rattle.listing.specs.declared.Line.{Line}
use Rattle.listing.proofs.Fits.{line_fits}

-- two bytes or four
pub size_low : (x : Entry) → 2 ≤ size_of x
size_low x = go x.shown.long
  where
    go : (t : Bool) → 2 ≤ cond t 4 2
    go true = omega arith
    go false = omega arith

pub size_high : (x : Entry) → size_of x ≤ 4
size_high x = go x.shown.long
  where
    go : (t : Bool) → cond t 4 2 ≤ 4
    go true = omega arith
    go false = omega arith

abbrev pub from : ℕ → ByteAddr
from a = record { 0 = a }

-- inside an image no address wraps
pub after : (a n : ℕ) → a < 65536 → n ≤ 4 → byte_sum (from a) n ≡ from (a + n)
after a n h l =
    let e : (a + n) % 2 ^ 32 ≡ a + n = omega arith in
    ap from e

module _ (m : List ℕ) (e : ℕ) (low : e ≤ 65536) where
  abbrev pub size : ℕ → ℕ
  size a = size_of (entry_at m (from a) e)

  -- as many lines as the range has bytes are enough
  enough : (n k a : ℕ) → e ≤ a + n → e ≤ a + k → entries_of n m (from a) e ≡ entries_of k m (from a) e
  unfolding entries_of
  enough zero zero a h i = refl
  enough zero (suc k) a h i = rw (le-ltb a e (omega arith))
  enough (suc n) zero a h i = rw (le-ltb a e (omega arith))
  enough (suc n) (suc k) a h i = go (ltb a e) refl (enough n k (a + size a))
    where
      go : (t : Bool) → ltb a e ≡ t → (e ≤ a + size a + n → e ≤ a + size a + k → entries_of n m (from (a + size a)) e ≡ entries_of k m (from (a + size a)) e)
          → cond t (entry_at m (from a) e ∷ entries_of n m (byte_sum (from a) (size a)) e) [] ≡ cond t (entry_at m (from a) e ∷ entries_of k m (byte_sum (from a) (size a)) e) []
      go true t f =
          let l = ltb-true a e t in
          let z = size_low (entry_at m (from a) e) in
          rw (after a (size a) (omega arith) (size_high (entry_at m (from a) e)))
          (ap (λ (r : List Entry). entry_at m (from a) e ∷ r) (f (omega arith) (omega arith)))
      go false t f = refl

  pub entries_more : (a : ℕ) → a < e → entries_in m a e ≡ entry_at m (from a) e ∷ entries_in m (a + size a) e
  unfolding entries_of
  entries_more a h =
      let f : e - a ≡ suc (e - a - 1) = omega arith in
      let z = size_low (entry_at m (from a) e) in
      rw (f, lt-ltb a e h, after a (size a) (omega arith) (size_high (entry_at m (from a) e)))
      (ap (λ (r : List Entry). entry_at m (from a) e ∷ r) (enough (e - a - 1) (e - (a + size a)) (a + size a) (omega arith) (omega arith)))

  pub listing_more : (a : ℕ) → a < e → listing_of m a e ≡ line_text (entry_at m (from a) e) ++ listing_of m (a + size a) e
  unfolding lines_text
  listing_more a h = ap lines_text (entries_more a h)

  pub entries_none : (a : ℕ) → e ≤ a → entries_in m a e ≡ []
  unfolding entries_of
  entries_none a h =
      let f : e - a ≡ 0 = omega arith in
      rw f

  pub listing_none : (a : ℕ) → e ≤ a → listing_of m a e ≡ []
  unfolding lines_text
  listing_none a h = ap lines_text (entries_none a h)

  -- written on, after the line at a
  pub more_written : (a : ℕ) (p : Page) → a < e
      → write_on (listing_of m a e) p ≡ write_on (listing_of m (a + size a) e) (write_on (line_text (entry_at m (from a) e)) p)
  more_written a p h =
      ap (λ (l : List ℕ). write_on l p) (listing_more a h) ∙ write_append (line_text (entry_at m (from a) e)) (listing_of m (a + size a) e) p

  pub none_written : (a : ℕ) (p : Page) → e ≤ a → write_on (listing_of m a e) p ≡ p
  unfolding write_on
  none_written a p h = ap (λ (l : List ℕ). write_on l p) (listing_none a h)

  pub more_long : (a : ℕ) → a < e → length (listing_of m a e) ≡ length (line_text (entry_at m (from a) e)) + length (listing_of m (a + size a) e)
  more_long a h =
      ap (λ (l : List ℕ). length l) (listing_more a h) ∙ length-append (line_text (entry_at m (from a) e)) (listing_of m (a + size a) e)

  pub none_long : (a : ℕ) → e ≤ a → length (listing_of m a e) ≡ 0
  none_long a h = ap (λ (l : List ℕ). length l) (listing_none a h)

  -- 48 bytes for each half of the range are enough
  pub long : (n a : ℕ) → e ≤ a + 2 * n → length (listing_of m a e) ≤ 48 * n
  long zero a h = rw (none_long a (omega arith)) (omega arith)
  long (suc n) a h = go (ltb a e) refl (long n (a + size a))
    where
      go : (t : Bool) → ltb a e ≡ t → (e ≤ a + size a + 2 * n → length (listing_of m (a + size a) e) ≤ 48 * n) → length (listing_of m a e) ≤ 48 * suc n
      go true t f =
          let z = size_low (entry_at m (from a) e) in
          let l = line_fits m (from a) e in
          let r = f (omega arith) in
          rw (more_long a (ltb-true a e t)) (omega arith)
      go false t f = let l = ltb-false a e t in rw (none_long a l) (omega arith)

-- a text that fits stands at the front of a room
pub front : (t l : List ℕ) (r : Page) → r ≡ write_on t (page l 0) → length t ≤ length l → r ≡ page (t ++ drop (length t) l) (length t)
front t l r e h =
    let z : 0 + length t ≡ length t = omega arith in
    let q : 0 + length t ≤ length l = omega arith in
    e ∙ written t l h ∙ ap (λ (k : List ℕ). page k (length t)) (sets-eq t l 0 q ∙ ap (λ (n : ℕ). t ++ drop n l) z)

-- a place that is kept
kept_place : (keep : Bool) (to after : ℕ) → keep ≡ true → to ≡ cond keep after 0 → to ≡ after
kept_place true to after k e = e
kept_place false to after k e = let z : ◌≡◌ {A = ℕ} 0 1 = cc in absurd (omega arith)

-- a step of the loop: the line x at a was written at `to`, and r is its size
module _ (m : List ℕ) (e : ℕ) (low : e ≤ 65536) (a : ℕ) (h : a < e) (x : Entry) (r : ℕ) (ex : x ≡ entry_at m (from a) e) (er : r ≡ size_of x) where
  sized : r ≡ size m e low a
  sized = er ∙ ap size_of ex

  same_line : length (line_text x) ≡ length (line_text (entry_at m (from a) e))
  same_line = ap (λ (y : Entry). length (line_text y)) ex

  pub step_short : length (line_text x) ≤ 48
  step_short = let l = line_fits m (from a) e in let q = same_line in omega arith

  pub step_long : length (line_text x) + length (listing_of m (a + r) e) ≡ length (listing_of m a e)
  step_long =
      ap₂ (λ (n i : ℕ). n + length (listing_of m (a + i) e)) same_line sized ∙ sym (more_long m e low a h)

  step_written : (p q : Page) → q ≡ write_on (line_text x) p → write_on (listing_of m (a + r) e) q ≡ write_on (listing_of m a e) p
  step_written p q eq =
      ap₂ (λ (n : ℕ) (z : Page). write_on (listing_of m (a + n) e) z) sized (eq ∙ ap (λ (y : Entry). write_on (line_text y) p) ex)
      ∙ sym (more_written m e low a p h)

  -- the next place is after it, where lines are kept
  pub step_kept : (l out : List ℕ) (to after next : ℕ) (keep : Bool) (w : Page) → page out after ≡ write_on (line_text x) (page l to) → next ≡ cond keep after 0
      → (keep ≡ true → write_on (listing_of m a e) (page l to) ≡ w) → keep ≡ true → write_on (listing_of m (a + r) e) (page out next) ≡ w
  step_kept l out to after next keep w eq en f k =
      ap (λ (n : ℕ). write_on (listing_of m (a + r) e) (page out n)) (kept_place keep next after k en) ∙ step_written (page l to) (page out after) eq ∙ f k

  -- it fits: t bytes came before it, and lines are kept or not
  pub step_fits : (keep : Bool) (t n s : ℕ) → t + length (listing_of m a e) ≡ length (listing_of m s e) → cond keep (length (listing_of m s e)) 48 ≤ n
      → cond keep t 0 + length (line_text x) ≤ n
  step_fits true t n s et l = let q = step_long in omega arith
  step_fits false t n s et l = let q = step_short in omega arith

-- where a text that fits ends
pub place_is : (t l : List ℕ) (to : ℕ) (q : Page) → q ≡ write_on t (page l to) → to + length t ≤ length l → q.at ≡ to + length t
place_is t l to q eq f = ap (λ (p : Page). p.at) (eq ∙ written_at t l to f)

-- the next place, where lines are kept or not
pub next_place : (keep : Bool) (t to after : ℕ) → to ≡ cond keep t 0 → to ≤ after → cond keep after 0 ≡ cond keep (t + (after - to)) 0
next_place true t to after e h = omega arith
next_place false t to after e h = refl

-- and what stands at the end
pub kept_front : (m out l : List ℕ) (s e a to : ℕ) (keep : Bool) → e ≤ 65536 → e ≤ a → keep ≡ true → cond keep (length (listing_of m s e)) 48 ≤ length l
    → write_on (listing_of m a e) (page out to) ≡ write_on (listing_of m s e) (page l 0) → Kept out (listing_of m s e) l
kept_front m out l s e a to true low past k f q =
    ap (λ (p : Page). p.text) (front (listing_of m s e) l (page out to) (sym (none_written m e low a (page out to) past) ∙ q) f)
kept_front m out l s e a to false low past k f q = let z : ◌≡◌ {A = ℕ} 0 1 = cc in absurd (omega arith)

-- one line by value
pub line_made : (m : List ℕ) (a : ByteAddr) (e : ℕ) (x : Entry) (q : Page) (r : ℕ) (n : ByteAddr) → x ≡ entry_at m a e → r ≡ size_of x → n ≡ byte_sum a r
    → q ≡ write_on (line_text x) (page (replicate 48 0) 0) → ◌≡◌ {A = Line} (record { text = q.text; length = q.at; next = n }) (line_of m a e)
unfolding line_of
line_made m a e x q r n ex er en eq =
    let f : q ≡ page (line_text x ++ drop (length (line_text x)) (replicate 48 0)) (length (line_text x))
    = front (line_text x) (replicate 48 0) q eq (subst (λ (y : Entry). length (line_text y) ≤ 48) (sym ex) (line_fits m a e)) in
    ap₂ (λ (p : Page) (b : ByteAddr). made p b) f (en ∙ ap (byte_sum a) er) ∙ ap value ex
  where
    made : Page → ByteAddr → Line
    made p b = record { text = p.text; length = p.at; next = b }

    value : Entry → Line
    value y = made (page (line_text y ++ drop (length (line_text y)) (replicate 48 0)) (length (line_text y))) (byte_sum a (size_of y))
