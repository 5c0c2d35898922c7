-- Text written into a lent room.
-- Assumes nothing.
use Prim.Native.Nat.{ℕ, suc, ◌+◌, ◌<◌, ◌≤◌}
use mathlib.Core.Path.{◌≡◌, refl, sym, ap, ◌∙◌}
use mathlib.Core.List.{List, [], ◌∷◌, ◌++◌}
use native.Mathlib.Nat.{add-zero}
use native.Mathlib.Numerals.{add-one}
use native.Mathlib.Omega.{arith}
use lib.ListN.{length, get_or, drop, set, length-set, drop_of_length-le}
use lib.Seq.{sets, drop-cons}
use borrow.Author.Tests.{lt-ltb, le-ltb}
use Rattle.text.specs.Pages.{Page, page, one_on, write_on}

-- two texts one after the other, three, and five
pub write_append : (a b : List ℕ) (p : Page) → write_on (a ++ b) p ≡ write_on b (write_on a p)
unfolding write_on
write_append [] b p = refl
write_append (x ∷ a) b p = write_append a b (one_on x p)

pub write_three : (a b c : List ℕ) (p : Page) → write_on (a ++ (b ++ c)) p ≡ write_on c (write_on b (write_on a p))
write_three a b c p = write_append a (b ++ c) p ∙ write_append b c (write_on a p)

pub write_five : (a b c d e : List ℕ) (p : Page)
    → write_on (a ++ (b ++ (c ++ (d ++ e)))) p ≡ write_on e (write_on d (write_on c (write_on b (write_on a p))))
write_five a b c d e p =
    write_append a (b ++ (c ++ (d ++ e))) p ∙ write_append b (c ++ (d ++ e)) (write_on a p) ∙ write_three c d e (write_on b (write_on a p))

-- from place i of a text on: one byte more, and none left
pub write_more : (l : List ℕ) (i : ℕ) (p : Page) → i < length l → write_on (drop i l) p ≡ write_on (drop (i + 1) l) (one_on (get_or l i 0) p)
unfolding write_on
write_more l i p h = rw (add-one i, drop-cons l i 0)

pub write_none : (l : List ℕ) (i : ℕ) (p : Page) → length l ≤ i → write_on (drop i l) p ≡ p
unfolding write_on
write_none l i p h = rw (drop_of_length-le l h)

-- a byte for which there is room, and a place past the end
pub write_in : (l out : List ℕ) (a i : ℕ) → i < length l → a + i < length out
    → write_on (drop i l) (page out (a + i)) ≡ write_on (drop (i + 1) l) (page (set out (a + i) (get_or l i 0)) (a + (i + 1)))
write_in l out a i h k =
    let e : a + i + 1 ≡ a + (i + 1) = omega arith in
    write_more l i (page out (a + i)) h ∙ rw (lt-ltb (a + i) (length out) k, e)

pub write_past : (l out : List ℕ) (a : ℕ) → length out ≤ a → write_on l (page out a) ≡ page out a
unfolding write_on
write_past [] out a h = refl
write_past (b ∷ l) out a h = rw (le-ltb a (length out) h) (write_past l out a h)

-- a text that fits stands in the room, and its length later is the next place
pub written_at : (t l : List ℕ) (a : ℕ) → a + length t ≤ length l → write_on t (page l a) ≡ page (sets l a t) (a + length t)
unfolding write_on
written_at [] l a h = ap (page l) (sym (add-zero a))
written_at (b ∷ t) l a h =
    let e : suc a + length t ≡ a + suc (length t) = omega arith in
    let q : suc a + length t ≤ length (set l a b) = rw length-set (omega arith) in
    rw (lt-ltb a (length l) (omega arith), add-one a) (written_at t (set l a b) (suc a) q ∙ ap (page (sets (set l a b) (suc a) t)) e)

pub written : (t l : List ℕ) → length t ≤ length l → write_on t (page l 0) ≡ page (sets l 0 t) (length t)
written t l h =
    let e : 0 + length t ≡ length t = omega arith in
    written_at t l 0 (omega arith) ∙ ap (page (sets l 0 t)) e
