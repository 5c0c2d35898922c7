-- Marks in two slices that agree at each position: what is read of them is equal, and what is put keeps them so.
-- Assumes nothing.
use Prim.Native.Nat.{ℕ, zero, suc, ◌+◌, ◌-◌, ◌%◌, ◌<◌, ◌≤◌}
use mathlib.Core.Path.{◌≡◌, refl, sym, subst, ◌∙◌}
use mathlib.Core.Bool.{Bool, true, false, ◌||◌}
use mathlib.Core.List.{List, [], ◌∷◌}
use native.Mathlib.Decide.{ℕ_discrete}
use native.Mathlib.Omega.{arith}
use lib.Dec.{ltb}
use lib.ListN.{set, length-set}
use Rattle.word.specs.Bits.{num}
use Rattle.word.specs.Bytes.{any_above}
use Rattle.marks.specs.Memory.{Marks, bits, bytes, mark_at, mark_put, any_mark, put_marks}
use Rattle.marks.proofs.Places.{Has, room_has, put_same, put_other, any_same}
use Rattle.layouts.specs.Layouts.{Formed, SameMarks, copied}

-- ---- well-formed marks

-- a mark byte of 0 or 1 in its place
above_set : (k : List ℕ) (i : ℕ) (b : Bool) → any_above 1 k ≡ false → any_above 1 (set k i (num b)) ≡ false
unfolding any_above
above_set [] i b e = e
above_set (x ∷ k) zero b e = rw (small b) (rest (ltb 1 x) (any_above 1 k) e)
  where
    small : (c : Bool) → ltb 1 (num c) ≡ false
    small true = refl
    small false = refl

    rest : (p q : Bool) → (p || q) ≡ false → q ≡ false
    rest false q h = h
    rest true q h = let z : ◌≡◌ {A = ℕ} 0 1 = cc in absurd (omega arith)
above_set (x ∷ k) (suc i) b e = go (ltb 1 x) (any_above 1 k) e (above_set k i b)
  where
    go : (p q : Bool) → (p || q) ≡ false → (q ≡ false → any_above 1 (set k i (num b)) ≡ false) → (p || any_above 1 (set k i (num b))) ≡ false
    go false q h f = f h
    go true q h f = let z : ◌≡◌ {A = ℕ} 0 1 = cc in absurd (omega arith)

pub formed_put : (n : ℕ) (k : Marks) (i : ℕ) (b : Bool) → i < n → Formed n k → Formed n (mark_put k i b)
formed_put n (bits k) i b l f =
    record {
      room = rw length-set f.room;
      rest = any_same (8 - n % 8) (mark_put (bits k) i b) (bits k) n (λ j h. put_other (bits k) i (n + j) b (λ e. omega arith)) ∙ f.rest;
    }
formed_put n (bytes k) i b l f = record { room = rw length-set f.room; rest = above_set k i b f.rest }

-- ---- the same marks

put_both : {n : ℕ} {k j : Marks} → SameMarks n k j → (i : ℕ) (b : Bool) → i < n → SameMarks n (mark_put k i b) (mark_put j i b)
put_both {n} {k} {j} s i b l =
    record { left = formed_put n k i b l s.left; right = formed_put n j i b l s.right; equal = λ p h. go p h (ℕ_discrete p i) }
  where
    go : (p : ℕ) → p < n → Dec (p ≡ i) → mark_at (mark_put k i b) p ≡ mark_at (mark_put j i b) p
    go p h (yes e) =
        subst (λ (q : ℕ). mark_at (mark_put k i b) q ≡ mark_at (mark_put j i b) q) (sym e)
        (put_same k i b (room_has n k s.left.room i l) ∙ sym (put_same j i b (room_has n j s.right.room i l)))
    go p h (no ne) = put_other k i p b ne ∙ s.equal p h ∙ sym (put_other j i p b ne)

pub puts_both : {n : ℕ} {k j : Marks} → SameMarks n k j → (w a : ℕ) (b : Bool) → a + w ≤ n → SameMarks n (put_marks w k a b) (put_marks w j a b)
unfolding put_marks
puts_both s zero a b h = s
puts_both s (suc w) a b h = put_both (puts_both s w a b (omega arith)) (a + w) b (omega arith)

pub any_both : {n : ℕ} {k j : Marks} → SameMarks n k j → (w a : ℕ) → a + w ≤ n → any_mark w k a ≡ any_mark w j a
any_both {n} {k} {j} s w a h = any_same w k j a (λ i l. s.equal (a + i) (omega arith))

-- ---- a copy in another slice, of either layout

copied_formed : (n p : ℕ) (k z : Marks) → p ≤ n → Formed n z → Formed n (copied p k z)
unfolding copied
copied_formed n zero k z l f = f
copied_formed n (suc p) k z l f = formed_put n (copied p k z) p (mark_at k p) (omega arith) (copied_formed n p k z (omega arith) f)

copied_at : (n p : ℕ) (k z : Marks) → p ≤ n → Formed n z → (i : ℕ) → i < p → mark_at k i ≡ mark_at (copied p k z) i
unfolding copied
copied_at n zero k z l f i h = absurd (omega arith)
copied_at n (suc p) k z l f i h = go (ℕ_discrete i p) (λ q. copied_at n p k z (omega arith) f i q)
  where
    there : Has (copied p k z) p
    there = room_has n (copied p k z) (copied_formed n p k z (omega arith) f).room p (omega arith)

    go : Dec (i ≡ p) → (i < p → mark_at k i ≡ mark_at (copied p k z) i) → mark_at k i ≡ mark_at (mark_put (copied p k z) p (mark_at k p)) i
    go (yes e) g =
        subst (λ (q : ℕ). mark_at k q ≡ mark_at (mark_put (copied p k z) p (mark_at k p)) q) (sym e) (sym (put_same (copied p k z) p (mark_at k p) there))
    go (no ne) g = g (omega (arith, ne)) ∙ sym (put_other (copied p k z) p i (mark_at k p) ne)

pub copy_same : (n : ℕ) (k z : Marks) → Formed n k → Formed n z → SameMarks n k (copied n k z)
copy_same n k z f g = record { left = f; right = copied_formed n n k z (omega arith) g; equal = copied_at n n k z (omega arith) g }
