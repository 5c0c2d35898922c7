-- The lines of a range cover it.
-- Assumes nothing.
use Rattle.std.specs.Prelude.{None, Option, Some}
use Prim.Native.Nat.{ℕ, zero, suc, ◌+◌, ◌%◌, ◌≤◌}
use mathlib.Core.Path.{◌≡◌, refl, sym, subst}
use mathlib.Core.Bool.{Bool, true, false, cond}
use mathlib.Core.List.{List}
use native.Mathlib.Omega.{arith}
use lib.Dec.{ltb, leb}
use borrow.Author.Tests.{ltb-true, ltb-false, leb-true}
use Rattle.isa.specs.Decode.{decode_of}
use Rattle.isa.specs.declared.Decoded.{Decoded}
use Rattle.listing.specs.Listing.{half_in, second_in, cut_by, shown_of, entry_at, size_of, entries_in}
use Rattle.listing.specs.declared.Entry.{Entry}
use Rattle.listing.proofs.Ranged.{from, entries_more, entries_none, size_low}
use Rattle.columns.specs.Columns.{Cover}

pub even : (a : ℕ) (t : Bool) → a % 2 ≡ 0 → (a + cond t 4 2) % 2 ≡ 0
even a true h = omega arith
even a false h = omega arith

-- a line that is not cut ends inside the range
cut_inside : (e a h : ℕ) (d : Option Decoded) → a + 2 ≤ e → (shown_of (from a) h (cut_by e (from a) d)).long ≡ true → a + 4 ≤ e
unfolding shown_of
cut_inside e a h (Some (Decoded.Short i)) k t = let z : ◌≡◌ {A = ℕ} 0 1 = cc in absurd (omega arith)
cut_inside e a h (Some (Decoded.Long i)) k t = go (leb (a + 4) e) refl t
  where
    go : (b : Bool) → leb (a + 4) e ≡ b → (shown_of (from a) h (cond b (Some (Decoded.Long i)) None)).long ≡ true → a + 4 ≤ e
    go true q u = leb-true (a + 4) e q
    go false q u = let z : ◌≡◌ {A = ℕ} 0 1 = cc in absurd (omega arith)
cut_inside e a h None k t = let z : ◌≡◌ {A = ℕ} 0 1 = cc in absurd (omega arith)

pub long_inside : (m : List ℕ) (e a : ℕ) → a + 2 ≤ e → (entry_at m (from a) e).shown.long ≡ true → a + 4 ≤ e
unfolding entry_at
long_inside m e a k t = cut_inside e a (half_in m (from a)) (decode_of (half_in m (from a)) (second_in m (from a) (half_in m (from a)))) k t

pub size_inside : (m : List ℕ) (e a : ℕ) → a + 2 ≤ e → a + size_of (entry_at m (from a) e) ≤ e
size_inside m e a k = go (entry_at m (from a) e).shown.long refl
  where
    go : (t : Bool) → (entry_at m (from a) e).shown.long ≡ t → a + cond t 4 2 ≤ e
    go true q = long_inside m e a k q
    go false q = k

at_of : (m : List ℕ) (a e : ℕ) → (entry_at m (from a) e).at.0 ≡ a
unfolding entry_at
at_of m a e = refl

module _ (m : List ℕ) (e : ℕ) (low : e ≤ 65536) where
  pub covered : (n a : ℕ) → e ≤ a + n → a ≤ e → a % 2 ≡ 0 → e % 2 ≡ 0 → Cover a (entries_in m a e) e
  covered zero a h k p q = subst (λ (l : List Entry). Cover a l e) (sym (entries_none m e low a (omega arith))) (omega arith)
  covered (suc n) a h k p q = go (ltb a e) refl (covered n (a + size_of (entry_at m (from a) e)))
    where
      x : Entry
      x = entry_at m (from a) e

      go : (t : Bool) → ltb a e ≡ t
          → (e ≤ a + size_of x + n → a + size_of x ≤ e → (a + size_of x) % 2 ≡ 0 → e % 2 ≡ 0 → Cover (a + size_of x) (entries_in m (a + size_of x) e) e)
          → Cover a (entries_in m a e) e
      go true t f =
          let i = ltb-true a e t in
          let z = size_low x in
          subst (λ (l : List Entry). Cover a l e) (sym (entries_more m e low a i))
          (at_of m a e, z, f (omega arith) (size_inside m e a (omega arith)) (even a x.shown.long p) q)
      go false t f = subst (λ (l : List Entry). Cover a l e) (sym (entries_none m e low a (ltb-false a e t))) (omega (arith, ltb-false a e t))
