-- The listing in a lent buffer: refused, and done.
-- Assumes nothing.
use Rattle.std.specs.Prelude.{Err, Ok}
use Prim.Native.Nat.{ℕ, ◌-◌, ◌*◌, ◌/◌, ◌%◌, ◌≤◌}
use mathlib.Core.Path.{◌≡◌, refl, sym, ap₂, ◌∙◌}
use mathlib.Core.Bool.{Bool, true, false, ◌||◌}
use mathlib.Core.List.{List}
use native.Mathlib.Omega.{arith}
use lib.Dec.{ltb, eqb}
use lib.ListN.{length}
use borrow.Author.Tests.{ltb-false, eqb-false}
use Rattle.listing.specs.Listing.{listing_of}
use Rattle.listing.specs.Lent.{is_out_of, answered, listed_of}
use Rattle.listing.specs.Parts.{Good, Kept}
use Rattle.listing.proofs.Ranged.{long}
use Rattle.listing.specs.declared.Refusal.{Refusal}

neither : (a b : Bool) → (a || b) ≡ false → (a ≡ false) × (b ≡ false)
neither true b e = let z : ◌≡◌ {A = ℕ} 0 1 = cc in absurd (omega arith)
neither false b e = (refl, e)

even : (n : ℕ) → eqb (n % 2) 1 ≡ false → n % 2 ≡ 0
even n e = let q = eqb-false (n % 2) 1 e in omega (arith, q)

module _ (n s e : ℕ) where
  pub good : is_out_of n s e ≡ false → Good n s e
  good h =
      let d = neither _ _ h in
      let c = neither _ _ d.0 in
      let b = neither _ _ c.0 in
      let a = neither _ _ b.0 in
      record {
        limit = ltb-false 65536 n a.0;
        start = even s a.1;
        end = even e b.1;
        order = ltb-false e s c.1;
        inside = ltb-false n e d.1;
      }

-- a buffer of 24 bytes for each byte has room
pub roomy : (m : List ℕ) (s e n : ℕ) → Good (length m) s e → (e - s) * 24 ≤ n → length (listing_of m s e) ≤ n
roomy m s e n g h =
    let a = g.limit in
    let b = g.start in
    let c = g.end in
    let d = g.order in
    let i = g.inside in
    let q = long m e (omega arith) ((e - s) / 2) s (omega arith) in
    omega arith

module _ (m l : List ℕ) (s e : ℕ) where
  pub lent_out : is_out_of (length m) s e ≡ true → answered (Err Refusal.OutOfImage) l ≡ listed_of m s e l
  unfolding listed_of
  lent_out h = rw h

  module _ (h : is_out_of (length m) s e ≡ false) where
    pub lent_short : ltb (length l) (length (listing_of m s e)) ≡ true → answered (Err Refusal.NoRoom) l ≡ listed_of m s e l
    unfolding listed_of
    lent_short k = rw (h, k)

    pub lent_done : (n : ℕ) (out : List ℕ) → ltb (length l) (length (listing_of m s e)) ≡ false → n ≡ length (listing_of m s e) → Kept out (listing_of m s e) l
        → answered (Ok n) out ≡ listed_of m s e l
    unfolding listed_of
    lent_done n out k en eo = ap₂ (λ (i : ℕ) (x : List ℕ). answered (Ok i) x) en eo ∙ sym (rw (h, k))
