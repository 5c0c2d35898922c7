-- A test that is computed at every number below a bound, and a row past its end.
-- Assumes nothing.
use mathlib.Core.Path.{◌≡◌, refl, sym, subst}
use mathlib.Core.Bool.{Bool, true, false, cond, ◌&&◌, ◌||◌}
use mathlib.Core.List.{List}
use Prim.Native.Nat.{ℕ, zero, suc, ◌-◌, ◌/◌, ◌%◌, ◌≤◌, ◌<◌}
use native.Mathlib.Omega.{arith}
use native.Mathlib.Nat.{not-suc-le-zero}
use lib.Dec.{ltb, eqb}
use lib.ListN.{length, get_or-eq_default}
use borrow.Author.Tests.{eqb-true, eqb-false, ltb-true, ltb-false}
use Rattle.isa.specs.Codes.{kind_in, alu_row, test_row, low_kind}
use Rattle.isa.specs.declared.Kind.{Kind}

pub and_left : (a b : Bool) → (a && b) ≡ true → a ≡ true
and_left true b e = refl
and_left false b e = e

pub and_right : (a b : Bool) → (a && b) ≡ true → b ≡ true
and_right true b e = e
and_right false b e = let z : ◌≡◌ {A = ℕ} 0 1 = cc in absurd (omega arith)

pub or_right : (a b : Bool) → (a || b) ≡ true → a ≡ false → b ≡ true
or_right true b e f = let z : ◌≡◌ {A = ℕ} 0 1 = cc in absurd (omega arith)
or_right false b e f = e

-- a test at each number below n
abbrev pub each : (ℕ → Bool) → ℕ → Bool
each f zero = true
each f (suc n) = f n && each f n

pub each_at : (f : ℕ → Bool) (n k : ℕ) → each f n ≡ true → k < n → f k ≡ true
each_at f zero k e h = absurd (not-suc-le-zero h)
each_at f (suc n) k e h = go (eqb k n) refl (each_at f n k (and_right (f n) (each f n) e))
  where
    go : (t : Bool) → eqb k n ≡ t → (k < n → f k ≡ true) → f k ≡ true
    go true p r = subst (λ (m : ℕ). f m ≡ true) (sym (eqb-true k n p)) (and_left (f n) (each f n) e)
    go false p r = let q = eqb-false k n p in r (omega (arith, q))

-- past its end a row has nothing
pub past : (row : List Kind) (b : ℕ) → length row ≤ b → Kind.Nothing ≡ kind_in row b
past row b h = sym (get_or-eq_default row Kind.Nothing h)

-- b is none of the n first numbers, as a match that names them all leaves it; so it is not below n
abbrev pub Rest : ℕ → ℕ → Type 0
Rest zero b = Unit {0}
Rest (suc n) b = Rest n b × (b ≡ n → ⊥)

pub rest_past : (n b : ℕ) → Rest n b → n ≤ b
rest_past zero b r = omega arith
rest_past (suc n) b r = let h : n ≤ b = rest_past n b r.0 in let q = r.1 in omega arith

-- rows 0x2? and 0x3?, one after the other
pub upper : (n : ℕ) → 32 ≤ n → n < 64 → cond (ltb (n - 32) 16) (kind_in alu_row (n - 32)) (kind_in test_row (n - 32 - 16)) ≡ low_kind (n / 16) (n % 16)
upper n l h = go (ltb (n - 32) 16) refl
  where
    go : (t : Bool) → ltb (n - 32) 16 ≡ t → cond t (kind_in alu_row (n - 32)) (kind_in test_row (n - 32 - 16)) ≡ low_kind (n / 16) (n % 16)
    go true e =
        let q = ltb-true (n - 32) 16 e in
        let a : n / 16 ≡ 2 = omega arith in
        let b : n % 16 ≡ n - 32 = omega arith in
        rw (a, b)
    go false e =
        let q = ltb-false (n - 32) 16 e in
        let a : n / 16 ≡ 3 = omega arith in
        let b : n % 16 ≡ n - 32 - 16 = omega arith in
        rw (a, b)
