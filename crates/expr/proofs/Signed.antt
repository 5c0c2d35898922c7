-- Laws of signed numbers: sums, differences and products of 32 bits fit in 64.
-- Assumes nothing.
use Prim.Native.Nat.{ℕ, zero, suc, ◌*◌, ◌-◌, ◌<◌, ◌≤◌}
use mathlib.Core.Path.{◌≡◌, refl, ap}
use mathlib.Core.Bool.{Bool, true, false, cond}
use native.Mathlib.Nat.{mul-le-mul}
use native.Mathlib.Omega.{arith}
use lib.Dec.{ltb}
use lib.IntN.{ℤ, pos, negsuc, sub_ℕ, neg_ℤ, ◌+ℤ◌, ◌-ℤ◌, ◌*ℤ◌}
use lib.Signed.{mag, lt_z}
use borrow.Author.Tests.{ltb-false, le-ltb}
use mir.Val.{SFits, to_z}
use Rattle.expr.specs.declared.Value.{Value}
use Rattle.expr.specs.Value.{fitted, signed_word, written}
use mir.Syntax.{w32, w64}

pub wider : (z : ℤ) → SFits w32 z → SFits w64 z
wider z f = let h : mag z < 2147483648 = f.sfits in record { sfits = let k : mag z < 9223372036854775808 = omega arith in k }

pub sized : (z : ℤ) → mag z < 2147483648 → SFits w32 z
sized z h = record { sfits = h }

pub within32 : (z : ℤ) → lt_z z (negsuc 2147483647) ≡ false → lt_z (pos 2147483647) z ≡ false → mag z < 2147483648
within32 (pos n) e f = let h : n ≤ 2147483647 = ltb-false 2147483647 n f in omega arith
within32 (negsuc n) e f = let h : n ≤ 2147483647 = ltb-false 2147483647 n e in omega arith

mag_cond : (t : Bool) (p q h : ℕ) → p < h → q < h → mag (cond t (negsuc p) (pos q)) < h
mag_cond true p q h a b = a
mag_cond false p q h a b = b

mag_sub : (a b : ℕ) (h : ℕ) → a < h → b ≤ h → 0 < b → mag (sub_ℕ a b) < h
mag_sub a b h p q r = mag_cond (ltb a b) (b - suc a) (a - b) h (omega arith) (omega arith)

mag_plus : (a b : ℤ) → mag a ≤ 2147483648 → mag b ≤ 2147483648 → mag (a +ℤ b) < 9223372036854775808
mag_plus (pos a) (pos b) h k = omega arith
mag_plus (pos a) (negsuc b) h k = mag_sub a (suc b) 9223372036854775808 (omega arith) (omega arith) (omega arith)
mag_plus (negsuc a) (pos b) h k = mag_sub b (suc a) 9223372036854775808 (omega arith) (omega arith) (omega arith)
mag_plus (negsuc a) (negsuc b) h k = omega arith

mag_minus : (b : ℤ) → mag b < 2147483648 → mag (neg_ℤ b) ≤ 2147483648
mag_minus (pos zero) h = omega arith
mag_minus (pos (suc n)) h = omega arith
mag_minus (negsuc n) h = omega arith

mag_neg : (n h : ℕ) → n < h → mag (neg_ℤ (pos n)) < h
mag_neg zero h k = k
mag_neg (suc n) h k = omega arith

times_below : (a b : ℕ) → a ≤ 2147483648 → b ≤ 2147483648 → a * b < 9223372036854775808
times_below a b h k = let m : a * b ≤ 2147483648 * 2147483648 = mul-le-mul h k in omega arith

mag_times : (a b : ℤ) → mag a < 2147483648 → mag b < 2147483648 → mag (a *ℤ b) < 9223372036854775808
mag_times (pos a) (pos b) h k = times_below a b (omega arith) (omega arith)
mag_times (pos a) (negsuc b) h k = mag_neg (a * suc b) 9223372036854775808 (times_below a (suc b) (omega arith) (omega arith))
mag_times (negsuc a) (pos b) h k = mag_neg (suc a * b) 9223372036854775808 (times_below (suc a) b (omega arith) (omega arith))
mag_times (negsuc a) (negsuc b) h k = times_below (suc a) (suc b) (omega arith) (omega arith)

module _ (a b : ℤ) (f : SFits w32 a) (g : SFits w32 b) where
  fa : mag a < 2147483648
  fa = f.sfits

  gb : mag b < 2147483648
  gb = g.sfits

  pub plus_fits : SFits w64 (a +ℤ b)
  plus_fits = let h = fa in let k = gb in record { sfits = mag_plus a b (omega arith) (omega arith) }

  pub minus_fits : SFits w64 (a -ℤ b)
  minus_fits = let h = fa in record { sfits = mag_plus a (neg_ℤ b) (omega arith) (mag_minus b gb) }

  pub times_fits : SFits w64 (a *ℤ b)
  times_fits = record { sfits = mag_times a b fa gb }

pub less_one : (k : ℕ) → negsuc 0 -ℤ pos k ≡ negsuc k
less_one zero = refl
less_one (suc j) = ap negsuc (omega arith)

-- 32 bits read as a signed value, as the code reads them
pub signed_bits : (n : ℕ) → to_z w32 n ≡ signed_word n
unfolding signed_word
signed_bits n = let e : 4294967296 - suc n ≡ 4294967295 - n = omega arith in ap (λ (k : ℕ). cond (ltb n 2147483648) (pos n) (negsuc k)) e

-- a value fits exactly if it is one of 32 bits
pub fits_fitted : (z : ℤ) → SFits w32 z → Value.Is z ≡ fitted z
unfolding fitted
fits_fitted (pos n) f = let h : n ≤ 2147483647 = (let k = f.sfits in omega arith) in rw (le-ltb _ _ h)
fits_fitted (negsuc n) f = let h : n ≤ 2147483647 = (let k = f.sfits in omega arith) in rw (le-ltb _ _ h)

pub unfit_large : (z : ℤ) → (SFits w32 z → ⊥) → Value.Large ≡ fitted z
unfolding fitted
unfit_large z f = go (lt_z z (negsuc 2147483647)) (lt_z (pos 2147483647) z) refl refl
  where
    go : (a b : Bool) → lt_z z (negsuc 2147483647) ≡ a → lt_z (pos 2147483647) z ≡ b → Value.Large ≡ cond a Value.Large (cond b Value.Large (Value.Is z))
    go true b p q = refl
    go false true p q = refl
    go false false p q = absurd (f (record { sfits = within32 z p q }))

pub fits_written : (n : ℕ) → SFits w32 (pos n) → Value.Is (pos n) ≡ written n
unfolding written
fits_written n f = let h : n ≤ 2147483647 = (let k = f.sfits in omega arith) in rw (le-ltb _ _ h)

pub unfit_written : (n : ℕ) → (SFits w32 (pos n) → ⊥) → Value.Large ≡ written n
unfolding written
unfit_written n f = go (ltb 2147483647 n) refl
  where
    go : (t : Bool) → ltb 2147483647 n ≡ t → Value.Large ≡ cond t Value.Large (Value.Is (pos n))
    go true p = refl
    go false p = let h = ltb-false _ _ p in absurd (f (record { sfits = omega arith }))
