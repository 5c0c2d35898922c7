-- Sums, differences and the signed order as numbers.
-- Assumes nothing.
use Prim.Native.Nat.{ℕ, ◌+◌, ◌*◌, ◌-◌, ◌/◌, ◌^◌, ◌<◌}
use mathlib.Core.Path.{◌≡◌, refl, sym, ◌∙◌}
use mathlib.Core.Bool.{Bool, true, false, not, beq}
use mathlib.Core.Logic.{◌↔◌}
use native.Mathlib.Nat.{mod-lt, mod-add-div}
use native.Mathlib.Omega.{arith}
use lib.Pow.{pow_pos}
use borrow.Author.Tests.{ltb-true, ltb-false, lt-ltb, leb-true, leb-false}
use Rattle.word.specs.Bits.{num, put}
use Rattle.word.specs.Numbers.{wrap, sum_of, carry_of, difference_of, borrow_of, less_of}
use Rattle.word.proofs.Numbers.{num_lt}
use Rattle.values.specs.Words.{bit_no, bit, Wraps, Drops, Below}
use Rattle.values.proofs.Bits.{put_here, as_number}

pub wraps : (t : ℕ) → Wraps (wrap t) t
wraps t = record { word = mod-lt t (pow_pos 32); turns = t / 2 ^ 32; whole = mod-add-div t (2 ^ 32) }

-- a number without its bit 0
pub drops : (t : ℕ) → Drops (t / 2 * 2) t
drops t = record { even = omega arith; rest = omega arith }

-- the bit that was written, as a number
written : (p i : ℕ) (b : Bool) → bit_no (put p i 1 (num b)) i ≡ num b
written p i b = as_number (put p i 1 (num b)) i b (put_here p i b)

-- k is the carry that comes in, and the one that goes out is bit 9 of what p becomes
module _ (p x y : ℕ) (k : Bool) (hx : x < 2 ^ 32) (hy : y < 2 ^ 32) where
  pub sum_whole : sum_of x y k + 2 ^ 32 * bit_no (put p 9 1 (num (carry_of x y k))) 9 ≡ x + y + num k
  sum_whole = rw (written p 9 (carry_of x y k)) (go (carry_of x y k) refl)
    where
      go : (t : Bool) → carry_of x y k ≡ t → sum_of x y k + 2 ^ 32 * num t ≡ x + y + num k
      go true e = let l = leb-true (2 ^ 32) (x + y + num k) e in let s = num_lt k in omega arith
      go false e = let l = leb-false (2 ^ 32) (x + y + num k) e in omega arith

  pub difference_whole : difference_of x y k + (y + num k) ≡ x + 2 ^ 32 * bit_no (put p 9 1 (num (borrow_of x y k))) 9
  difference_whole = rw (written p 9 (borrow_of x y k)) (go (borrow_of x y k) refl)
    where
      go : (t : Bool) → borrow_of x y k ≡ t → difference_of x y k + (y + num k) ≡ x + 2 ^ 32 * num t
      go true e = let l = ltb-true x (y + num k) e in let s = num_lt k in omega arith
      go false e = let l = ltb-false x (y + num k) e in let s = num_lt k in omega arith

-- what a test puts in bit 8 tells the fact that it tests
pub tells : (p : ℕ) (t : Bool) (P : Type 0) → (t ≡ true → P) → (P → t ≡ true) → (bit (put p 8 1 (num t)) 8 ≡ true) ↔ P
tells p t P f g = (λ e. f (sym (put_here p 8 t) ∙ e), λ q. put_here p 8 t ∙ g q)

-- half a turn on, a word whose sign is set comes round
turned : (z : ℕ) → z < 2 ^ 32 → wrap (z + 2 ^ 31) + 2 ^ 32 * bit_no z 31 ≡ z + 2 ^ 31
turned z h = omega arith

module _ (x y : ℕ) (hx : x < 2 ^ 32) (hy : y < 2 ^ 32) where
  pub less_below : less_of x y ≡ true → Below x y
  less_below e = let l = ltb-true (wrap (x + 2 ^ 31)) (wrap (y + 2 ^ 31)) e in omega (arith, turned x hx, turned y hy)

  pub below_less : Below x y → less_of x y ≡ true
  below_less h = lt-ltb (wrap (x + 2 ^ 31)) (wrap (y + 2 ^ 31)) (omega (arith, turned x hx, turned y hy))

-- TF is what is wanted, or the other
pub same : (t : Bool) → beq t t ≡ true
same true = refl
same false = refl

pub other : (t : Bool) → beq (not t) t ≡ false
other true = refl
other false = refl
