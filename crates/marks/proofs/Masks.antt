-- One bit of a byte by shift and mask: read, set and cleared.
-- Assumes nothing.
use Prim.Native.Nat.{ℕ, zero, suc, ◌+◌, ◌*◌, ◌-◌, ◌/◌, ◌%◌, ◌^◌, ◌<◌, max}
use mathlib.Core.Path.{◌≡◌, refl, sym, ap, ap₂, subst, ◌∙◌}
use mathlib.Core.Bool.{Bool, true, false}
use native.Mathlib.Nat.{mod-lt, mod-mod, mod-eq_of_lt, add-mul}
use native.Mathlib.Omega.{arith}
use lib.Bits.{bit_and, bit_or, or_step, or_zero_r, or_lt, and_mask, and_block, or_block, and_high}
use lib.Pow.{pow_pos, pow-lt, pow-add, shr-shr, shr_lt, split, ones_lt}
use Rattle.word.specs.Bits.{num, put}

-- the lowest bit set
or_lowest : (n : ℕ) → bit_or n 1 ≡ n / 2 * 2 + 1
or_lowest n = or_step n 1 ∙ ap₂ (λ (x y : ℕ). x * 2 + y) (or_zero_r (n / 2)) (largest (n % 2) (mod-lt n (omega arith)))
  where
    largest : (x : ℕ) → x < 2 → max x 1 ≡ 1
    largest zero h = refl
    largest (suc zero) h = refl
    largest (suc (suc x)) h = absurd (omega arith)

-- put of one bit, with what lies above it as halves of what is shifted
put_bit : (p s v : ℕ) → put p s 1 v ≡ (p / 2 ^ s / 2 * 2 + v % 2) * 2 ^ s + p % 2 ^ s
unfolding put
put_bit p s v = ap (λ (n : ℕ). (n * 2 + v % 2) * 2 ^ s + p % 2 ^ s) (sym (shr-shr p s 1))

-- "set"
pub or_sets : (p s : ℕ) → bit_or p (2 ^ s) ≡ put p s 1 1
or_sets p s =
    let one : 2 ^ s ≡ 1 * 2 ^ s + 0 = omega arith in
    ap₂ bit_or (sym (split p s)) one
    ∙ or_block s (p / 2 ^ s) 1 (p % 2 ^ s) 0 (mod-lt p (pow_pos s)) (pow_pos s)
    ∙ ap₂ (λ (x y : ℕ). x * 2 ^ s + y) (or_lowest (p / 2 ^ s)) (or_zero_r (p % 2 ^ s))
    ∙ sym (put_bit p s 1)

-- all bits of c + 1 + s but bit s
others : (c s : ℕ) → 2 ^ (c + 1 + s) - 1 - 2 ^ s ≡ (2 ^ (c + 1) - 2 ^ 1) * 2 ^ s + (2 ^ s - 1)
others c s =
    let e : 2 ^ (c + 1 + s) ≡ 2 ^ (c + 1) * 2 ^ s = pow-add 2 (c + 1) s in
    let f : 2 ^ (c + 1) ≡ 2 ^ c * 2 = pow-add 2 c 1 in
    let h : 0 < 2 ^ c = pow_pos c in
    let g : 2 ^ (c + 1) ≡ 2 ^ (c + 1) - 2 + 2 = omega arith in
    ap (λ (n : ℕ). n - 1 - 2 ^ s) (e ∙ ap (λ (n : ℕ). n * 2 ^ s) g) ∙ apart (2 ^ (c + 1) - 2) (2 ^ s) (pow_pos s)
  where
    apart : (q y : ℕ) → 0 < y → (q + 2) * y - 1 - y ≡ q * y + (y - 1)
    apart q y l = omega (arith, add-mul q 2 y)

-- "clear"
pub and_clears : (c p s : ℕ) → p < 2 ^ (c + 1 + s) → bit_and p (2 ^ (c + 1 + s) - 1 - 2 ^ s) ≡ put p s 1 0
and_clears c p s h =
    ap₂ bit_and (sym (split p s)) (others c s)
    ∙ and_block s (p / 2 ^ s) (2 ^ (c + 1) - 2 ^ 1) (p % 2 ^ s) (2 ^ s - 1) (mod-lt p (pow_pos s)) (ones_lt s)
    ∙ ap₂ (λ (x y : ℕ). x * 2 ^ s + y) (and_high (p / 2 ^ s) c 1 ∙ ap (λ (n : ℕ). n * 2) (mod-eq_of_lt small)) (and_mask (p % 2 ^ s) s ∙ mod-mod p (2 ^ s))
    ∙ sym (put_bit p s 0 ∙ ap (λ (n : ℕ). n * 2 ^ s + p % 2 ^ s) (plus (p / 2 ^ s / 2 * 2)))
  where
    small : p / 2 ^ s / 2 < 2 ^ c
    small = shr_lt c 1 (shr_lt (c + 1) s h)

    plus : (n : ℕ) → n + 0 ≡ n
    plus n = omega arith

-- as the code of a byte has them

pub shifted : (s : ℕ) → s < 8 → 1 * 2 ^ s % 2 ^ 32 ≡ 2 ^ s
shifted s h = ap (λ (n : ℕ). n % 2 ^ 32) (one_times (2 ^ s)) ∙ mod-eq_of_lt (pow-lt {i = s} {j = 32} (omega arith))
  where
    one_times : (n : ℕ) → 1 * n ≡ n
    one_times n = omega arith

pub shifted_small : (s : ℕ) → s < 8 → 1 * 2 ^ s % 2 ^ 32 < 256
shifted_small s h = subst (λ (n : ℕ). n < 256) (sym (shifted s h)) (pow-lt {i = s} {j = 8} h)

pub set_small : (p s : ℕ) → s < 8 → p < 256 → bit_or p (1 * 2 ^ s % 2 ^ 32) < 256
set_small p s h l = or_lt 8 p _ l (shifted_small s h)

pub byte_set : (p s : ℕ) (m : Bool) → s < 8 → m ≡ true → bit_or p (1 * 2 ^ s % 2 ^ 32) ≡ put p s 1 (num m)
byte_set p s m h e = ap (bit_or p) (shifted s h) ∙ or_sets p s ∙ ap (λ (b : Bool). put p s 1 (num b)) (sym e)

pub byte_cleared : (p s : ℕ) (m : Bool) → s < 8 → p < 256 → m ≡ false → bit_and p (255 - 1 * 2 ^ s % 2 ^ 32) ≡ put p s 1 (num m)
byte_cleared p s m h l e =
    let q : 7 - s + 1 + s ≡ 8 = omega arith in
    ap (λ (n : ℕ). bit_and p (255 - n)) (shifted s h)
    ∙ subst (λ (w : ℕ). p < 2 ^ w → bit_and p (2 ^ w - 1 - 2 ^ s) ≡ put p s 1 0) q (and_clears (7 - s) p s) l
    ∙ ap (λ (b : Bool). put p s 1 (num b)) (sym e)
