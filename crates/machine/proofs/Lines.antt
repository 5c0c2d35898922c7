-- The lowest line by the zeros below it.
-- Assumes nothing.
use Prim.Native.Nat.{ℕ, zero, suc, ◌+◌, ◌*◌, ◌/◌, ◌%◌, ◌^◌, ◌<◌, ◌≤◌, min}
use mathlib.Core.Path.{◌≡◌, refl, sym, ap, ap₂, subst, ◌∙◌}
use mathlib.Core.Bool.{Bool, true, false, cond, ◌&&◌}
use native.Mathlib.Omega.{arith}
use native.Mathlib.Nat.{pow-suc, pow-zero, min-le_left, div-div-eq-div-mul}
use lib.Arith.{mod-mul}
use lib.Pow.{pow-add, pow_pos}
use lib.Bits.{bit_and, and_step, and_zero_l, and_le_l}
use lib.Count.{under, count_trailing_zeros}
use lib.Dec.{eqb}
use Rattle.word.specs.Bits.{on}
use Rattle.machine.specs.Step.{lowest}

-- of the low k bits of a and b, how many stand below the lowest that is set in both; k where there is none
low_in : ℕ → ℕ → ℕ → ℕ
low_in zero a b = 0
low_in (suc k) a b = cond (eqb (a % 2) 1 && eqb (b % 2) 1) 0 (suc (low_in k (a / 2) (b / 2)))

-- the lowest bit, and the rest, of such a number with one bit more above it
module _ (a b c : ℕ) where
  low_bit : (bit_and a b + c * 2) % 2 ≡ min (a % 2) (b % 2)
  low_bit =
      let e = and_step a b in
      let m : min (a % 2) (b % 2) ≤ a % 2 = min-le_left (a % 2) (b % 2) in
      omega arith

  high_bits : (bit_and a b + c * 2) / 2 ≡ bit_and (a / 2) (b / 2) + c
  high_bits =
      let e = and_step a b in
      let m : min (a % 2) (b % 2) ≤ a % 2 = min-le_left (a % 2) (b % 2) in
      omega arith

-- zeros are counted in d bits, of which bit k is set
zeros_low : (k d a b : ℕ) → k < d → a < 2 ^ k → count_trailing_zeros d (bit_and a b + 2 ^ k) ≡ low_in k a b
unfolding count_trailing_zeros low_in
zeros_low k zero a b h l = absurd (omega arith)
zeros_low zero (suc d) a b h l =
    let one : a < 1 = rw pow-zero at l in
    let z : a ≡ 0 = omega (arith, one) in
    ap (λ (n : ℕ). count_trailing_zeros (suc d) (n + 1)) (ap (λ (x : ℕ). bit_and x b) z ∙ and_zero_l b)
zeros_low (suc k) (suc d) a b h l =
    ap (λ (n : ℕ). count_trailing_zeros (suc d) (bit_and a b + n)) (pow-suc 2 k)
    ∙ rw (low_bit a b (2 ^ k), high_bits a b (2 ^ k))
    (go (a % 2) (b % 2) (omega arith) (omega arith) (zeros_low k d (a / 2) (b / 2) (omega arith) (smaller (subst (λ (n : ℕ). a < n) (pow-suc 2 k) l))))
  where
    smaller : a < 2 ^ k * 2 → a / 2 < 2 ^ k
    smaller q = omega arith

    go : (x y : ℕ) → x < 2 → y < 2 → count_trailing_zeros d (bit_and (a / 2) (b / 2) + 2 ^ k) ≡ low_in k (a / 2) (b / 2)
        → under (min x y) (count_trailing_zeros d (bit_and (a / 2) (b / 2) + 2 ^ k)) ≡ cond (eqb x 1 && eqb y 1) 0 (suc (low_in k (a / 2) (b / 2)))
    go zero zero p q e = ap suc e
    go zero (suc zero) p q e = ap suc e
    go (suc zero) zero p q e = ap suc e
    go (suc zero) (suc zero) p q e = refl
    go (suc (suc x)) y p q e = absurd (omega arith)
    go zero (suc (suc y)) p q e = absurd (omega arith)
    go (suc zero) (suc (suc y)) p q e = absurd (omega arith)

-- what stands above k bits does not matter
low_mod : (k a b : ℕ) → low_in k (a % 2 ^ k) (b % 2 ^ k) ≡ low_in k a b
unfolding low_in
low_mod zero a b = refl
low_mod (suc k) a b = rw (bit a, bit b, rest a, rest b) (ap (λ (n : ℕ). cond (eqb (a % 2) 1 && eqb (b % 2) 1) 0 (suc n)) (low_mod k (a / 2) (b / 2)))
  where
    split : (n : ℕ) → n % 2 ^ suc k ≡ (n / 2 % 2 ^ k) * 2 + n % 2
    split n = ap (λ (m : ℕ). n % m) (pow-suc 2 k) ∙ mod-mul n (pow_pos k) (omega arith)

    bit : (n : ℕ) → n % 2 ^ suc k % 2 ≡ n % 2
    bit n = let e = split n in omega arith

    rest : (n : ℕ) → n % 2 ^ suc k / 2 ≡ n / 2 % 2 ^ k
    rest n = let e = split n in omega arith

-- lines from i on, by their bits
lowest_low : (n i t p : ℕ) → lowest n i t p ≡ i + low_in n (t / 2 ^ i) (p / 2 ^ (20 + i))
unfolding low_in lowest
lowest_low zero i t p = omega arith
lowest_low (suc n) i t p = go (on t i && on p (20 + i)) (lowest_low n (i + 1) t p ∙ ap₂ (λ (x y : ℕ). i + 1 + low_in n x y) (halved t i (i + 1) refl) (halved p (20 + i) (20 + (i + 1)) (omega arith)))
  where
    halved : (x j k : ℕ) → j + 1 ≡ k → x / 2 ^ k ≡ x / 2 ^ j / 2
    halved x j k e = ap (λ (m : ℕ). x / 2 ^ m) (sym e) ∙ ap (λ (m : ℕ). x / m) (pow-add 2 j 1) ∙ sym (div-div-eq-div-mul x (2 ^ j) 2)

    go : (b : Bool) → lowest n (i + 1) t p ≡ i + 1 + low_in n (t / 2 ^ i / 2) (p / 2 ^ (20 + i) / 2)
        → cond b i (lowest n (i + 1) t p) ≡ i + cond b 0 (suc (low_in n (t / 2 ^ i / 2) (p / 2 ^ (20 + i) / 2)))
    go true e = omega arith
    go false e = omega arith

-- the count of trailing zeros of the six masked bits, with a bit above them, is the lowest line; 6 where there is none
pub count_is_lowest : (t p : ℕ) → count_trailing_zeros 32 (bit_and (t % 64) (p / 1048576 % 64) + 64) ≡ lowest 6 0 t p
count_is_lowest t p =
    let one : t / 2 ^ 0 ≡ t = omega arith in
    zeros_low 6 32 (t % 64) (p / 1048576 % 64) (omega arith) (omega arith)
    ∙ low_mod 6 t (p / 1048576)
    ∙ ap (λ (x : ℕ). low_in 6 x (p / 1048576)) (sym one)
    ∙ sym (lowest_low 6 0 t p ∙ none (low_in 6 (t / 2 ^ 0) (p / 1048576)))
  where
    none : (n : ℕ) → 0 + n ≡ n
    none n = omega arith

pub lines_few : (t p : ℕ) → bit_and (t % 64) (p / 1048576 % 64) < 64
lines_few t p = let h = and_le_l (t % 64) (p / 1048576 % 64) in omega arith
