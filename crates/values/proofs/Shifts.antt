-- Shifts, extensions and the exchange of halves by their bits: one law over the amount, one over the width.
-- Assumes nothing.
use Prim.Native.Nat.{ℕ, ◌+◌, ◌*◌, ◌-◌, ◌/◌, ◌%◌, ◌^◌, min, ◌≤◌, ◌<◌}
use mathlib.Core.Path.{◌≡◌, refl, sym, ap, subst, ◌∙◌}
use mathlib.Core.Bool.{Bool, true, false, cond, ◌&&◌, and-true, and-false}
use native.Mathlib.Nat.{mod-lt, le-div_iff_mul-le}
use native.Mathlib.Decide.{dec_le}
use native.Mathlib.Omega.{arith}
use lib.Dec.{ltb, leb}
use lib.Pow.{pow_pos, pow_mono, shr_lt, high_ones}
use borrow.Author.Tests.{lt-ltb, le-ltb, lt-leb}
use Rattle.word.specs.Numbers.{lsl_of, lsr_of, asr_of, signs, extend_of}
use Rattle.word.proofs.Numbers.{double}
use Rattle.values.specs.Words.{bit, lsl_bit, lsr_bit, asr_bit, extend_bit, exchange_bit}
use Rattle.values.proofs.Bits.{bit_of, none_past, none_of_zero, bit_shr, bit_shl, bit_mod, bit_join, bit_ones}

-- a test and the fact that it tells
by_test : (P : Bool → Type 0) (a b : ℕ) → (a < b → P true) → (b ≤ a → P false) → P (ltb a b)
by_test P a b p q = elim (dec_le b a) [
  | yes h ↦ rw (le-ltb a b h) (q h)
  | no h ↦ rw (lt-ltb a b (omega arith)) (p (omega arith))
]

-- q below, and ones above it up to bit 31
ones_above : (q k j : ℕ) → k ≤ 32 → q < 2 ^ k → bit (q + (2 ^ 32 - 2 ^ k)) j ≡ cond (ltb j k) (bit q j) (ltb j 32)
ones_above q k j l h =
    let e : 32 ≡ 32 - k + k = omega arith in
    let o : 2 ^ 32 - 2 ^ k ≡ (2 ^ (32 - k) - 1) * 2 ^ k = ap (λ (i : ℕ). 2 ^ i - 2 ^ k) e ∙ high_ones (32 - k) k in
    let s : q + (2 ^ 32 - 2 ^ k) ≡ (2 ^ (32 - k) - 1) * 2 ^ k + q = omega arith in
    bit_of j s ∙ bit_join (2 ^ (32 - k) - 1) k q j h
    ∙ by_test (λ (t : Bool). cond t (bit q j) (bit (2 ^ (32 - k) - 1) (j - k)) ≡ cond t (bit q j) (ltb j 32)) j k
    (λ m. refl)
    (λ m. bit_ones (32 - k) (j - k) ∙ same m)
  where
    same : k ≤ j → ltb (j - k) (32 - k) ≡ ltb j 32
    same m = by_test (λ (t : Bool). ltb (j - k) (32 - k) ≡ t) j 32 (λ n. lt-ltb (j - k) (32 - k) (omega arith)) (λ n. le-ltb (j - k) (32 - k) (omega arith))

pub lsl_bits : (x n j : ℕ) → bit (lsl_of x n) j ≡ lsl_bit x n j
lsl_bits x n j = by_test (λ (t : Bool). bit (cond t 0 ((x * 2 ^ n) % 2 ^ 32)) j ≡ lsl_bit x n j) 31 n over under
  where
    over : 31 < n → bit 0 j ≡ lsl_bit x n j
    over h =
        none_of_zero j
        ∙ sym (by_test (λ (t : Bool). (t && (leb n j && bit x (j - n))) ≡ false) j 32 (λ l. rw (lt-leb n j (omega arith))) (λ l. refl))

    under : n ≤ 31 → bit ((x * 2 ^ n) % 2 ^ 32) j ≡ lsl_bit x n j
    under h = bit_mod (x * 2 ^ n) 32 j ∙ ap (λ (b : Bool). ltb j 32 && b) (bit_shl x n j)

module _ (x : ℕ) (hx : x < 2 ^ 32) (n j : ℕ) where
  pub lsr_bits : bit (lsr_of x n) j ≡ lsr_bit x n j
  lsr_bits = by_test (λ (t : Bool). bit (cond t 0 (x / 2 ^ n)) j ≡ lsr_bit x n j) 31 n over under
    where
      over : 31 < n → bit 0 j ≡ lsr_bit x n j
      over h = none_of_zero j ∙ sym (none_past x 32 (j + n) hx (omega arith))

      under : n ≤ 31 → bit (x / 2 ^ n) j ≡ lsr_bit x n j
      under h = let e : n + j ≡ j + n = omega arith in bit_shr x n j ∙ ap (bit x) e

  pub asr_bits : bit (asr_of x n) j ≡ asr_bit x n j
  asr_bits = by_test (λ (t : Bool). bit (cond t (signs x 32) (x / 2 ^ n + signs x n)) j ≡ asr_bit x n j) 31 n over under
    where
      -- from the sign on every place has the sign, and places below it the bit that stood n above
      past : 31 ≤ j + n → asr_bit x n j ≡ (ltb j 32 && bit x 31)
      past h = let e : min 31 (j + n) ≡ 31 = omega arith in rw e

      near : j + n ≤ 31 → asr_bit x n j ≡ bit x (n + j)
      near h = let e : min 31 (j + n) ≡ n + j = omega arith in rw (e, lt-ltb j 32 (omega arith))

      over : 31 < n → bit (signs x 32) j ≡ asr_bit x n j
      over h = go (bit x 31) ∙ sym (past (omega arith))
        where
          go : (s : Bool) → bit (cond s (2 ^ 32 - 2 ^ (32 - 32)) 0) j ≡ (ltb j 32 && s)
          go true = bit_ones 32 j ∙ sym (and-true (ltb j 32))
          go false = none_of_zero j ∙ sym (and-false (ltb j 32))

      under : n ≤ 31 → bit (x / 2 ^ n + signs x n) j ≡ asr_bit x n j
      under h = go (bit x 31) refl
        where
          k : ℕ
          k = 32 - n

          e : 32 ≡ k + n
          e = omega arith

          fits : x / 2 ^ n < 2 ^ k
          fits = shr_lt k n (subst (λ (i : ℕ). x < 2 ^ i) e hx)

          go : (s : Bool) → bit x 31 ≡ s → bit (x / 2 ^ n + cond s (2 ^ 32 - 2 ^ k) 0) j ≡ asr_bit x n j
          go true p =
              ones_above (x / 2 ^ n) k j (omega arith) fits
              ∙ by_test (λ (t : Bool). cond t (bit (x / 2 ^ n) j) (ltb j 32) ≡ asr_bit x n j) j k
              (λ l. bit_shr x n j ∙ sym (near (omega arith)))
              (λ l. sym (past (omega arith) ∙ rw p (and-true (ltb j 32))))
          go false p =
              let z : x / 2 ^ n + 0 ≡ x / 2 ^ n = omega arith in
              bit_of j z ∙ bit_shr x n j ∙ rest (dec_le k j)
            where
              rest : Dec (k ≤ j) → bit x (n + j) ≡ asr_bit x n j
              rest (yes l) = none_past x 32 (n + j) hx (omega arith) ∙ sym (past (omega arith) ∙ rw p (and-false (ltb j 32)))
              rest (no l) = sym (near (omega arith))

-- the sign of the low w bits
module _ (w : ℕ) (h0 : 0 < w) (h32 : w ≤ 32) (n j : ℕ) where
  pub extend_bits : bit (extend_of w n) j ≡ extend_bit w n j
  extend_bits = by_test (λ (t : Bool). bit (cond t m (m + 2 ^ 32 - (k + k))) j ≡ extend_bit w n j) m k near far
    where
      m : ℕ
      m = n % 2 ^ w

      k : ℕ
      k = 2 ^ (w - 1)

      -- places below the sign, and from it on
      in_place : j < w → extend_bit w n j ≡ bit n j
      in_place l = let e : min (w - 1) j ≡ j = omega arith in rw (e, lt-ltb j 32 (omega arith))

      past : w ≤ j → extend_bit w n j ≡ (ltb j 32 && bit n (w - 1))
      past l = let e : min (w - 1) j ≡ w - 1 = omega arith in rw e

      low_bit : (i : ℕ) → i < w → bit m i ≡ bit n i
      low_bit i l = bit_mod n w i ∙ rw (lt-ltb i w l)

      near : m < k → bit m j ≡ extend_bit w n j
      near h =
          let s : bit n (w - 1) ≡ false = sym (low_bit (w - 1) (omega arith)) ∙ none_past m (w - 1) (w - 1) h (omega arith) in
          rest s (dec_le w j)
        where
          rest : bit n (w - 1) ≡ false → Dec (w ≤ j) → bit m j ≡ extend_bit w n j
          rest s (yes l) = none_past m w j (mod-lt n (pow_pos w)) l ∙ sym (past l ∙ rw s (and-false (ltb j 32)))
          rest s (no l) = low_bit j (omega arith) ∙ sym (in_place (omega arith))

      far : k ≤ m → bit (m + 2 ^ 32 - (k + k)) j ≡ extend_bit w n j
      far h =
          let d : k + k ≡ 2 ^ w = double w h0 in
          let q : 2 ^ w ≤ 2 ^ 32 = pow_mono h32 in
          let e : m + 2 ^ 32 - (k + k) ≡ m + (2 ^ 32 - 2 ^ w) = omega arith in
          let i : w ≡ 1 + (w - 1) = omega arith in
          let two : m / k < 2 = shr_lt 1 (w - 1) (subst (λ (a : ℕ). m < 2 ^ a) i (mod-lt n (pow_pos w))) in
          let one : 1 ≤ m / k = (le-div_iff_mul-le (pow_pos (w - 1))).1 (omega arith) in
          let o : m / k % 2 ≡ 1 = omega arith in
          let s : bit n (w - 1) ≡ true = sym (low_bit (w - 1) (omega arith)) ∙ rw o in
          bit_of j e ∙ ones_above m w j h32 (mod-lt n (pow_pos w))
          ∙ by_test (λ (t : Bool). cond t (bit m j) (ltb j 32) ≡ extend_bit w n j) j w
          (λ l. low_bit j l ∙ sym (in_place l))
          (λ l. sym (past l ∙ rw s (and-true (ltb j 32))))

-- the halves exchanged
pub exchange_bits : (y j : ℕ) → y < 2 ^ 32 → bit (y % 65536 * 65536 + y / 65536) j ≡ exchange_bit y j
exchange_bits y j hy =
    bit_join (y % 2 ^ 16) 16 (y / 2 ^ 16) j (shr_lt 16 16 hy)
    ∙ by_test (λ (t : Bool). cond t (bit (y / 2 ^ 16) j) (bit (y % 2 ^ 16) (j - 16)) ≡ exchange_bit y j) j 16 lower upper
  where
    lower : j < 16 → bit (y / 2 ^ 16) j ≡ exchange_bit y j
    lower l =
        let e : (j + 16) % 32 ≡ 16 + j = omega arith in
        bit_shr y 16 j ∙ sym (rw (lt-ltb j 32 (omega arith), e))

    upper : 16 ≤ j → bit (y % 2 ^ 16) (j - 16) ≡ exchange_bit y j
    upper l = bit_mod y 16 (j - 16) ∙ rest (dec_le 32 j)
      where
        rest : Dec (32 ≤ j) → (ltb (j - 16) 16 && bit y (j - 16)) ≡ exchange_bit y j
        rest (yes m) = rw (le-ltb (j - 16) 16 (omega arith), le-ltb j 32 m)
        rest (no m) =
            let e : (j + 16) % 32 ≡ j - 16 = omega arith in
            rw (lt-ltb (j - 16) 16 (omega arith), lt-ltb j 32 (omega arith), e)
