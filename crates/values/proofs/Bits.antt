-- Laws of bits, once over the bit's number: of a number shifted, cut, put together from two, and full of ones.
-- Assumes nothing.
use Prim.Native.Nat.{ℕ, ◌+◌, ◌*◌, ◌-◌, ◌/◌, ◌%◌, ◌^◌, ◌≤◌, ◌<◌}
use mathlib.Core.Path.{◌≡◌, refl, sym, ap, ap₂, ◌∙◌}
use mathlib.Core.Bool.{Bool, true, false, cond, xor, ◌&&◌, ◌||◌}
use native.Mathlib.Nat.{mod-lt, div-eq_of_lt, lt_of_lt_of_le, mul_assoc, mul-mod_left}
use native.Mathlib.Decide.{dec_le, ℕ_discrete}
use native.Mathlib.Omega.{arith}
use lib.Dec.{ltb, leb, eqb}
use lib.Arith.{bin_ind}
use lib.Bits.{bit_and, bit_or, bit_xor, and_shr, or_shr, xor_shr, and_mod, or_mod, xor_mod}
use lib.Pow.{pow_pos, pow-add, pow_mono, shl-shr, shr-shr, high, low, field, mod-mod-pow, ones_split, ones_lt}
use borrow.Author.Tests.{lt-ltb, le-ltb, le-leb, lt-leb, eq-eqb, ne_eqb, eqb-true, eqb-false}
use Rattle.word.specs.Bits.{num, put}
use Rattle.values.specs.Words.{bit_no, bit}

pub bit_of : {a b : ℕ} (j : ℕ) → a ≡ b → bit a j ≡ bit b j
bit_of j e = ap (λ (n : ℕ). bit n j) e

-- a number below 2^k has no bit from k on
pub none_past : (x k j : ℕ) → x < 2 ^ k → k ≤ j → bit x j ≡ false
none_past x k j h l =
    let d : x / 2 ^ j ≡ 0 = div-eq_of_lt (lt_of_lt_of_le h (pow_mono l)) in
    rw d

pub none_of_zero : (j : ℕ) → bit 0 j ≡ false
none_of_zero j = none_past 0 0 j (omega arith) (omega arith)

-- shifted right
pub bit_shr : (x n j : ℕ) → bit (x / 2 ^ n) j ≡ bit x (n + j)
bit_shr x n j = ap (λ (z : ℕ). eqb (z % 2) 1) (shr-shr x n j)

-- shifted left
pub bit_shl : (x n j : ℕ) → bit (x * 2 ^ n) j ≡ (leb n j && bit x (j - n))
bit_shl x n j = elim (dec_le n j) [
  | yes h ↦
      let e : j ≡ n + (j - n) = omega arith in
      rw (le-leb n j h) (ap (bit (x * 2 ^ n)) e ∙ sym (bit_shr (x * 2 ^ n) n (j - n)) ∙ bit_of (j - n) (shl-shr x n))
  | no h ↦
      let k : ℕ = n - j - 1 in
      let e : n ≡ k + 1 + j = omega arith in
      let p : 2 ^ n ≡ 2 ^ k * 2 * 2 ^ j = ap (λ (i : ℕ). 2 ^ i) e ∙ pow-add 2 (k + 1) j ∙ ap (λ (i : ℕ). i * 2 ^ j) (pow-add 2 k 1) in
      let q : x * 2 ^ n / 2 ^ j % 2 ≡ 0
      = ap (λ (i : ℕ). x * i / 2 ^ j % 2) p
      ∙ ap (λ (i : ℕ). i / 2 ^ j % 2) (sym (mul_assoc x (2 ^ k * 2) (2 ^ j)))
      ∙ ap (λ (i : ℕ). i % 2) (shl-shr (x * (2 ^ k * 2)) j)
      ∙ ap (λ (i : ℕ). i % 2) (sym (mul_assoc x (2 ^ k) 2))
      ∙ mul-mod_left (x * 2 ^ k) 2 in
      rw (lt-leb n j (omega arith), q)
]

-- cut to its k low bits
pub bit_mod : (x k j : ℕ) → bit (x % 2 ^ k) j ≡ (ltb j k && bit x j)
bit_mod x k j = elim (dec_le k j) [
  | yes h ↦ rw (le-ltb j k h) (none_past (x % 2 ^ k) k j (mod-lt x (pow_pos k)) h)
  | no h ↦
      let i : ℕ = k - j - 1 in
      let e : k ≡ i + 1 + j = omega arith in
      let q : x % 2 ^ k / 2 ^ j % 2 ≡ x / 2 ^ j % 2
      = ap (λ (n : ℕ). x % 2 ^ n / 2 ^ j % 2) e ∙ ap (λ (n : ℕ). n % 2) (field x (i + 1) j) ∙ mod-mod-pow (x / 2 ^ j) i 1 in
      rw (lt-ltb j k (omega arith), q)
]

-- put together from a high part and k low bits
pub bit_join : (a k b j : ℕ) → b < 2 ^ k → bit (a * 2 ^ k + b) j ≡ cond (ltb j k) (bit b j) (bit a (j - k))
bit_join a k b j h = elim (dec_le k j) [
  | yes l ↦
      let e : j ≡ k + (j - k) = omega arith in
      rw (le-ltb j k l) (ap (bit (a * 2 ^ k + b)) e ∙ sym (bit_shr (a * 2 ^ k + b) k (j - k)) ∙ bit_of (j - k) (high a k h))
  | no l ↦
      let t : ltb j k ≡ true = lt-ltb j k (omega arith) in
      rw t (sym (bit_of j (sym (low a k h)) ∙ bit_mod (a * 2 ^ k + b) k j ∙ rw t))
]

-- k ones
pub bit_ones : (k j : ℕ) → bit (2 ^ k - 1) j ≡ ltb j k
bit_ones k j = elim (dec_le k j) [
  | yes h ↦ none_past (2 ^ k - 1) k j (ones_lt k) h ∙ sym (le-ltb j k h)
  | no h ↦
      let i : ℕ = k - j - 1 in
      let e : k ≡ i + 1 + j = omega arith in
      let q : (2 ^ k - 1) / 2 ^ j % 2 ≡ 1
      = ap (λ (n : ℕ). (2 ^ n - 1) / 2 ^ j % 2) e
      ∙ ap (λ (n : ℕ). n / 2 ^ j % 2) (ones_split (i + 1) j)
      ∙ ap (λ (n : ℕ). n % 2) (high (2 ^ (i + 1) - 1) j (ones_lt j))
      ∙ ap (λ (n : ℕ). n % 2) (ones_split i 1)
      ∙ low (2 ^ i - 1) 1 (ones_lt 1) in
      rw (q, lt-ltb j k (omega arith))
]

-- with the w bits from i on written
pub put_bits : (p i w v j : ℕ) → bit (put p i w v) j ≡ cond (leb i j && ltb j (i + w)) (bit v (j - i)) (bit p j)
unfolding put
put_bits p i w v j = bit_join (p / 2 ^ (i + w) * 2 ^ w + v % 2 ^ w) i (p % 2 ^ i) j (mod-lt p (pow_pos i)) ∙ low_part (dec_le i j)
  where
    upper : i ≤ j → Dec (i + w ≤ j) → bit (p / 2 ^ (i + w) * 2 ^ w + v % 2 ^ w) (j - i) ≡ cond (ltb j (i + w)) (bit v (j - i)) (bit p j)
    upper l (yes m) =
        let e : i + w + (j - i - w) ≡ j = omega arith in
        bit_join (p / 2 ^ (i + w)) w (v % 2 ^ w) (j - i) (mod-lt v (pow_pos w))
        ∙ rw (le-ltb (j - i) w (omega arith), le-ltb j (i + w) m) (bit_shr p (i + w) (j - i - w) ∙ ap (bit p) e)
    upper l (no m) =
        let t : ltb (j - i) w ≡ true = lt-ltb (j - i) w (omega arith) in
        bit_join (p / 2 ^ (i + w)) w (v % 2 ^ w) (j - i) (mod-lt v (pow_pos w))
        ∙ rw (t, lt-ltb j (i + w) (omega arith)) (bit_mod v w (j - i) ∙ rw t)

    low_part : Dec (i ≤ j)
        → cond (ltb j i) (bit (p % 2 ^ i) j) (bit (p / 2 ^ (i + w) * 2 ^ w + v % 2 ^ w) (j - i)) ≡ cond (leb i j && ltb j (i + w)) (bit v (j - i)) (bit p j)
    low_part (yes l) = rw (le-ltb j i l, le-leb i j l) (upper l (dec_le (i + w) j))
    low_part (no l) =
        let t : ltb j i ≡ true = lt-ltb j i (omega arith) in
        rw (t, lt-leb i j (omega arith)) (bit_mod p i j ∙ rw t)

-- with bit i made b
pub put_bit : (p i : ℕ) (b : Bool) (j : ℕ) → bit (put p i 1 (num b)) j ≡ cond (eqb j i) b (bit p j)
put_bit p i b j = put_bits p i 1 (num b) j ∙ go (ℕ_discrete j i)
  where
    flag : (b : Bool) → bit (num b) 0 ≡ b
    flag true = refl
    flag false = refl

    go : Dec (j ≡ i) → cond (leb i j && ltb j (i + 1)) (bit (num b) (j - i)) (bit p j) ≡ cond (eqb j i) b (bit p j)
    go (yes e) =
        let z : j - i ≡ 0 = omega arith in
        rw (le-leb i j (omega arith), lt-ltb j (i + 1) (omega arith), eq-eqb j i e, z) (flag b)
    go (no e) = rw (ne_eqb j i e) (off (dec_le i j))
      where
        off : Dec (i ≤ j) → cond (leb i j && ltb j (i + 1)) (bit (num b) (j - i)) (bit p j) ≡ bit p j
        off (yes l) = rw (le-leb i j l, le-ltb j (i + 1) (omega arith))
        off (no l) = rw (lt-leb i j (omega arith))

pub put_here : (p i : ℕ) (b : Bool) → bit (put p i 1 (num b)) i ≡ b
put_here p i b = put_bit p i b i ∙ rw (eq-eqb i i refl)

pub put_else : (p i : ℕ) (b : Bool) (j : ℕ) → (j ≡ i → ⊥) → bit (put p i 1 (num b)) j ≡ bit p j
put_else p i b j h = put_bit p i b j ∙ rw (ne_eqb j i h)

-- a bit as a number
pub as_number : (x j : ℕ) (b : Bool) → bit x j ≡ b → bit_no x j ≡ num b
as_number x j true e = eqb-true _ _ e
as_number x j false e =
    let n : x / 2 ^ j % 2 ≡ 1 → ⊥ = eqb-false _ _ e in
    let l : x / 2 ^ j % 2 < 2 = mod-lt (x / 2 ^ j) (pow_pos 1) in
    omega arith

-- ---- two numbers with the same bits

-- the bits from 1 on are those of the half
half_bits : (x y : ℕ) → ((j : ℕ) → bit x j ≡ bit y j) → (j : ℕ) → bit (x / 2) j ≡ bit (y / 2) j
half_bits x y h j = bit_shr x 1 j ∙ h (1 + j) ∙ sym (bit_shr y 1 j)

last_bit : (x y : ℕ) → bit x 0 ≡ bit y 0 → x % 2 ≡ y % 2
last_bit x y e =
    let a : x / 1 % 2 ≡ num (bit y 0) = as_number x 0 (bit y 0) e in
    let b : y / 1 % 2 ≡ num (bit y 0) = as_number y 0 (bit y 0) refl in
    omega arith

all_off : (y : ℕ) → ((j : ℕ) → bit 0 j ≡ bit y j) → 0 ≡ y
all_off = bin_ind (λ (y : ℕ). ((j : ℕ) → bit 0 j ≡ bit y j) → 0 ≡ y) (λ h. refl)
    (λ y r h. let q : 0 ≡ y / 2 = r (half_bits 0 y h) in let e : 0 % 2 ≡ y % 2 = last_bit 0 y (h 0) in omega arith)

pub same_bits : (x y : ℕ) → ((j : ℕ) → bit x j ≡ bit y j) → x ≡ y
same_bits = bin_ind (λ (x : ℕ). (y : ℕ) → ((j : ℕ) → bit x j ≡ bit y j) → x ≡ y) all_off
    (λ x r y h. let q : x / 2 ≡ y / 2 = r (y / 2) (half_bits x y h) in let e : x % 2 ≡ y % 2 = last_bit x y (h 0) in omega arith)

-- ---- of two numbers taken together bit by bit

module _ (op : ℕ → ℕ → ℕ) (f : Bool → Bool → Bool)
    (shr : (a b k : ℕ) → op a b / 2 ^ k ≡ op (a / 2 ^ k) (b / 2 ^ k))
    (cut : (a b k : ℕ) → op a b % 2 ^ k ≡ op (a % 2 ^ k) (b % 2 ^ k))
    (table : (a b : Bool) → eqb (op (num a) (num b)) 1 ≡ f a b) where
  bit_op : (x y j : ℕ) → bit (op x y) j ≡ f (bit x j) (bit y j)
  bit_op x y j =
      ap (λ (n : ℕ). eqb n 1)
      (ap (λ (n : ℕ). n % 2) (shr x y j)
      ∙ cut (x / 2 ^ j) (y / 2 ^ j) 1
      ∙ ap₂ op (as_number x j (bit x j) refl) (as_number y j (bit y j) refl))
      ∙ table (bit x j) (bit y j)

pub bit_and_lem : (x y j : ℕ) → bit (bit_and x y) j ≡ (bit x j && bit y j)
bit_and_lem = bit_op bit_and ◌&&◌ and_shr and_mod table
  where
    table : (a b : Bool) → eqb (bit_and (num a) (num b)) 1 ≡ (a && b)
    table true true = refl
    table true false = refl
    table false b = refl

pub bit_or_lem : (x y j : ℕ) → bit (bit_or x y) j ≡ (bit x j || bit y j)
bit_or_lem = bit_op bit_or ◌||◌ or_shr or_mod table
  where
    table : (a b : Bool) → eqb (bit_or (num a) (num b)) 1 ≡ (a || b)
    table true true = refl
    table true false = refl
    table false true = refl
    table false false = refl

pub bit_xor_lem : (x y j : ℕ) → bit (bit_xor x y) j ≡ xor (bit x j) (bit y j)
unfolding xor
bit_xor_lem = bit_op bit_xor xor xor_shr xor_mod table
  where
    table : (a b : Bool) → eqb (bit_xor (num a) (num b)) 1 ≡ xor a b
    table true true = refl
    table true false = refl
    table false true = refl
    table false false = refl
