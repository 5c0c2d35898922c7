-- Laws of numbers: sums and differences that wrap, signed numbers once over their width, the signed order by sign and overflow.
-- Assumes nothing.
use Rattle.std.proofs.Common.{◌≡◌, ℕ, ◌+◌, ◌-◌, ◌*◌, ◌/◌, ◌%◌, ◌^◌, ◌<◌, ◌≤◌, Bool, true, false, not, ◌&&◌, ◌||◌, ltb, leb, sym, refl, ap, ◌∙◌, subst, lt_of_lt_of_le, lt_of_le_of_lt, le_of_lt, mod-lt, mod-eq_of_lt, mul-le-mul_left, mul-lt-mul_of_pos_right, arith, lit<, pow_pos, pow_mono, pow-add, shl_exact, ltb-false, ltb-true, le-ltb, lt-ltb, eq-eqb, ne_eqb, eqb-true, le-leb, leb-false, leb-true}
use mathlib.Core.Bool.{beq, xor}
use native.Mathlib.Nat.{mod-mod, mod-one, zero-mod, div-eq_of_lt}
use native.Mathlib.Decide.{dec_le}
use lib.Pow.{shr_le, shr_mono, high, low, ones_split, high_ones}
use borrow.Author.Tests.{lt-leb}
use Rattle.word.specs.Bits.{num, on, field_of}
use Rattle.word.specs.Numbers.{wrap, difference_of, less_of, signed_of, extend_of, fits_of}
use Rattle.word.specs.Flags.{negative_of, overflow_of}

-- a wrapped difference, from what subtracting twice leaves
pub difference : (x y n r s : ℕ) → y < 2 ^ 32 → n < 2 → r < 2 ^ 32 → s < 2 ^ 32 → (r + y) % 2 ^ 32 ≡ x → (s + n) % 2 ^ 32 ≡ r
    → s ≡ wrap (x + 2 ^ 33 - (y + n))
difference x y n r s hy hn hr hs e f = omega arith

-- 1 << i is a power
pub one_shl : (i k : ℕ) → i < k → (1 * 2 ^ i) % 2 ^ k ≡ 2 ^ i
one_shl i k h = shl_exact {a = 1} 1 i k (omega arith) (omega arith) ∙ (omega arith)

-- a word of ones, shifted right
pub ones_shr : (n : ℕ) → n ≤ 32 → 4294967295 / 2 ^ n ≡ 2 ^ (32 - n) - 1
ones_shr n h =
    let e : 32 ≡ (32 - n) + n = omega arith in
    ap (λ (k : ℕ). (2 ^ k - 1) / 2 ^ n) e
    ∙ ap (λ (k : ℕ). k / 2 ^ n) (ones_split (32 - n) n)
    ∙ high (2 ^ (32 - n) - 1) n (omega (arith, pow_pos n))

-- a width is twice the half range
pub double : (w : ℕ) → 0 < w → 2 ^ (w - 1) + 2 ^ (w - 1) ≡ 2 ^ w
double w h =
    let e : w ≡ 1 + (w - 1) = omega arith in
    let d : 2 ^ (1 + (w - 1)) ≡ 2 * 2 ^ (w - 1) = pow-add 2 1 (w - 1) in
    sym (ap (λ (n : ℕ). 2 ^ n) e ∙ d ∙ (omega arith))

module _ (w : ℕ) (h0 : 0 < w) (h32 : w ≤ 32) where
  -- the numbers that stand for -2^w and up: full of ones above their w low bits
  ones : 2 ^ 32 - 2 ^ w ≡ (2 ^ (32 - w) - 1) * 2 ^ w
  ones =
      let e : 32 ≡ (32 - w) + w = omega arith in
      ap (λ (n : ℕ). 2 ^ n - 2 ^ w) e ∙ high_ones (32 - w) w

  low_ones : (m : ℕ) → m < 2 ^ w → (m + 2 ^ 32 - 2 ^ w) % 2 ^ w ≡ m
  low_ones m h =
      let q : 2 ^ w ≤ 2 ^ 32 = pow_mono h32 in
      let e : m + 2 ^ 32 - 2 ^ w ≡ (2 ^ (32 - w) - 1) * 2 ^ w + m = omega (arith, ones) in
      ap (λ (n : ℕ). n % 2 ^ w) e ∙ low (2 ^ (32 - w) - 1) w h

  -- sign extension keeps the low w bits
  pub extend_low : (n : ℕ) → extend_of w n % 2 ^ w ≡ n % 2 ^ w
  extend_low n = go (ltb (n % 2 ^ w) (2 ^ (w - 1))) refl
    where
      go : (t : Bool) → ltb (n % 2 ^ w) (2 ^ (w - 1)) ≡ t → extend_of w n % 2 ^ w ≡ n % 2 ^ w
      go true e = rw e (mod-mod n (2 ^ w))
      go false e = rw (e, double w h0) (low_ones (n % 2 ^ w) (mod-lt n (pow_pos w)))

  -- what is sign extended fits
  pub fits_extend : (n : ℕ) → fits_of w (extend_of w n) ≡ true
  fits_extend n = eq-eqb _ _ (ap (signed_of (2 ^ (w - 1))) (extend_low n))

  -- and what fits is what its low w bits stand for
  pub extend_fits : (x : ℕ) → fits_of w x ≡ true → extend_of w (x % 2 ^ w) ≡ x
  extend_fits x e = ap (signed_of (2 ^ (w - 1))) (mod-mod x (2 ^ w)) ∙ eqb-true _ _ e

  -- in numbers: what fits lies from -2^(w-1) to 2^(w-1) - 1
  pub fits_range : (x : ℕ) → x < 2 ^ 32 → fits_of w x ≡ (ltb x (2 ^ (w - 1)) || leb (2 ^ 32) (x + 2 ^ (w - 1)))
  fits_range x hx = go (ltb x k) refl (leb (2 ^ 32) (x + k)) refl
    where
      k : ℕ
      k = 2 ^ (w - 1)

      d : k + k ≡ 2 ^ w
      d = double w h0

      q : 2 ^ w ≤ 2 ^ 32
      q = pow_mono h32

      far : (m : ℕ) → m < 2 ^ w → k ≤ x → x + k < 2 ^ 32 → signed_of k m ≡ x → ⊥
      far m hm a b = near (ltb m k) refl
        where
          near : (t : Bool) → ltb m k ≡ t → signed_of k m ≡ x → ⊥
          near true e f = let l = ltb-true m k e in let g : m ≡ x = rw e at f in omega arith
          near false e f = let l = ltb-false m k e in let g : m + 2 ^ 32 - (k + k) ≡ x = rw e at f in omega (arith, d)

      go : (t : Bool) → ltb x k ≡ t → (u : Bool) → leb (2 ^ 32) (x + k) ≡ u → fits_of w x ≡ (ltb x k || leb (2 ^ 32) (x + k))
      go true e u f =
          let l = ltb-true x k e in
          let m : x % 2 ^ w ≡ x = mod-eq_of_lt {m = 2 ^ w} (omega (arith, d)) in
          rw (e, m, e) (eq-eqb x x refl)
      go false e true f =
          let l = leb-true (2 ^ 32) (x + k) f in
          let m : ℕ = x + 2 ^ w - 2 ^ 32 in
          let hm : m < 2 ^ w = omega (arith, q, pow_pos w) in
          let s : x % 2 ^ w ≡ m = ap (λ (n : ℕ). n % 2 ^ w) (omega (arith, q, d)) ∙ low_ones m hm in
          rw (e, f) (eq-eqb _ _ (ap (signed_of k) s ∙ rw (le-ltb m k (omega (arith, d, q)), d) (omega (arith, q, d))))
      go false e false f =
          rw (e, f) (ne_eqb _ _ (far (x % 2 ^ w) (mod-lt x (pow_pos w)) (ltb-false x k e) (leb-false (2 ^ 32) (x + k) f)))

-- the sign of a word
pub sign : (z : ℕ) → z < 2 ^ 32 → on z 31 ≡ leb (2 ^ 31) z
sign z h = go (leb (2 ^ 31) z) refl
  where
    go : (t : Bool) → leb (2 ^ 31) z ≡ t → on z 31 ≡ t
    go true e =
        let l = leb-true (2 ^ 31) z e in
        let b : z / 2 ^ 31 % 2 ^ 1 ≡ 1 = omega arith in
        eq-eqb _ _ b
    go false e =
        let l = leb-false (2 ^ 31) z e in
        let b : z / 2 ^ 31 % 2 ^ 1 ≡ 0 = omega arith in
        rw b

-- the sign of the difference alone is not the order: it errs where the difference overflows
pub sign_alone_errs : less_of 0x80000000 0x7fffffff ≡ not (negative_of 0x80000000 0x7fffffff)
sign_alone_errs = refl

-- the signed order is the sign of the difference, turned round where the subtraction overflows
pub less_by_flags : (x y : ℕ) → x < 2 ^ 32 → y < 2 ^ 32 → less_of x y ≡ xor (negative_of x y) (overflow_of x y)
unfolding xor
less_by_flags x y hx hy = go (leb (2 ^ 31) x) refl (leb (2 ^ 31) y) refl (ltb x y) refl
  where
    sx : on x 31 ≡ leb (2 ^ 31) x
    sx = sign x hx

    sy : on y 31 ≡ leb (2 ^ 31) y
    sy = sign y hy

    sd : on (difference_of x y false) 31 ≡ leb (2 ^ 31) (difference_of x y false)
    sd = sign (difference_of x y false) (mod-lt (x + 2 ^ 33 - (y + 0)) (pow_pos 32))

    by : (a b n l : Bool) → leb (2 ^ 31) x ≡ a → leb (2 ^ 31) y ≡ b → leb (2 ^ 31) (difference_of x y false) ≡ n → less_of x y ≡ l
        → l ≡ xor n (not (beq a b) && not (beq a n)) → less_of x y ≡ xor (negative_of x y) (overflow_of x y)
    by a b n l ea eb en el e = rw (sx ∙ ea, sy ∙ eb, sd ∙ en) (el ∙ e)

    go : (a : Bool) → leb (2 ^ 31) x ≡ a → (b : Bool) → leb (2 ^ 31) y ≡ b → (c : Bool) → ltb x y ≡ c
        → less_of x y ≡ xor (negative_of x y) (overflow_of x y)
    go false ea false eb true ec =
        let p = leb-false (2 ^ 31) x ea in let q = leb-false (2 ^ 31) y eb in let r = ltb-true x y ec in
        by false false true true ea eb (le-leb (2 ^ 31) (difference_of x y false) (omega arith)) (lt-ltb (wrap (x + 2 ^ 31)) (wrap (y + 2 ^ 31)) (omega arith)) refl
    go false ea false eb false ec =
        let p = leb-false (2 ^ 31) x ea in let q = leb-false (2 ^ 31) y eb in let r = ltb-false x y ec in
        by false false false false ea eb (lt-leb (2 ^ 31) (difference_of x y false) (omega arith)) (le-ltb (wrap (x + 2 ^ 31)) (wrap (y + 2 ^ 31)) (omega arith)) refl
    go true ea true eb true ec =
        let p = leb-true (2 ^ 31) x ea in let q = leb-true (2 ^ 31) y eb in let r = ltb-true x y ec in
        by true true true true ea eb (le-leb (2 ^ 31) (difference_of x y false) (omega arith)) (lt-ltb (wrap (x + 2 ^ 31)) (wrap (y + 2 ^ 31)) (omega arith)) refl
    go true ea true eb false ec =
        let p = leb-true (2 ^ 31) x ea in let q = leb-true (2 ^ 31) y eb in let r = ltb-false x y ec in
        by true true false false ea eb (lt-leb (2 ^ 31) (difference_of x y false) (omega arith)) (le-ltb (wrap (x + 2 ^ 31)) (wrap (y + 2 ^ 31)) (omega arith)) refl
    go false ea true eb c ec =
        let p = leb-false (2 ^ 31) x ea in let q = leb-true (2 ^ 31) y eb in
        above (leb (2 ^ 31) (difference_of x y false)) refl (le-ltb (wrap (x + 2 ^ 31)) (wrap (y + 2 ^ 31)) (omega arith))
      where
        above : (n : Bool) → leb (2 ^ 31) (difference_of x y false) ≡ n → less_of x y ≡ false → less_of x y ≡ xor (negative_of x y) (overflow_of x y)
        above true en = λ l. by false true true false ea eb en l refl
        above false en = λ l. by false true false false ea eb en l refl
    go true ea false eb c ec =
        let p = leb-true (2 ^ 31) x ea in let q = leb-false (2 ^ 31) y eb in
        below (leb (2 ^ 31) (difference_of x y false)) refl (lt-ltb (wrap (x + 2 ^ 31)) (wrap (y + 2 ^ 31)) (omega arith))
      where
        below : (n : Bool) → leb (2 ^ 31) (difference_of x y false) ≡ n → less_of x y ≡ true → less_of x y ≡ xor (negative_of x y) (overflow_of x y)
        below true en = λ l. by true false true true ea eb en l refl
        below false en = λ l. by true false false true ea eb en l refl

-- What the functions of src/ compute, in plain numbers.

pub num_lt : (b : Bool) → num b < 2
num_lt true = lit< tt
num_lt false = lit< tt

pub product_lt : (k : ℕ) {x y : ℕ} → x < 2 ^ k → y < 2 ^ k → x * y < 2 ^ (k + k)
product_lt k {x} {y} hx hy =
    subst (λ (n : ℕ). x * y < n) (sym (pow-add 2 k k))
    (lt_of_le_of_lt (mul-le-mul_left x (le_of_lt hy)) (mul-lt-mul_of_pos_right hx (pow_pos k)))

-- two bytes for each halfword
pub doubled : (a d : ℕ) → (a + (d + d) % 2 ^ 32) % 2 ^ 32 ≡ wrap (a + 2 * d)
doubled a d = omega arith

module _ (p : ℕ) (hp : p < 2 ^ 32) where
  pub field_past : (i w : ℕ) → 31 < i → 0 ≡ field_of p i w
  field_past i w h = sym (ap (λ (n : ℕ). n % 2 ^ w) (div-eq_of_lt (lt_of_lt_of_le hp (pow_mono {i = 32} {j = i} (omega arith)))) ∙ zero-mod (2 ^ w))

  pub field_rest : (i w : ℕ) → 31 < w → p / 2 ^ i ≡ field_of p i w
  field_rest i w h =
      let q : 2 ^ 32 ≤ 2 ^ w = pow_mono {i = 32} {j = w} (omega arith) in
      sym (mod-eq_of_lt {m = 2 ^ w} (omega (arith, shr_le p i)))

  pub signs_fit : (n : ℕ) → p / 2 ^ n + (4294967295 - 4294967295 / 2 ^ n) < 2 ^ 32
  signs_fit n = omega (arith, shr_mono {a = p} {b = 4294967295} n (omega arith), shr_le 4294967295 n)

pub signs_are : (q n : ℕ) → n ≤ 31 → q + (4294967295 - 4294967295 / 2 ^ n) ≡ q + (2 ^ 32 - 2 ^ (32 - n))
signs_are q n h = omega (arith, ones_shr n (omega arith), pow_pos (32 - n))

pub extend_none : (w n : ℕ) → w ≡ 0 → 0 ≡ extend_of w n
extend_none w n e = rw (e, mod-one n)

pub extend_all : (w n : ℕ) → 31 < w → n < 2 ^ 32 → n ≡ extend_of w n
extend_all w n h hn = go (ltb n (2 ^ (w - 1))) refl
  where
    q : 2 ^ 32 ≤ 2 ^ w
    q = pow_mono {i = 32} {j = w} (omega arith)

    e : n % 2 ^ w ≡ n
    e = mod-eq_of_lt {m = 2 ^ w} (omega (arith, q))

    -- only at 32 bits can n be a negative number's pattern
    go : (t : Bool) → ltb n (2 ^ (w - 1)) ≡ t → n ≡ extend_of w n
    go true p = rw (e, p)
    go false p =
        let l = ltb-false n (2 ^ (w - 1)) p in
        let d = double w (omega arith) in
        let r : 2 ^ w ≤ 2 ^ 32 = narrow w l in
        rw (e, p, d) (omega (arith, q))
      where
        narrow : (v : ℕ) → 2 ^ (v - 1) ≤ n → 2 ^ v ≤ 2 ^ 32
        narrow v l = elim (dec_le v 32) [
          | yes a ↦ pow_mono a
          | no a ↦ let b : 2 ^ 32 ≤ 2 ^ (v - 1) = pow_mono {i = 32} {j = v - 1} (omega arith) in absurd (omega arith)
        ]

pub extend_near : (w n k q : ℕ) → k ≡ 2 ^ (w - 1) → q ≡ 2 ^ w → n % q < k → n % q ≡ extend_of w n
extend_near w n k q ek eq h = rw (← ek, ← eq, lt-ltb (n % q) k h)

pub extend_far : (w n k q : ℕ) → 0 < w → k ≡ 2 ^ (w - 1) → q ≡ 2 ^ w → k ≤ n % q → n % q + 2 ^ 32 - q ≡ extend_of w n
extend_far w n k q h0 ek eq h =
    let d : k + k ≡ q = rw (ek, eq) (double w h0) in
    rw (← ek, ← eq, le-ltb (n % q) k h, d)
