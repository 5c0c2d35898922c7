-- Laws of fields, once over their place and width: read back, other fields kept, order of independent writes.
-- Assumes nothing.
use Rattle.std.proofs.Common.{◌≡◌, ℕ, ◌+◌, ◌-◌, ◌*◌, ◌/◌, ◌%◌, ◌^◌, ◌<◌, ◌≤◌, sym, ap, ◌∙◌, subst, ap₂, lt_of_le_of_lt, mod-lt, mul_assoc, add-mul, le-mul_of_pos_right, arith, pow_pos, pow-add, shr-shr, shr_lt}
use native.Mathlib.Nat.{mod-mod}
use lib.Pow.{high, low, split, field, mod-mod-pow, mod-pow-add}
use lib.Arith.{digits_lt}
use Rattle.word.specs.Bits.{field_of, put}

-- what lies above the field, from its end on, and what lies below
pub above : (p i w v : ℕ) → put p i w v / 2 ^ (i + w) ≡ p / 2 ^ (i + w)
unfolding put
above p i w v =
    sym (shr-shr _ i w)
    ∙ ap (λ (n : ℕ). n / 2 ^ w) (high (p / 2 ^ (i + w) * 2 ^ w + v % 2 ^ w) i (mod-lt p (pow_pos i)))
    ∙ high (p / 2 ^ (i + w)) w (mod-lt v (pow_pos w))

pub below : (p i w v : ℕ) → put p i w v % 2 ^ i ≡ p % 2 ^ i
unfolding put
below p i w v = low (p / 2 ^ (i + w) * 2 ^ w + v % 2 ^ w) i (mod-lt p (pow_pos i))

-- a field that was written is read back
pub read_back : (p i w v : ℕ) → field_of (put p i w v) i w ≡ v % 2 ^ w
unfolding put
read_back p i w v =
    ap (λ (n : ℕ). n % 2 ^ w) (high (p / 2 ^ (i + w) * 2 ^ w + v % 2 ^ w) i (mod-lt p (pow_pos i)))
    ∙ low (p / 2 ^ (i + w)) w (mod-lt v (pow_pos w))

-- a field above another's end depends on what lies from that end on, and a field below a place on what lies below
field_above : (p s j u : ℕ) → s ≤ j → field_of p j u ≡ field_of (p / 2 ^ s) (j - s) u
field_above p s j u h =
    let e : j ≡ s + (j - s) = omega arith in
    ap (λ (n : ℕ). p / 2 ^ n % 2 ^ u) e ∙ sym (ap (λ (n : ℕ). n % 2 ^ u) (shr-shr p s (j - s)))

field_below : (p i j u : ℕ) → j + u ≤ i → field_of p j u ≡ field_of (p % 2 ^ i) j u
field_below p i j u h =
    let e : i ≡ i - (u + j) + (u + j) = omega arith in
    sym (field p u j)
    ∙ sym (ap (λ (n : ℕ). n / 2 ^ j) (ap (λ (n : ℕ). p % 2 ^ n % 2 ^ (u + j)) e ∙ mod-mod-pow p (i - (u + j)) (u + j)))
    ∙ field (p % 2 ^ i) u j

-- other fields are kept
pub kept_above : (p i w v j u : ℕ) → i + w ≤ j → field_of (put p i w v) j u ≡ field_of p j u
kept_above p i w v j u h =
    field_above (put p i w v) (i + w) j u h
    ∙ ap (λ (n : ℕ). field_of n (j - (i + w)) u) (above p i w v)
    ∙ sym (field_above p (i + w) j u h)

pub kept_below : (p i w v j u : ℕ) → j + u ≤ i → field_of (put p i w v) j u ≡ field_of p j u
kept_below p i w v j u h =
    field_below (put p i w v) i j u h ∙ ap (λ (n : ℕ). field_of n j u) (below p i w v) ∙ sym (field_below p i j u h)

-- a later write to the same field stands alone, and writing what is there changes nothing
pub twice : (p i w v x : ℕ) → put (put p i w v) i w x ≡ put p i w x
unfolding put
twice p i w v x = ap₂ (λ (m n : ℕ). (m * 2 ^ w + x % 2 ^ w) * 2 ^ i + n) (above p i w v) (below p i w v)

pub written_back : (p i w : ℕ) → put p i w (field_of p i w) ≡ p
unfolding put
written_back p i w =
    ap₂ (λ (a b : ℕ). (a * 2 ^ w + b) * 2 ^ i + p % 2 ^ i) (sym (shr-shr p i w)) (mod-mod (p / 2 ^ i) (2 ^ w))
    ∙ ap (λ (n : ℕ). n * 2 ^ i + p % 2 ^ i) (split (p / 2 ^ i) w)
    ∙ split p i

-- a word of n bits stays one
pub put_lt : (n p i w v : ℕ) → i + w ≤ n → p < 2 ^ n → put p i w v < 2 ^ n
unfolding put
put_lt n p i w v h hp =
    let k : ℕ = n - (i + w) in
    let e : n ≡ k + (i + w) = omega arith in
    let f : k + w + i ≡ n = omega arith in
    let top : p / 2 ^ (i + w) < 2 ^ k = shr_lt k (i + w) (subst (λ (m : ℕ). p < 2 ^ m) e hp) in
    let mid : p / 2 ^ (i + w) * 2 ^ w + v % 2 ^ w < 2 ^ (k + w)
    = subst (λ (m : ℕ). p / 2 ^ (i + w) * 2 ^ w + v % 2 ^ w < m) (sym (pow-add 2 k w)) (digits_lt top (mod-lt v (pow_pos w))) in
    subst (λ (m : ℕ). (p / 2 ^ (i + w) * 2 ^ w + v % 2 ^ w) * 2 ^ i + p % 2 ^ i < m)
    (sym (pow-add 2 (k + w) i) ∙ ap (λ (m : ℕ). 2 ^ m) f)
    (digits_lt mid (mod-lt p (pow_pos i)))

-- a write from bit s on, seen without the s low bits
shifted : (p s k u x : ℕ) → put p (k + s) u x / 2 ^ s ≡ put (p / 2 ^ s) k u x
unfolding put
shifted p s k u x =
    let e : k + s + u ≡ s + (k + u) = omega arith in
    let a : ℕ = p / 2 ^ (k + s + u) * 2 ^ u + x % 2 ^ u in
    let b : ℕ = p / 2 ^ s % 2 ^ k in
    ap (λ (n : ℕ). n / 2 ^ s)
    (ap₂ (λ (m n : ℕ). a * m + n) (pow-add 2 k s) (mod-pow-add p k s) ∙ gather a b (2 ^ k) (2 ^ s) (p % 2 ^ s))
    ∙ high (a * 2 ^ k + b) s (mod-lt p (pow_pos s))
    ∙ ap (λ (n : ℕ). (n * 2 ^ u + x % 2 ^ u) * 2 ^ k + b) (ap (λ (n : ℕ). p / 2 ^ n) e ∙ sym (shr-shr p s (k + u)))
  where
    gather : (a b m n l : ℕ) → a * (m * n) + (b * n + l) ≡ (a * m + b) * n + l
    gather a b m n l = omega (arith, sym (mul_assoc a m n), add-mul (a * m) b n)

-- a word is what lies above a field, the field, and what lies below
whole : (p q i w : ℕ) → p / 2 ^ (i + w) ≡ q / 2 ^ (i + w) → field_of p i w ≡ field_of q i w → p % 2 ^ i ≡ q % 2 ^ i → p ≡ q
whole p q i w a f b =
    let h : p / 2 ^ i ≡ q / 2 ^ i
    = sym (split (p / 2 ^ i) w)
    ∙ ap₂ (λ (m n : ℕ). m * 2 ^ w + n) (shr-shr p i w ∙ a ∙ sym (shr-shr q i w)) f
    ∙ split (q / 2 ^ i) w in
    sym (split p i) ∙ ap₂ (λ (m n : ℕ). m * 2 ^ i + n) h b ∙ split q i

-- writes to fields that do not meet may change places
pub order : (p i w v j u x : ℕ) → i + w ≤ j → put (put p i w v) j u x ≡ put (put p j u x) i w v
order p i w v j u x h = whole _ _ i w top mid bottom
  where
    s : ℕ
    s = i + w

    e : j ≡ (j - s) + s
    e = omega arith

    shift : (q : ℕ) → put q j u x / 2 ^ s ≡ put (q / 2 ^ s) (j - s) u x
    shift q = ap (λ (n : ℕ). put q n u x / 2 ^ s) e ∙ shifted q s (j - s) u x

    top : put (put p i w v) j u x / 2 ^ s ≡ put (put p j u x) i w v / 2 ^ s
    top =
        shift (put p i w v)
        ∙ ap (λ (n : ℕ). put n (j - s) u x) (above p i w v)
        ∙ sym (shift p)
        ∙ sym (above (put p j u x) i w v)

    mid : field_of (put (put p i w v) j u x) i w ≡ field_of (put (put p j u x) i w v) i w
    mid = kept_below (put p i w v) j u x i w h ∙ read_back p i w v ∙ sym (read_back (put p j u x) i w v)

    low_of : (q : ℕ) → put q j u x % 2 ^ i ≡ q % 2 ^ i
    low_of q =
        let f : j ≡ (j - i) + i = omega arith in
        sym (mod-mod-pow (put q j u x) (j - i) i)
        ∙ ap (λ (n : ℕ). put q j u x % 2 ^ n % 2 ^ i) (sym f)
        ∙ ap (λ (n : ℕ). n % 2 ^ i) (below q j u x)
        ∙ ap (λ (n : ℕ). q % 2 ^ n % 2 ^ i) f
        ∙ mod-mod-pow q (j - i) i

    bottom : put (put p i w v) j u x % 2 ^ i ≡ put (put p j u x) i w v % 2 ^ i
    bottom = low_of (put p i w v) ∙ below p i w v ∙ sym (below (put p j u x) i w v ∙ low_of p)

-- each part of a written word fits it
module _ (p i w v : ℕ) (h : i + w ≤ 32) (hp : p < 2 ^ 32) where
  pub whole_fits : (p / 2 ^ (i + w) * 2 ^ w + v % 2 ^ w) * 2 ^ i + p % 2 ^ i < 2 ^ 32
  unfolding put
  whole_fits = put_lt 32 p i w v h hp

  pub top_fits : (p / 2 ^ (i + w) * 2 ^ w + v % 2 ^ w) * 2 ^ i < 2 ^ 32
  top_fits = omega (arith, whole_fits)

  pub mid_fits : p / 2 ^ (i + w) * 2 ^ w + v % 2 ^ w < 2 ^ 32
  mid_fits = lt_of_le_of_lt (le-mul_of_pos_right (p / 2 ^ (i + w) * 2 ^ w + v % 2 ^ w) (pow_pos i)) top_fits

  pub high_fits : p / 2 ^ (i + w) * 2 ^ w < 2 ^ 32
  high_fits = omega (arith, mid_fits)
