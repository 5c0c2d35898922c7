-- What is written reads back as the number that it was written for, so two numbers never share a text.
-- Assumes nothing.
use Rattle.std.specs.Prelude.{None, Some}
use Prim.Native.Nat.{ℕ, zero, suc, ◌+◌, ◌*◌, ◌-◌, ◌/◌, ◌%◌, ◌^◌, ◌<◌, ◌≤◌}
use mathlib.Core.Path.{◌≡◌, refl, sym, ap, ap₂, subst, ◌∙◌}
use mathlib.Core.Bool.{Bool, true, false, cond}
use mathlib.Core.List.{List, [], ◌∷◌, ◌++◌, append_assoc, append-nil}
use native.Mathlib.Nat.{mod-lt, div-add-mod', div-lt_iff_lt-mul, add-mul, mul_assoc, zero-mul, zero-div, zero-mod, lt_irrefl, pow-zero, pow-suc}
use native.Mathlib.Numerals.{add-one}
use native.Mathlib.Omega.{arith}
use lib.Dec.{ltb, eqb}
use lib.ListN.{length, drop, replicate, length-append, length-drop, length-replicate, replicate-append-replicate}
use lib.Seq.{drop-append-le}
use borrow.Author.Tests.{ltb-true, ltb-false, lt-ltb, le-ltb, le-leb, eqb-true}
use Rattle.text.specs.Digits.{value_of, glyph_of, digits_read, digits_of, leading_zero, decimal_of, zeros_of, address_of, pair_of, hex_text, decimal_text}

-- a digit is worth the number that it was written for
value_glyph : (d : ℕ) → d < 16 → value_of (glyph_of d) ≡ d
unfolding value_of glyph_of
value_glyph d h = go (ltb d 10) refl
  where
    go : (t : Bool) → ltb d 10 ≡ t → value_of (cond t (48 + d) (87 + d)) ≡ d
    go true e =
        let l = ltb-true d 10 e in
        rw (le-ltb (48 + d) 48 (omega arith), lt-ltb (48 + d) 58 (omega arith)) (omega arith)
    go false e =
        let l = ltb-false d 10 e in
        rw (le-ltb (87 + d) 48 (omega arith), le-ltb (87 + d) 58 (omega arith), le-ltb (87 + d) 97 (omega arith), lt-ltb (87 + d) 103 (omega arith)) (omega arith)

-- one digit more is read
number_snoc : (base v u d : ℕ) (l : List ℕ) → digits_read base v l ≡ Some u → value_of d < base
    → digits_read base v (l ++ (d ∷ [])) ≡ Some (u * base + value_of d)
unfolding digits_read
number_snoc base v u d [] e h =
    let q : v ≡ u = cc in
    rw (lt-ltb _ _ h, q)
number_snoc base v u d (c ∷ l) e h = go (ltb (value_of c) base) e (number_snoc base (v * base + value_of c) u d l)
  where
    go : (t : Bool) → cond t (digits_read base (v * base + value_of c) l) None ≡ Some u
        → (digits_read base (v * base + value_of c) l ≡ Some u → value_of d < base → digits_read base (v * base + value_of c) (l ++ (d ∷ [])) ≡ Some (u * base + value_of d))
        → cond t (digits_read base (v * base + value_of c) (l ++ (d ∷ []))) None ≡ Some (u * base + value_of d)
    go true q f = f q h
    go false q f = let z : ◌≡◌ {A = ℕ} 0 1 = cc in absurd (omega arith)

-- digits in a base: a number is its last digit and the number before it
joined : (v p q base r n : ℕ) → q * base + r ≡ n → (v * p + q) * base + r ≡ v * (p * base) + n
joined v p q base r n e =
    let d : (v * p + q) * base ≡ v * p * base + q * base = add-mul (v * p) q base in
    let a : v * p * base ≡ v * (p * base) = mul_assoc v p base in
    omega arith

module _ (base : ℕ) (low : 0 < base) (high : base ≤ 16) where
  pub smaller : (w n : ℕ) → n < base ^ suc w → n / base < base ^ w
  smaller w n h = (div-lt_iff_lt-mul {k = base} {x = n} {y = base ^ w} low).1 (rw pow-suc at h)

  digit : (n : ℕ) → value_of (glyph_of (n % base)) ≡ n % base
  digit n = value_glyph (n % base) (omega (arith, mod-lt n low))

  -- the digits of n, after a number v
  after : (w n v : ℕ) → n < base ^ w → digits_read base v (digits_of base w n) ≡ Some (v * base ^ w + n)
  unfolding digits_read digits_of
  after zero n v h =
      let one : n < 1 = rw pow-zero at h in
      let e : v ≡ v * 1 + n = omega (arith, one) in
      rw pow-zero (ap Some e)
  after (suc w) n v h =
      number_snoc base v (v * base ^ w + n / base) (glyph_of (n % base)) (digits_of base w (n / base)) (after w (n / base) v (smaller w n h))
      (subst (λ (x : ℕ). x < base) (sym (digit n)) (mod-lt n low))
      ∙ ap Some (ap (λ (x : ℕ). (v * base ^ w + n / base) * base + x) (digit n) ∙ rw pow-suc (joined v (base ^ w) (n / base) base (n % base) n (div-add-mod' n base)))

  -- w digits of n read as n
  pub read_written : (w n : ℕ) → n < base ^ w → digits_read base 0 (digits_of base w n) ≡ Some n
  read_written w n h =
      let e : 0 * base ^ w + n ≡ n = omega (arith, zero-mul (base ^ w)) in
      after w n 0 h ∙ ap Some e

  -- two numbers never share their digits
  pub digits_differ : (w n m : ℕ) → n < base ^ w → m < base ^ w → digits_of base w n ≡ digits_of base w m → n ≡ m
  digits_differ w n m h k e =
      let p = read_written w n h in
      let q = read_written w m k in
      cc

  -- leading zeros are worth nothing
  pub zeros_free : (l : List ℕ) → digits_read base 0 (drop (zeros_of l) l) ≡ digits_read base 0 l
  unfolding digits_read zeros_of value_of
  zeros_free [] = refl
  zeros_free (c ∷ []) = refl
  zeros_free (c ∷ d ∷ l) = go (eqb c 48) refl (zeros_free (d ∷ l))
    where
      go : (t : Bool) → eqb c 48 ≡ t → digits_read base 0 (drop (zeros_of (d ∷ l)) (d ∷ l)) ≡ digits_read base 0 (d ∷ l)
          → digits_read base 0 (drop (cond t (suc (zeros_of (d ∷ l))) 0) (c ∷ d ∷ l)) ≡ digits_read base 0 (c ∷ d ∷ l)
      go true e q =
          let z : 0 * base + 0 ≡ 0 = omega (arith, zero-mul base) in
          q ∙ sym (rw (eqb-true c 48 e, lt-ltb 0 base low, z))
      go false e q = refl

pub digits_length : (base w n : ℕ) → length (digits_of base w n) ≡ w
unfolding digits_of
digits_length base zero n = refl
digits_length base (suc w) n = rw (length-append, digits_length base w (n / base)) (omega arith)

-- an address
pub address_reads : (n : ℕ) → n < 2 ^ 32 → address_of (hex_text n) ≡ Some n
address_reads n h = rw (digits_length 16 8 n) (read_written 16 (omega arith) (omega arith) 8 n h)

-- a byte
pub pair_reads : (n : ℕ) → n < 256 → pair_of (glyph_of (n / 16)) (glyph_of (n % 16)) ≡ n
pair_reads n h = rw (value_glyph (n / 16) (omega arith), value_glyph (n % 16) (omega arith)) (omega arith)

-- ---- decimals

-- without its leading zeros, a text has no leading zero, and has a digit if it had one
pub unled : (l : List ℕ) → leading_zero (drop (zeros_of l) l) ≡ false
unfolding zeros_of
unled [] = refl
unled (c ∷ []) = refl
unled (c ∷ d ∷ l) = go (eqb c 48) refl (unled (d ∷ l))
  where
    go : (t : Bool) → eqb c 48 ≡ t → leading_zero (drop (zeros_of (d ∷ l)) (d ∷ l)) ≡ false
        → leading_zero (drop (cond t (suc (zeros_of (d ∷ l))) 0) (c ∷ d ∷ l)) ≡ false
    go true e q = q
    go false e q = rw (lt-ltb 1 (suc (suc (length l))) (omega arith), e)

fewer : (l : List ℕ) → 0 < length l → zeros_of l < length l
unfolding zeros_of
fewer [] h = h
fewer (c ∷ []) h = h
fewer (c ∷ d ∷ l) h = go (eqb c 48) (fewer (d ∷ l) (omega arith))
  where
    go : (t : Bool) → zeros_of (d ∷ l) < suc (length l) → cond t (suc (zeros_of (d ∷ l))) 0 < suc (suc (length l))
    go true q = omega arith
    go false q = omega arith

-- k zeros in front of a text are leading ones
led : (k : ℕ) (l : List ℕ) → 0 < length l → k ≤ zeros_of (replicate k 48 ++ l)
unfolding zeros_of
led zero l h = omega arith
led (suc k) l h = go (replicate k 48 ++ l) (led k l h) (rw (length-append, length-replicate) (omega arith))
  where
    go : (r : List ℕ) → k ≤ zeros_of r → 0 < length r → suc k ≤ zeros_of (48 ∷ r)
    go [] q p = absurd (lt_irrefl 0 p)
    go (d ∷ r) q p = omega arith

-- a number below base ^ w has zeros in front of its last w digits
module _ (base : ℕ) (low : 0 < base) (high : base ≤ 16) where
  only_zeros : (k : ℕ) → digits_of base k 0 ≡ replicate k 48
  unfolding digits_of glyph_of
  only_zeros zero = refl
  only_zeros (suc k) =
      rw (zero-div base, zero-mod base, only_zeros k)
      (replicate-append-replicate k 1 48 ∙ ap (λ (n : ℕ). replicate n 48) (add-one k))

  in_front : (k w n : ℕ) → n < base ^ w → digits_of base (k + w) n ≡ replicate k 48 ++ digits_of base w n
  unfolding digits_of
  in_front k zero n h =
      let one : n < 1 = rw pow-zero at h in
      let e : n ≡ 0 = omega (arith, one) in
      let k0 : k + 0 ≡ k = omega arith in
      rw (e, k0) (only_zeros k ∙ sym (append-nil (replicate k 48)))
  in_front k (suc w) n h =
      let e : k + suc w ≡ suc (k + w) = omega arith in
      rw (e, in_front k w (n / base) (smaller base low high w n h)) (append_assoc (replicate k 48) (digits_of base w (n / base)) (glyph_of (n % base) ∷ []))

twenty : (n : ℕ) → length (digits_of 10 20 n) ≡ 20
twenty n = digits_length 10 20 n

-- a number below 10 ^ w has at most w digits, and every number here has at most 20
pub decimal_length : (w n : ℕ) → 0 < w → w ≤ 20 → n < 10 ^ w → length (decimal_text n) ≤ w
decimal_length w n low high h =
    let e : 20 ≡ (20 - w) + w = omega arith in
    let front : digits_of 10 20 n ≡ replicate (20 - w) 48 ++ digits_of 10 w n
    = ap (λ (i : ℕ). digits_of 10 i n) e ∙ in_front 10 (omega arith) (omega arith) (20 - w) w n h in
    let many : 20 - w ≤ zeros_of (digits_of 10 20 n)
    = subst (λ (l : List ℕ). 20 - w ≤ zeros_of l) (sym front) (led (20 - w) (digits_of 10 w n) (rw (digits_length 10 w n) low)) in
    rw (length-drop, twenty n) (omega arith)

pub decimal_most : (n : ℕ) → length (decimal_text n) ≤ 20
decimal_most n = rw (length-drop, twenty n) (omega arith)

pub decimal_some : (n : ℕ) → 0 < length (decimal_text n)
decimal_some n =
    let f : zeros_of (digits_of 10 20 n) < length (digits_of 10 20 n) = fewer (digits_of 10 20 n) (rw (twenty n) (omega arith)) in
    rw length-drop (omega arith)

pub read_decimal : (n : ℕ) → n < 10 ^ 20 → digits_read 10 0 (decimal_text n) ≡ Some n
read_decimal n h = zeros_free 10 (omega arith) (omega arith) (digits_of 10 20 n) ∙ read_written 10 (omega arith) (omega arith) 20 n h

-- a digit after a text that is not all zeros leads nothing
zeros_before : (l : List ℕ) (g : ℕ) → (l ≡ replicate (length l) 48 → ⊥) → zeros_of (l ++ (g ∷ [])) ≡ zeros_of l
unfolding zeros_of
zeros_before [] g h = absurd (h refl)
zeros_before (c ∷ []) g h = go (eqb c 48) refl
  where
    go : (t : Bool) → eqb c 48 ≡ t → ◌≡◌ {A = ℕ} (cond t 1 0) 0
    go true e = absurd (h (ap (λ (x : ℕ). x ∷ []) (eqb-true c 48 e)))
    go false e = refl
zeros_before (c ∷ d ∷ l) g h = go (eqb c 48) refl (zeros_before (d ∷ l) g)
  where
    go : (t : Bool) → eqb c 48 ≡ t → ((d ∷ l ≡ replicate (length (d ∷ l)) 48 → ⊥) → zeros_of (d ∷ (l ++ (g ∷ []))) ≡ zeros_of (d ∷ l))
        → cond t (suc (zeros_of (d ∷ (l ++ (g ∷ []))))) 0 ≡ cond t (suc (zeros_of (d ∷ l))) 0
    go true e f = ap suc (f (λ q. h (ap₂ (λ (x : ℕ) (r : List ℕ). x ∷ r) (eqb-true c 48 e) q)))
    go false e f = refl

-- a number's digits are those of its tenth, and one more
module _ (n : ℕ) (high : n < 10 ^ 20) where
  tenth : n / 10 < 10 ^ 19
  tenth = smaller 10 (omega arith) (omega arith) 19 n high

  front : digits_of 10 20 (n / 10) ≡ 48 ∷ digits_of 10 19 (n / 10)
  front = in_front 10 (omega arith) (omega arith) 1 19 (n / 10) tenth

  -- without leading zeros, one in front more or less is the same
  led_once : (l : List ℕ) → 0 < length l → drop (zeros_of (48 ∷ l)) (48 ∷ l) ≡ drop (zeros_of l) l
  unfolding zeros_of
  led_once [] h = absurd (lt_irrefl 0 h)
  led_once (c ∷ l) h = refl

  pub decimal_more : 10 ≤ n → decimal_text n ≡ decimal_text (n / 10) ++ (glyph_of (n % 10) ∷ [])
  unfolding digits_of
  decimal_more low =
      rw (zeros_before d g some_digit, drop-append-le (zeros_of d) d (g ∷ []) (le (fewer d (rw (digits_length 10 19 (n / 10)) (omega arith)))))
      (ap (λ (l : List ℕ). l ++ (g ∷ [])) (sym (ap (λ (l : List ℕ). drop (zeros_of l) l) front ∙ led_once d (rw (digits_length 10 19 (n / 10)) (omega arith)))))
    where
      d : List ℕ
      d = digits_of 10 19 (n / 10)

      g : ℕ
      g = glyph_of (n % 10)

      le : {a b : ℕ} → a < b → a ≤ b
      le h = omega arith

      some_digit : d ≡ replicate (length d) 48 → ⊥
      some_digit e =
          let z : digits_of 10 19 (n / 10) ≡ digits_of 10 19 0
          = e ∙ ap (λ (k : ℕ). replicate k 48) (digits_length 10 19 (n / 10)) ∙ sym (only_zeros 10 (omega arith) (omega arith) 19) in
          let q : n / 10 ≡ 0 = digits_differ 10 (omega arith) (omega arith) 19 (n / 10) 0 tenth (omega arith) z in
          omega arith

  pub decimal_one : n < 10 → decimal_text n ≡ glyph_of n ∷ []
  unfolding zeros_of digits_of
  decimal_one low =
      let e : n % 10 ≡ n = omega arith in
      ap (λ (l : List ℕ). drop (zeros_of l) l) (in_front 10 (omega arith) (omega arith) 19 1 n low) ∙ ap (λ (x : ℕ). glyph_of x ∷ []) e

pub decimal_two : (n : ℕ) → 10 ≤ n → n < 100 → decimal_text n ≡ glyph_of (n / 10) ∷ glyph_of (n % 10) ∷ []
decimal_two n low high =
    decimal_more n (omega arith) low ∙ ap (λ (l : List ℕ). l ++ (glyph_of (n % 10) ∷ [])) (decimal_one (n / 10) (omega arith) (omega arith))

-- a decimal of up to five digits reads back
pub decimal_reads : (n : ℕ) → n < 100000 → decimal_of (decimal_text n) ≡ Some n
decimal_reads n h =
    rw (le-leb 1 _ (decimal_some n), le-leb _ _ (decimal_length 5 n (omega arith) (omega arith) h), unled (digits_of 10 20 n)) (read_decimal n (omega arith))

-- two numbers never share a decimal
pub decimals_differ : (n m : ℕ) → n < 10 ^ 20 → m < 10 ^ 20 → decimal_text n ≡ decimal_text m → n ≡ m
decimals_differ n m h k e =
    let p = read_decimal n h in
    let q = read_decimal m k in
    cc
