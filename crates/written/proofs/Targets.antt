-- Values, and the distances and numbers of accesses that are encoded of them: what fits its place leads back to its value, and is had from it.
-- Assumes nothing.
use Prim.Native.Nat.{ℕ, ◌+◌, ◌*◌, ◌-◌, ◌/◌, ◌%◌, ◌^◌, ◌<◌, ◌≤◌}
use mathlib.Core.Logic.{◌⊎◌, inl, inr}
use mathlib.Core.Path.{◌≡◌, refl, ap}
use mathlib.Core.Bool.{Bool, true, false, cond}
use native.Mathlib.Omega.{arith}
use lib.Dec.{ltb, leb, eqb}
use borrow.Author.Tests.{ltb-true, ltb-false, le-leb, lt-leb, eqb-true, eq-eqb}
use Rattle.word.specs.Numbers.{wrap, signed_of, product_of, difference_of, asr_of}
use Rattle.word.specs.Bytes.{bytes_of}
use Rattle.word.specs.Addresses.{jump_sum, aligned_of}
use Rattle.word.specs.declared.ByteAddr.{ByteAddr}
use Rattle.word.specs.declared.HalfDisp.{HalfDisp}
use Rattle.word.specs.declared.Width.{Width}
use Rattle.word.proofs.Numbers.{sign}
use Rattle.cpu.specs.Exec.{data_address}
use Rattle.forms.specs.Says.{unfit, scaled, halves_to, words_to}

-- ---- where a distance leads

-- a jump's target, from its distance in halves
module _ (a : ByteAddr) (v : ℕ) (ha : a.0 < 2 ^ 32) (hv : v < 2 ^ 32) where
  abbrev bytes : ℕ
  bytes = difference_of v a.0 false

  halved : (t : Bool) → leb (2 ^ 31) bytes ≡ t → bytes % 2 ≡ 0 → wrap (a.0 + 2 * (bytes / 2 + cond t (2 ^ 31) 0)) ≡ v
  halved true e p = omega arith
  halved false e p = omega arith

  pub jump_lands : ((halves_to a v).0 ≡ unfit → ⊥) → (jump_sum a (halves_to a v)).0 ≡ v
  unfolding halves_to
  jump_lands f = go (eqb (bytes % 2) 0) refl f
    where
      go : (t : Bool) → eqb (bytes % 2) 0 ≡ t → (cond t (asr_of bytes 1) unfit ≡ unfit → ⊥) → wrap (a.0 + 2 * cond t (asr_of bytes 1) unfit) ≡ v
      go true e f = rw (sign bytes (omega arith)) (halved (leb (2 ^ 31) bytes) refl (eqb-true _ 0 e))
      go false e f = absurd (f refl)

  -- the address that ldrpc loads from, from its distance in words
  abbrev after : ℕ
  after = difference_of v (aligned_of Width.Word a).0 false

  pub word_lands : (words_to a v ≡ unfit → ⊥) → (data_address Width.Word a.0 (words_to a v)).0 ≡ v
  unfolding words_to data_address
  word_lands f = go (eqb (v % 4) 0) refl f
    where
      go : (t : Bool) → eqb (v % 4) 0 ≡ t → (cond t (after / 4) unfit ≡ unfit → ⊥) → wrap (a.0 + cond t (after / 4) unfit * 4) / 4 * 4 ≡ v
      go true e f = let p : v % 4 ≡ 0 = eqb-true _ 0 e in omega arith
      go false e f = absurd (f refl)

-- an offset in bytes, from the number of accesses
pub offset_lands : (w : Width) (v : ℕ) → v < 2 ^ 32 → (scaled w v ≡ unfit → ⊥) → product_of (scaled w v) (bytes_of w) ≡ v
unfolding scaled
offset_lands w v hv f = go (eqb (v % bytes_of w) 0) refl f
  where
    back : (w : Width) → v % bytes_of w ≡ 0 → wrap (v / bytes_of w * bytes_of w) ≡ v
    back Width.Byte p = omega arith
    back Width.Half p = omega arith
    back Width.Word p = omega arith

    go : (t : Bool) → eqb (v % bytes_of w) 0 ≡ t → (cond t (v / bytes_of w) unfit ≡ unfit → ⊥) → wrap (cond t (v / bytes_of w) unfit * bytes_of w) ≡ v
    go true e f = back w (eqb-true _ 0 e)
    go false e f = absurd (f refl)

-- ---- a distance from where it leads

-- a signed number of at most 26 bits
abbrev pub Near : ℕ → Type 0
Near x = (x < 33554432) ⊎ ((4261412864 ≤ x) × (x < 4294967296))

pub near : (k m x : ℕ) → k ≤ 33554432 → m < k + k → signed_of k m ≡ x → Near x
near k m x l h = go (ltb m k) refl
  where
    go : (t : Bool) → ltb m k ≡ t → cond t m (m + 2 ^ 32 - (k + k)) ≡ x → Near x
    go true e q = let i = ltb-true m k e in inl (omega arith)
    go false e q = let i = ltb-false m k e in inr (omega arith, omega arith)

module _ (a : ByteAddr) (ha : a.0 < 4294967296) where
  halves : (x y : ℕ) → difference_of (wrap (a.0 + 2 * x)) a.0 false ≡ y → y < 2 ^ 32 → y % 2 ≡ 0 → y / 2 + cond (leb (2 ^ 31) y) (2 ^ 31) 0 ≡ x
      → halves_to a (wrap (a.0 + 2 * x)) ≡ record { 0 = x }
  unfolding halves_to
  halves x y e h p f = rw (e, eq-eqb (y % 2) 0 p, sign y h) (ap (λ (n : ℕ). record { 0 = n }) f)

  pub jump_from : (d : HalfDisp) → Near d.0 → halves_to a (jump_sum a d).0 ≡ d
  jump_from d (inl h) = halves d.0 (2 * d.0) (omega arith) (omega arith) (omega arith) (rw (lt-leb (2 ^ 31) (2 * d.0) (omega arith)) (omega arith))
  jump_from d (inr h) =
      let l = h.0 in
      let u = h.1 in
      halves d.0 (2 * d.0 - 2 ^ 32) (omega arith) (omega arith) (omega arith) (rw (le-leb (2 ^ 31) (2 * d.0 - 2 ^ 32) (omega arith)) (omega arith))

  pub word_from : (n : ℕ) → n < 256 → words_to a (data_address Width.Word a.0 n).0 ≡ n
  unfolding words_to data_address
  word_from n h =
      let v : ℕ = wrap (a.0 + n * 4) / 4 * 4 in
      let e : difference_of v (aligned_of Width.Word a).0 false / 4 ≡ n = omega arith in
      rw (eq-eqb (v % 4) 0 (omega arith)) e

pub offset_from : (w : Width) (n : ℕ) → n < 16 → scaled w (product_of n (bytes_of w)) ≡ n
unfolding scaled
offset_from Width.Byte n h = rw (eq-eqb (wrap (n * 1) % 1) 0 (omega arith)) (omega arith)
offset_from Width.Half n h = rw (eq-eqb (wrap (n * 2) % 2) 0 (omega arith)) (omega arith)
offset_from Width.Word n h = rw (eq-eqb (wrap (n * 4) % 4) 0 (omega arith)) (omega arith)
