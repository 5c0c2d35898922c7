-- Displacements, offsets and addresses from what a listing writes of them.
-- Assumes nothing.
use Prim.Native.Nat.{ℕ, ◌+◌, ◌*◌, ◌-◌, ◌/◌, ◌%◌, ◌^◌, ◌<◌, ◌≤◌}
use mathlib.Core.Path.{◌≡◌, refl, sym, ap, ◌∙◌}
use mathlib.Core.Bool.{Bool, true, false, cond}
use native.Mathlib.Omega.{arith}
use native.Mathlib.Nat.{add-mul-mod_self_right}
use lib.Dec.{ltb, leb}
use borrow.Author.Tests.{ltb-true, ltb-false, le-leb, lt-leb, leb-true, leb-false, eq-eqb}
use Rattle.word.specs.Numbers.{signed_of, product_of, difference_of}
use Rattle.word.specs.Bytes.{bytes_of}
use Rattle.word.specs.Addresses.{jump_sum}
use Rattle.word.specs.declared.ByteAddr.{ByteAddr}
use Rattle.word.specs.declared.HalfDisp.{HalfDisp}
use Rattle.word.specs.declared.Width.{Width}
use Rattle.word.proofs.Numbers.{sign}
use Rattle.cpu.specs.Exec.{data_address}
use Rattle.forms.specs.Says.{scaled, halves_to, words_to}

low_mod : (r : ℕ) → r < 2 ^ 32 → r % 2 ^ 32 ≡ r
low_mod r h = omega arith

-- a number modulo 2^32, from its turns
wrap_is : (x q r : ℕ) → x ≡ r + q * 2 ^ 32 → r < 2 ^ 32 → x % 2 ^ 32 ≡ r
wrap_is x q r e h = ap (λ (n : ℕ). n % 2 ^ 32) e ∙ add-mul-mod_self_right r q (2 ^ 32) ∙ low_mod r h

-- ---- jumps

-- a distance of y bytes is one of y / 2 halves, with the sign in front
halves : (a : ByteAddr) (v y q d : ℕ) → v + 2 ^ 33 - (a.0 + 0) ≡ y + q * 2 ^ 32 → y < 2 ^ 32 → y % 2 ≡ 0 → y / 2 + cond (leb (2 ^ 31) y) (2 ^ 31) 0 ≡ d
    → halves_to a v ≡ record { 0 = d }
unfolding halves_to
halves a v y q d e h p f =
    let z : difference_of v a.0 false ≡ y = wrap_is _ q y e h in
    rw (z, eq-eqb (y % 2) 0 p, sign y h) (ap (λ (n : ℕ). record { 0 = n }) f)

module _ (a : ByteAddr) (k m : ℕ) (low : a.0 < 65536) (h : m < k + k) (l : k ≤ 33554432) where
  abbrev pub disp : HalfDisp
  disp = record { 0 = signed_of k m }

  -- the target is ahead, or behind, or so far behind that it is modulo 2^32
  data Lies : Type 0 where
    ahead : m < k → (jump_sum a disp).0 ≡ a.0 + 2 * m → signed_of k m ≡ m → Lies
    behind : k ≤ m → 4 * k ≤ a.0 + 2 * m → (jump_sum a disp).0 ≡ a.0 + 2 * m - 4 * k → signed_of k m ≡ m + 2 ^ 32 - (k + k) → Lies
    below : k ≤ m → a.0 + 2 * m < 4 * k → (jump_sum a disp).0 ≡ a.0 + 2 * m + 2 ^ 32 - 4 * k → signed_of k m ≡ m + 2 ^ 32 - (k + k) → Lies

  lies : Lies
  lies = go (ltb m k) refl (leb (4 * k) (a.0 + 2 * m)) refl
    where
      go : (t : Bool) → ltb m k ≡ t → (u : Bool) → leb (4 * k) (a.0 + 2 * m) ≡ u → Lies
      go true e u f =
          let p = ltb-true m k e in
          ahead p (rw e (wrap_is _ 0 (a.0 + 2 * m) (omega arith) (omega arith))) (rw e)
      go false e true f =
          let p = ltb-false m k e in
          let g = leb-true _ _ f in
          behind p g (rw e (wrap_is _ 2 (a.0 + 2 * m - 4 * k) (omega arith) (omega arith))) (rw e)
      go false e false f =
          let p = ltb-false m k e in
          let g = leb-false _ _ f in
          below p g (rw e (wrap_is _ 1 (a.0 + 2 * m + 2 ^ 32 - 4 * k) (omega arith) (omega arith))) (rw e)

  pub jump_not : (jump_sum a disp).0 ≡ 2 ^ 31 → ⊥
  jump_not e = go lies (jump_sum a disp).0 refl e
    where
      go : Lies → (v : ℕ) → v ≡ (jump_sum a disp).0 → v ≡ 2 ^ 31 → ⊥
      go (ahead p q r) v f g = let z : v ≡ a.0 + 2 * m = f ∙ q in omega arith
      go (behind p b q r) v f g = let z : v ≡ a.0 + 2 * m - 4 * k = f ∙ q in omega arith
      go (below p b q r) v f g = let z : v ≡ a.0 + 2 * m + 2 ^ 32 - 4 * k = f ∙ q in omega arith

  pub jump_back : halves_to a (jump_sum a disp).0 ≡ disp
  jump_back = go lies
    where
      go : Lies → halves_to a (jump_sum a disp).0 ≡ disp
      go (ahead p q r) =
          ap (halves_to a) q
          ∙ halves a (a.0 + 2 * m) (2 * m) 2 (signed_of k m) (omega arith) (omega arith) (omega arith) (rw (r, lt-leb (2 ^ 31) (2 * m) (omega arith)) (omega arith))
      go (behind p b q r) =
          ap (halves_to a) q
          ∙ halves a (a.0 + 2 * m - 4 * k) (2 * m + 2 ^ 32 - 4 * k) 1 (signed_of k m) (omega arith) (omega arith) (omega arith)
          (rw (r, le-leb (2 ^ 31) (2 * m + 2 ^ 32 - 4 * k) (omega arith)) (omega arith))
      go (below p b q r) =
          ap (halves_to a) q
          ∙ halves a (a.0 + 2 * m + 2 ^ 32 - 4 * k) (2 * m + 2 ^ 32 - 4 * k) 2 (signed_of k m) (omega arith) (omega arith) (omega arith)
          (rw (r, le-leb (2 ^ 31) (2 * m + 2 ^ 32 - 4 * k) (omega arith)) (omega arith))

-- ---- immediates

pub signed_not : (k m : ℕ) → m < k + k → k ≤ 33554432 → signed_of k m ≡ 2 ^ 31 → ⊥
signed_not k m h l = go (ltb m k) refl
  where
    go : (t : Bool) → ltb m k ≡ t → cond t m (m + 2 ^ 32 - (k + k)) ≡ 2 ^ 31 → ⊥
    go true e f = let q = ltb-true m k e in omega arith
    go false e f = let q = ltb-false m k e in omega arith

-- ---- words after the program counter

module _ (a : ByteAddr) (n : ℕ) (low : a.0 < 65536) (h : n < 256) where
  word_is : (data_address Width.Word a.0 n).0 ≡ a.0 / 4 * 4 + 4 * n
  unfolding data_address
  word_is =
      let z : (a.0 + n * 4) % 2 ^ 32 ≡ a.0 + n * 4 = low_mod (a.0 + n * 4) (omega arith) in
      rw z (omega arith)

  pub word_not : (data_address Width.Word a.0 n).0 ≡ 2 ^ 31 → ⊥
  word_not e = let z : a.0 / 4 * 4 + 4 * n ≡ 2 ^ 31 = sym word_is ∙ e in omega arith

  pub word_back : words_to a (data_address Width.Word a.0 n).0 ≡ n
  unfolding words_to
  word_back =
      let z : difference_of (a.0 / 4 * 4 + 4 * n) (a.0 / 4 * 4) false ≡ 4 * n = wrap_is _ 2 (4 * n) (omega arith) (omega arith) in
      let e : 4 * n / 4 ≡ n = omega arith in
      rw (word_is, eq-eqb ((a.0 / 4 * 4 + 4 * n) % 4) 0 (omega arith), z) e

-- ---- offsets

product_is : (n b : ℕ) → n * b < 2 ^ 32 → product_of n b ≡ n * b
product_is n b h = low_mod (n * b) h

pub offset_not : (w : Width) (n : ℕ) → n < 16 → product_of n (bytes_of w) ≡ 2 ^ 31 → ⊥
offset_not Width.Byte n h e = let z : n * 1 ≡ 2 ^ 31 = sym (product_is n 1 (omega arith)) ∙ e in omega arith
offset_not Width.Half n h e = let z : n * 2 ≡ 2 ^ 31 = sym (product_is n 2 (omega arith)) ∙ e in omega arith
offset_not Width.Word n h e = let z : n * 4 ≡ 2 ^ 31 = sym (product_is n 4 (omega arith)) ∙ e in omega arith

scaled_by : (w : Width) (n : ℕ) → n * bytes_of w < 2 ^ 32 → (n * bytes_of w) % bytes_of w ≡ 0 → n * bytes_of w / bytes_of w ≡ n → scaled w (product_of n (bytes_of w)) ≡ n
unfolding scaled
scaled_by w n h e f = rw (product_is n (bytes_of w) h, eq-eqb ((n * bytes_of w) % bytes_of w) 0 e) f

pub offset_back : (w : Width) (n : ℕ) → n < 16 → scaled w (product_of n (bytes_of w)) ≡ n
offset_back Width.Byte n h = scaled_by Width.Byte n (omega arith) (omega arith) (omega arith)
offset_back Width.Half n h = scaled_by Width.Half n (omega arith) (omega arith) (omega arith)
offset_back Width.Word n h = scaled_by Width.Word n (omega arith) (omega arith) (omega arith)
