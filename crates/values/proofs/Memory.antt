-- Bytes of memory as numbers, and addresses aligned down.
-- Assumes nothing.
use Prim.Native.Nat.{ℕ, zero, suc, ◌+◌, ◌*◌, ◌-◌, ◌/◌, ◌%◌, ◌^◌, ◌≤◌, ◌<◌}
use mathlib.Core.Path.{◌≡◌, sym, ap, subst, ◌∙◌}
use mathlib.Core.List.{List}
use native.Mathlib.Nat.{not-suc-le-zero, div-one, div-div-eq-div-mul, pow-succ', div-mul-le_self, lt-div-mul-add, mul-mod_left, add-mul-mod_self_left, mod-eq_of_lt}
use native.Mathlib.Decide.{ℕ_discrete}
use native.Mathlib.Omega.{arith}
use lib.Dec.{lit<}
use lib.ListN.{length, get_or, set, length-set}
use lib.Seq.{get_or-set_same}
use borrow.Author.Tests.{le-leb}
use Rattle.word.specs.Bytes.{bytes_of, load, store, load_of, store_of}
use Rattle.word.specs.declared.ByteAddr.{ByteAddr}
use Rattle.word.specs.declared.Width.{Width}
use Rattle.word.proofs.Memory.{store_kept}
use Rattle.cpu.specs.Exec.{data_address}
use Rattle.values.specs.Words.{byte_no, Wraps, AlignedDown}

-- ---- loads

module _ (m : List ℕ) (a : ByteAddr) where
  pub byte_loaded : a.0 + 1 ≤ length m → load_of Width.Byte m a ≡ get_or m a.0 0
  unfolding load
  byte_loaded h = let e : a.0 + 0 ≡ a.0 = omega arith in rw (le-leb (a.0 + 1) (length m) h, e) (omega arith)

  pub half_loaded : a.0 + 2 ≤ length m → load_of Width.Half m a ≡ 256 * get_or m a.0 0 + get_or m (a.0 + 1) 0
  unfolding load
  half_loaded h = let e : a.0 + 0 ≡ a.0 = omega arith in rw (le-leb (a.0 + 2) (length m) h, e) (omega arith)

  pub word_loaded : a.0 + 4 ≤ length m
      → load_of Width.Word m a ≡ 2 ^ 24 * get_or m a.0 0 + 2 ^ 16 * get_or m (a.0 + 1) 0 + 2 ^ 8 * get_or m (a.0 + 2) 0 + get_or m (a.0 + 3) 0
  unfolding load
  word_loaded h = let e : a.0 + 0 ≡ a.0 = omega arith in rw (le-leb (a.0 + 4) (length m) h, e) (omega arith)

-- ---- stores

store_byte : (n : ℕ) (m : List ℕ) (a v i : ℕ) → a + n ≤ length m → i < n → get_or (store n m a v) (a + i) 0 ≡ byte_no v (n - 1 - i)
unfolding store
store_byte zero m a v i h l = absurd (not-suc-le-zero l)
store_byte (suc n) m a v i h l =
    let k : List ℕ = set m (a + n) (v % 256) in
    elim (ℕ_discrete i n) [
      | yes e ↦
          let z : suc n - 1 - n ≡ 0 = omega arith in
          rw (e, z)
          (store_kept n k a (v / 256) (a + n) (λ j s q. omega arith)
          ∙ get_or-set_same m (a + n) (v % 256) 0 (omega arith)
          ∙ ap (λ (b : ℕ). b % 256) (sym (div-one v)))
      | no e ↦
          let z : suc n - 1 - i ≡ suc (n - 1 - i) = omega arith in
          let p : 256 * 256 ^ (n - 1 - i) ≡ 256 ^ (suc n - 1 - i) = sym (ap (λ (b : ℕ). 256 ^ b) z ∙ pow-succ' 256 (n - 1 - i)) in
          store_byte n k a (v / 256) i (subst (λ (s : ℕ). a + n ≤ s) (sym (length-set m (a + n) (v % 256))) (omega arith)) (omega arith)
          ∙ ap (λ (b : ℕ). b % 256) (div-div-eq-div-mul v 256 (256 ^ (n - 1 - i)) ∙ ap (λ (b : ℕ). v / b) p)
    ]

pub byte_stored : (w : Width) (m : List ℕ) (a : ByteAddr) (v i : ℕ) → a.0 + bytes_of w ≤ length m → i < bytes_of w
    → get_or (store_of w m a v) (a.0 + i) 0 ≡ byte_no v (bytes_of w - 1 - i)
byte_stored w m a v i h l = rw (le-leb (a.0 + bytes_of w) (length m) h) (store_byte (bytes_of w) m a.0 v i h l)

-- ---- addresses

some : (w : Width) → 0 < bytes_of w
some Width.Byte = lit< tt
some Width.Half = lit< tt
some Width.Word = lit< tt

pub aligned_down : (w : Width) (y n z : ℕ) → Wraps z (y + n * bytes_of w) → AlignedDown (data_address w y n).0 (bytes_of w) z
unfolding data_address
aligned_down w y n z r =
    let k : ℕ = bytes_of w in
    let e : (y + n * k) % 2 ^ 32 ≡ z
    = ap (λ (s : ℕ). s % 2 ^ 32) (sym r.whole) ∙ add-mul-mod_self_left z (2 ^ 32) r.turns ∙ mod-eq_of_lt r.word in
    subst (λ (s : ℕ). AlignedDown (s / k * k) k z) (sym e)
    (record { multiple = mul-mod_left (z / k) k; below = div-mul-le_self z k; last = lt-div-mul-add (some w) })
