-- The theorems of this crate, each with its statement; read this file alone with specs/. The proofs are in the files that it cites.
-- Assumes nothing.
use Rattle.std.specs.Prelude.{None, Option, Some}
use mathlib.Core.Path.{◌≡◌, refl, sym, ap, ◌∙◌, subst}
use mathlib.Core.Bool.{true, false, ◌||◌}
use Prim.Native.Nat.{ℕ, ◌/◌, ◌%◌, ◌≤◌, ◌<◌}
use native.Mathlib.Omega.{arith}
use lib.Dec.{ltb, eqb}
use borrow.Author.Tests.{lt-ltb, le-ltb, eqb-true}
use Rattle.isa.specs.Decode.{decode_of}
use Rattle.isa.specs.Encode.{encode_of}
use Rattle.isa.specs.Range.{in_range}
use Rattle.isa.specs.Statements.{has_bits, DecodesTo, EncodesTo, size_of, low_part, bound_of, named, size_by}
use Rattle.isa.specs.declared.Instr.{Instr}
use Rattle.isa.specs.declared.Decoded.{Decoded}
use Rattle.isa.specs.declared.Encoded.{Encoded}
use Rattle.isa.proofs.Ranges.{exactly}
use Rattle.isa.proofs.Decodes.{decodes}
use Rattle.isa.proofs.Encodes.{encodes}
use Rattle.isa.proofs.Named.{size}
use Rattle.isa.proofs.Rows.{each_at, or_right}

-- 1. An instruction has bits exactly if its fields are in range.
pub bits_exactly_in_range : (i : Instr) → has_bits (encode_of i) ≡ in_range i
bits_exactly_in_range = exactly

pub nothing_exactly_out_of_range : (i : Instr) → in_range i ≡ false → encode_of i ≡ None
nothing_exactly_out_of_range i e = none (encode_of i) (exactly i ∙ e)
  where
    none : (b : Option Encoded) → has_bits b ≡ false → b ≡ None
    none (Some (Encoded.Half h)) p = let z : ◌≡◌ {A = ℕ} 0 1 = cc in absurd (omega arith)
    none (Some (Encoded.Pair h s)) p = let z : ◌≡◌ {A = ℕ} 0 1 = cc in absurd (omega arith)
    none None p = refl

-- 2. Its bits decode to it, and a half that it does not have does not matter.
pub bits_decode : (i : Instr) → DecodesTo (encode_of i) i
bits_decode = decodes

pub half_decodes : (i : Instr) (h : ℕ) → encode_of i ≡ Some (Encoded.Half h) → (s : ℕ) → decode_of h s ≡ Some (Decoded.Short i)
half_decodes i h e = subst (λ (b : Option Encoded). DecodesTo b i) e (decodes i)

pub pair_decodes : (i : Instr) (h s : ℕ) → encode_of i ≡ Some (Encoded.Pair h s) → decode_of h s ≡ Some (Decoded.Long i)
pair_decodes i h s e = subst (λ (b : Option Encoded). DecodesTo b i) e (decodes i)

-- 3. Bits that decode to an instruction are what it encodes to.
pub decoded_encodes : (h s : ℕ) → h < 65536 → s < 65536 → EncodesTo (decode_of h s) h s
decoded_encodes = encodes

pub short_encodes : (h s : ℕ) (i : Instr) → h < 65536 → s < 65536 → decode_of h s ≡ Some (Decoded.Short i) → encode_of i ≡ Some (Encoded.Half h)
short_encodes h s i hh hs e = subst (λ (x : Option Decoded). EncodesTo x h s) e (encodes h s hh hs)

pub long_encodes : (h s : ℕ) (i : Instr) → h < 65536 → s < 65536 → decode_of h s ≡ Some (Decoded.Long i) → encode_of i ≡ Some (Encoded.Pair h s)
long_encodes h s i hh hs e = subst (λ (x : Option Decoded). EncodesTo x h s) e (encodes h s hh hs)

-- 4. Two instructions never share bits ..
pub instructions_share_no_bits : (i j : Instr) → has_bits (encode_of i) ≡ true → encode_of i ≡ encode_of j → i ≡ j
instructions_share_no_bits i j t e = go (encode_of i) refl (encode_of j) refl
  where
    go : (b : Option Encoded) → encode_of i ≡ b → (d : Option Encoded) → encode_of j ≡ d → i ≡ j
    go (Some (Encoded.Half h)) p d q =
        let a : decode_of h 0 ≡ Some (Decoded.Short i) = half_decodes i h p 0 in
        let b : decode_of h 0 ≡ Some (Decoded.Short j) = half_decodes j h (sym e ∙ p) 0 in
        cc
    go (Some (Encoded.Pair h s)) p d q =
        let a : decode_of h s ≡ Some (Decoded.Long i) = pair_decodes i h s p in
        let b : decode_of h s ≡ Some (Decoded.Long j) = pair_decodes j h s (sym e ∙ p) in
        cc
    go None p d q =
        let f : has_bits None ≡ true = subst (λ (x : Option Encoded). has_bits x ≡ true) p t in
        let z : ◌≡◌ {A = ℕ} 0 1 = cc in absurd (omega arith)

-- .. and two bit patterns never share an instruction: not two short ones, not two long ones, not one of each.
module _ (h s k t : ℕ) (i : Instr) (hh : h < 65536) (hs : s < 65536) (hk : k < 65536) (ht : t < 65536) where
  pub one_short_pattern : decode_of h s ≡ Some (Decoded.Short i) → decode_of k t ≡ Some (Decoded.Short i) → h ≡ k
  one_short_pattern p q = let a = short_encodes h s i hh hs p in let b = short_encodes k t i hk ht q in cc

  pub one_long_pattern : decode_of h s ≡ Some (Decoded.Long i) → decode_of k t ≡ Some (Decoded.Long i) → (h ≡ k) × (s ≡ t)
  one_long_pattern p q = let a = long_encodes h s i hh hs p in let b = long_encodes k t i hk ht q in (cc, cc)

  pub one_size : decode_of h s ≡ Some (Decoded.Short i) → decode_of k t ≡ Some (Decoded.Long i) → ⊥
  one_size p q =
      let a = short_encodes h s i hh hs p in
      let b = long_encodes k t i hk ht q in
      let z : ◌≡◌ {A = ℕ} 0 1 = cc in omega arith

-- 5. The first half alone decides whether there is an instruction, and its size.
pub size_by_first_half : (h s : ℕ) → h < 65536 → size_of (decode_of h s) ≡ size_by h
size_by_first_half = size

-- 6. A pattern that is not named is no instruction ..
pub unnamed_is_nothing : (h s : ℕ) → h < 65536 → named h ≡ false → decode_of h s ≡ None
unnamed_is_nothing h s hh e = none (decode_of h s) (size h s hh ∙ rw e)
  where
    none : (x : Option Decoded) → size_of x ≡ 0 → x ≡ None
    none (Some (Decoded.Short i)) p = absurd (omega arith)
    none (Some (Decoded.Long i)) p = absurd (omega arith)
    none None p = refl

-- .. so nothing from 0xfc00 on is one, nor is udi0 to udi3, nor mfsfr or mtsfr of SFR 11 to 15.
module _ (h s : ℕ) (hh : h < 65536) where
  unbound : bound_of (h / 256) ≡ 0 → decode_of h s ≡ None
  unbound e = unnamed_is_nothing h s hh (ap (ltb (low_part (h / 256) h)) e ∙ le-ltb (low_part (h / 256) h) 0 (omega arith))

  pub none_from_fc00 : 0xfc00 ≤ h → decode_of h s ≡ None
  none_from_fc00 l =
      let a : 0xfc ≤ h / 256 = omega arith in
      let b = each_at (λ (n : ℕ). ltb n 0xfc || eqb (bound_of n) 0) 256 (h / 256) refl (omega arith) in
      unbound (eqb-true (bound_of (h / 256)) 0 (or_right (ltb (h / 256) 0xfc) (eqb (bound_of (h / 256)) 0) b (le-ltb (h / 256) 0xfc a)))

  pub none_of_udi : 0x0800 ≤ h → h < 0x0c00 → decode_of h s ≡ None
  none_of_udi l u = unbound (rw (lt-ltb (h / 256) 0x0c (omega arith)))

  pub none_of_mfsfr : h / 256 ≡ 0x12 → 10 < h % 16 → decode_of h s ≡ None
  none_of_mfsfr e l = unnamed_is_nothing h s hh (rw e (le-ltb (h % 16) 11 l))

  pub none_of_mtsfr : h / 256 ≡ 0x13 → 10 < h / 16 % 16 → decode_of h s ≡ None
  none_of_mtsfr e l = unnamed_is_nothing h s hh (rw e (le-ltb (h % 256) 0xb0 (omega arith)))
