-- Bits that decode to an instruction are what it encodes to.
-- Assumes nothing.
use Rattle.std.specs.Prelude.{Some}
use mathlib.Core.Path.{◌≡◌, refl, ◌∙◌, subst}
use mathlib.Core.Bool.{Bool, true, false, ◌&&◌}
use Prim.Native.Nat.{ℕ, ◌+◌, ◌*◌, ◌/◌, ◌%◌, ◌^◌, ◌<◌}
use native.Mathlib.Omega.{arith}
use lib.Dec.{leb, eqb, lit<, lit≤}
use borrow.Author.Tests.{eqb-true, lt-ltb}
use Rattle.word.specs.Numbers.{extend_of}
use Rattle.word.proofs.Numbers.{extend_low, fits_extend}
use Rattle.isa.specs.Codes.{kind_of, shift_no, alu_no, cmp_no, cmp_imm_no, cond_no, cond_imm_no, imm_no, load_no, store_no, short_no, long_no}
use Rattle.isa.specs.Decode.{operands_of, decode_of, short_if, nib_b, nib_c, nib_d, imm8, near_of, far_of}
use Rattle.isa.specs.Encode.{nibs_of, nibs_signed, nibs_byte, nibs_signed_byte, encode_imm, encode_short, encode_long, encode_of}
use Rattle.isa.specs.Statements.{EncodesTo}
use Rattle.isa.specs.declared.ImmOp.{ImmOp}
use Rattle.isa.specs.declared.ShortOp.{ShortOp}
use Rattle.isa.specs.declared.LongOp.{LongOp}
use Rattle.isa.specs.declared.Kind.{Kind}
use Rattle.isa.specs.declared.Instr.{Instr}
use Rattle.isa.specs.declared.Decoded.{Decoded}
use Rattle.isa.specs.declared.Encoded.{Encoded}
use Rattle.isa.proofs.Rows.{and_left, and_right, each_at}

-- the byte n is a then b; and the test that a byte has the code of a kind
abbrev nibbles : ℕ → ℕ → ℕ → Bool
nibbles n a b = eqb (n / 16) a && eqb (n % 16) b

abbrev has_code : Kind → ℕ → Bool
has_code Kind.Nothing n = true
has_code (Kind.Alu op) n = nibbles n 2 (alu_no op)
has_code (Kind.ShiftImm op) n = nibbles n 0 (shift_no op)
has_code (Kind.Cmp op) n = nibbles n 3 (cmp_no op)
has_code (Kind.CmpImm op) n = nibbles n 3 (cmp_imm_no op)
has_code (Kind.Cond op t) n = nibbles n 3 (cond_no op t)
has_code (Kind.CondImm t) n = nibbles n 3 (cond_imm_no t)
has_code Kind.Ldrpc n = eqb (n / 16) 4
has_code (Kind.Imm op) n = eqb (n / 16) (imm_no op)
has_code (Kind.Load w) n = eqb (n / 16) (load_no w)
has_code (Kind.Store w) n = eqb (n / 16) (store_no w)
has_code Kind.Mfsfr n = nibbles n 1 2
has_code Kind.Mtsfr n = nibbles n 1 3
has_code Kind.Jr n = nibbles n 1 12
has_code Kind.Jrl n = nibbles n 1 13
has_code Kind.Jsfr n = nibbles n 1 14
has_code Kind.Swint n = nibbles n 1 0
has_code (Kind.ShortJump op) n = eqb (n / 4) (short_no op)
has_code (Kind.LongJump op) n = eqb (n / 4) (long_no op)

-- computed: all 256 first bytes
byte_code : (n : ℕ) → n < 256 → has_code (kind_of n) n ≡ true
unfolding kind_of
byte_code n h = each_at (λ (m : ℕ). has_code (kind_of m) m) 256 n refl h

if_encodes : (h s : ℕ) (t : Bool) (i : Instr) → (t ≡ true → EncodesTo (Some (Decoded.Short i)) h s) → EncodesTo (short_if t i) h s
if_encodes h s true i f = f refl
if_encodes h s false i f = tt

module _ (h s : ℕ) (hh : h < 65536) (hs : s < 65536) where
  -- a half is its four nibbles
  mem_are : (a : ℕ) → eqb (h / 256 / 16) a ≡ true → nibs_of a (nib_b h) (nib_c h) (nib_d h) ≡ Some (Encoded.Half h)
  unfolding nibs_of
  mem_are a t =
      let ea : h / 256 / 16 ≡ a = eqb-true _ _ t in
      let e : a * 4096 + nib_b h * 256 + nib_c h * 16 + nib_d h ≡ h = omega arith in
      simp (lt-ltb a 16 (omega arith), lt-ltb (nib_b h) 16 (omega arith), lt-ltb (nib_c h) 16 (omega arith), lt-ltb (nib_d h) 16 (omega arith), e)

  nibs_are : (a b : ℕ) → nibbles (h / 256) a b ≡ true → nibs_of a b (nib_c h) (nib_d h) ≡ Some (Encoded.Half h)
  nibs_are a b t =
      let eb : nib_b h ≡ b = eqb-true _ _ (and_right (eqb (h / 256 / 16) a) (eqb (h / 256 % 16) b) t) in
      subst (λ (x : ℕ). nibs_of a x (nib_c h) (nib_d h) ≡ Some (Encoded.Half h)) eb
      (mem_are a (and_left (eqb (h / 256 / 16) a) (eqb (h / 256 % 16) b) t))

  signed_are : (b : ℕ) → nibbles (h / 256) 3 b ≡ true → nibs_signed b (nib_c h) (extend_of 4 (nib_d h)) ≡ Some (Encoded.Half h)
  unfolding nibs_signed
  signed_are b t =
      let e : extend_of 4 (nib_d h) % 2 ^ 4 ≡ nib_d h = extend_low 4 (lit< tt) (lit≤ tt) (nib_d h) ∙ (omega arith) in
      rw (fits_extend 4 (lit< tt) (lit≤ tt) (nib_d h), e) (nibs_are 3 b t)

  byte_are : (a : ℕ) → eqb (h / 256 / 16) a ≡ true → nibs_byte a (nib_c h) (imm8 h) ≡ Some (Encoded.Half h)
  unfolding nibs_byte
  byte_are a t =
      let eb : imm8 h / 16 ≡ nib_b h = omega arith in
      let ed : imm8 h % 16 ≡ nib_d h = omega arith in
      rw (lt-ltb (imm8 h) 256 (omega arith), eb, ed) (mem_are a t)

  signed_byte_are : (a : ℕ) → eqb (h / 256 / 16) a ≡ true → nibs_signed_byte a (nib_c h) (extend_of 8 (imm8 h)) ≡ Some (Encoded.Half h)
  unfolding nibs_signed_byte
  signed_byte_are a t =
      let e : extend_of 8 (imm8 h) % 2 ^ 8 ≡ imm8 h = extend_low 8 (lit< tt) (lit≤ tt) (imm8 h) ∙ (omega arith) in
      rw (fits_extend 8 (lit< tt) (lit≤ tt) (imm8 h), e) (byte_are a t)

  short_are : (op : ShortOp) → eqb (h / 256 / 4) (short_no op) ≡ true → encode_short op (near_of h) ≡ Some (Encoded.Half h)
  unfolding encode_short
  short_are op t =
      let ea : h / 256 / 4 ≡ short_no op = eqb-true _ _ t in
      let e : short_no op * 1024 + h % 2 ^ 10 ≡ h = omega arith in
      rw (fits_extend 10 (lit< tt) (lit≤ tt) h, extend_low 10 (lit< tt) (lit≤ tt) h, e)

  long_are : (op : LongOp) → eqb (h / 256 / 4) (long_no op) ≡ true → encode_long op (far_of h s) ≡ Some (Encoded.Pair h s)
  unfolding encode_long
  long_are op t =
      let n : ℕ = h * 65536 + s in
      let ea : h / 256 / 4 ≡ long_no op = eqb-true _ _ t in
      let e : long_no op * 1024 + n % 2 ^ 26 / 65536 ≡ h = omega arith in
      let es : n % 2 ^ 26 % 65536 ≡ s = omega arith in
      rw (fits_extend 26 (lit< tt) (lit≤ tt) n, extend_low 26 (lit< tt) (lit≤ tt) n, e, es)

  -- bits 7:4 that must be zero
  zero_are : (b : ℕ) → nibbles (h / 256) 1 b ≡ true → eqb (nib_c h) 0 ≡ true → nibs_of 1 b 0 (nib_d h) ≡ Some (Encoded.Half h)
  zero_are b t z = subst (λ (x : ℕ). nibs_of 1 b x (nib_d h) ≡ Some (Encoded.Half h)) (eqb-true (nib_c h) 0 z) (nibs_are 1 b t)

  filled : (k : Kind) → has_code k (h / 256) ≡ true → EncodesTo (operands_of k h s) h s
  unfolding operands_of encode_of encode_imm
  filled Kind.Nothing t = tt
  filled (Kind.Alu op) t = nibs_are 2 (alu_no op) t
  filled (Kind.ShiftImm op) t = nibs_are 0 (shift_no op) t
  filled (Kind.Cmp op) t = nibs_are 3 (cmp_no op) t
  filled (Kind.CmpImm op) t = signed_are (cmp_imm_no op) t
  filled (Kind.Cond op b) t = nibs_are 3 (cond_no op b) t
  filled (Kind.CondImm b) t = signed_are (cond_imm_no b) t
  filled Kind.Ldrpc t = byte_are 4 t
  filled (Kind.Imm ImmOp.And) t = byte_are 5 t
  filled (Kind.Imm ImmOp.Add) t = signed_byte_are 6 t
  filled (Kind.Imm ImmOp.Mov) t = signed_byte_are 7 t
  filled (Kind.Load w) t = mem_are (load_no w) t
  filled (Kind.Store w) t = mem_are (store_no w) t
  filled Kind.Mfsfr t = if_encodes h s (leb (nib_d h) 10) _ λ q. rw q (nibs_are 1 2 t)
  filled Kind.Mtsfr t = if_encodes h s (leb (nib_c h) 10) _ λ q. rw q (nibs_are 1 3 t)
  filled Kind.Jr t = if_encodes h s (eqb (nib_c h) 0) _ λ q. zero_are 12 t q
  filled Kind.Jrl t = if_encodes h s (eqb (nib_c h) 0) _ λ q. zero_are 13 t q
  filled Kind.Jsfr t =
      if_encodes h s (eqb (nib_c h) 0 && leb (nib_d h) 3) _ λ q.
      rw (and_right (eqb (nib_c h) 0) (leb (nib_d h) 3) q) (zero_are 14 t (and_left (eqb (nib_c h) 0) (leb (nib_d h) 3) q))
  filled Kind.Swint t = if_encodes h s (eqb (nib_c h) 0) _ λ q. zero_are 0 t q
  filled (Kind.ShortJump op) t = short_are op t
  filled (Kind.LongJump op) t = long_are op t

  pub encodes : EncodesTo (decode_of h s) h s
  unfolding decode_of
  encodes = filled (kind_of (h / 256)) (byte_code (h / 256) (omega arith))
