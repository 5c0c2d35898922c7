-- Each kind of instruction, written and assembled again.
-- Assumes nothing.
use Rattle.std.specs.Prelude.{None, Option, Some}
use Prim.Native.Nat.{ℕ, ◌+◌, ◌*◌, ◌%◌, ◌^◌, ◌<◌}
use mathlib.Core.Path.{◌≡◌, refl, subst}
use mathlib.Core.Bool.{Bool, true, false, ◌&&◌}
use mathlib.Core.List.{List, ◌∷◌, ◌++◌}
use native.Mathlib.Omega.{arith}
use lib.Dec.{leb, eqb}
use lib.IntN.{pos}
use lib.ListN.{length}
use borrow.Author.Tests.{leb-true}
use Rattle.word.specs.Numbers.{signed_of}
use Rattle.word.specs.Addresses.{jump_sum}
use Rattle.word.specs.declared.ByteAddr.{ByteAddr}
use Rattle.word.specs.declared.HalfDisp.{HalfDisp}
use Rattle.isa.specs.Decode.{operands_of, nib_b, nib_c, nib_d, imm8, imm_of, short_if}
use Rattle.isa.specs.Encode.{encode_of}
use Rattle.isa.specs.declared.ImmOp.{ImmOp}
use Rattle.isa.specs.declared.Kind.{Kind}
use Rattle.isa.specs.declared.Instr.{Instr}
use Rattle.isa.specs.declared.Decoded.{Decoded}
use Rattle.isa.specs.declared.Encoded.{Encoded}
use Rattle.isa.proofs.Rows.{and_right}
use Rattle.listing.specs.Listing.{row_of, row_text}
use Rattle.listing.specs.declared.Operand.{Operand}
use Rattle.listing.specs.declared.Row.{Row}
use Rattle.listing.proofs.Fits.{nibble_lt, imm_lt, wrap_lt, word_lt}
use Rattle.columns.proofs.Plain.{is_plain}
use Rattle.columns.proofs.Bits.{field_text}
use Rattle.expr.specs.Expr.{Labels}
use Rattle.expr.specs.Value.{signed_word}
use Rattle.forms.specs.Form.{shape, kind_shape, shape_of}
use Rattle.forms.specs.Says.{bits_of, says_of, bits_said, bits_at}
use Rattle.asm.specs.Assemble.{sum_at}
use Rattle.forms.specs.declared.What.{What}
use Rattle.forms.specs.declared.Sort.{Sort}
use Rattle.reassembly.specs.Lines.{number_in}
use Rattle.reassembly.proofs.Numbers.{says_value, bits_signed}
use Rattle.reassembly.proofs.Targets.{jump_not, jump_back, signed_not, word_not, word_back, offset_not, offset_back}
use Rattle.reassembly.proofs.Shapes.{Back, register, sfr, low_sfr, sum, number_says, back_one, back_two, back_three}

module _ (t : Labels) (a : ByteAddr) (nm : List ℕ) (hn : is_plain nm ≡ true) where
  abbrev row : Kind → Row → Option Encoded → Type 0
  row k r d = Back t a (What.Code k) (9 ∷ (nm ++ row_text r)) (number_in r) d

  abbrev said : Kind → ℕ → ℕ → ℕ → ℕ → Option Encoded
  said k x y z v = bits_said (says_of k a x y z v)

  -- by the sorts of their operands
  registers : (k : Kind) (c e : ℕ) → c < 16 → e < 16 → kind_shape k ≡ shape 2 Sort.Reg Sort.Reg Sort.Nothing
      → row k (Row.Two (Operand.Reg c) (Operand.Reg e)) (said k c e 0 0)
  unfolding shape_of sum_at bits_at bits_of
  registers k c e i j q =
      back_two t a (What.Code k) _ nm hn 2 (pos 0) 0 0 refl (Operand.Reg c) Sort.Reg c (register c i) (Operand.Reg e) Sort.Reg e (register e j) q refl refl

  with_number : (k : Kind) (c n : ℕ) → c < 16 → n < 2 ^ 32 → (n ≡ 2 ^ 31 → ⊥) → kind_shape k ≡ shape 2 Sort.Reg Sort.Sum Sort.Nothing
      → row k (Row.Two (Operand.Reg c) (Operand.Number n)) (said k c 0 0 n)
  unfolding shape_of sum_at bits_at
  with_number k c n i j f q =
      let s = number_says n j f in
      back_two t a (What.Code k) _ nm hn 2 (signed_word n) (length (field_text (Operand.Number n))) n (bits_signed n j)
      (Operand.Reg c) Sort.Reg c (register c i) (Operand.Number n) Sort.Sum 0 (sum _ _ s) q (says_value _ _ s t) refl

  only_number : (k : Kind) (z n : ℕ) → n < 2 ^ 32 → (n ≡ 2 ^ 31 → ⊥) → kind_shape k ≡ shape z Sort.Sum Sort.Nothing Sort.Nothing
      → row k (Row.One (Operand.Number n)) (said k 0 0 0 n)
  unfolding shape_of sum_at bits_at
  only_number k z n j f q =
      let s = number_says n j f in
      back_one t a (What.Code k) _ nm hn z (signed_word n) (length (field_text (Operand.Number n))) n (bits_signed n j)
      (Operand.Number n) Sort.Sum 0 (sum _ _ s) q (says_value _ _ s t) refl

  access : (k : Kind) (c n e : ℕ) → c < 16 → n < 2 ^ 32 → (n ≡ 2 ^ 31 → ⊥) → e < 16 → kind_shape k ≡ shape 2 Sort.Reg Sort.Sum Sort.Reg
      → row k (Row.Three (Operand.Reg c) (Operand.Number n) (Operand.Reg e)) (said k c 0 e n)
  unfolding shape_of sum_at bits_at
  access k c n e i j f l q =
      let s = number_says n j f in
      back_three t a (What.Code k) _ nm hn 2 (signed_word n) (length (field_text (Operand.Number n))) n (bits_signed n j)
      (Operand.Reg c) Sort.Reg c (register c i) (Operand.Number n) Sort.Sum 0 (sum _ _ s) (Operand.Reg e) Sort.Reg e (register e l)
      q (says_value _ _ s t) refl

  only_register : (k : Kind) (e : ℕ) → e < 16 → kind_shape k ≡ shape 2 Sort.Reg Sort.Nothing Sort.Nothing
      → row k (Row.One (Operand.Reg e)) (said k e 0 0 0)
  unfolding shape_of sum_at bits_at bits_of
  only_register k e i q = back_one t a (What.Code k) _ nm hn 2 (pos 0) 0 0 refl (Operand.Reg e) Sort.Reg e (register e i) q refl refl

  from_sfr : (k : Kind) (c e : ℕ) → c < 16 → e < 11 → kind_shape k ≡ shape 2 Sort.Reg Sort.Sfr Sort.Nothing
      → row k (Row.Two (Operand.Reg c) (Operand.Sfr e)) (said k c e 0 0)
  unfolding shape_of sum_at bits_at bits_of
  from_sfr k c e i j q =
      back_two t a (What.Code k) _ nm hn 2 (pos 0) 0 0 refl (Operand.Reg c) Sort.Reg c (register c i) (Operand.Sfr e) Sort.Sfr e (sfr e j) q refl refl

  to_sfr : (k : Kind) (c e : ℕ) → c < 11 → e < 16 → kind_shape k ≡ shape 2 Sort.Sfr Sort.Reg Sort.Nothing
      → row k (Row.Two (Operand.Sfr c) (Operand.Reg e)) (said k c e 0 0)
  unfolding shape_of sum_at bits_at bits_of
  to_sfr k c e i j q =
      back_two t a (What.Code k) _ nm hn 2 (pos 0) 0 0 refl (Operand.Sfr c) Sort.Sfr c (sfr c i) (Operand.Reg e) Sort.Reg e (register e j) q refl refl

  only_sfr : (k : Kind) (e : ℕ) → e < 4 → kind_shape k ≡ shape 2 Sort.LowSfr Sort.Nothing Sort.Nothing
      → row k (Row.One (Operand.Sfr e)) (said k e 0 0 0)
  unfolding shape_of sum_at bits_at bits_of
  only_sfr k e i q = back_one t a (What.Code k) _ nm hn 2 (pos 0) 0 0 refl (Operand.Sfr e) Sort.LowSfr e (low_sfr e i) q refl refl

  -- ---- by kind

  abbrev pub BackIf : Kind → Option Decoded → Type 0
  BackIf k (Some (Decoded.Short i)) = row k (row_of a i) (encode_of i)
  BackIf k (Some (Decoded.Long i)) = row k (row_of a i) (encode_of i)
  BackIf k None = Unit {0}

  if_back : (b : Bool) (k : Kind) (i : Instr) → (b ≡ true → row k (row_of a i) (encode_of i)) → BackIf k (short_if b i)
  if_back true k i f = f refl
  if_back false k i f = tt

  imm_not : (op : ImmOp) (h : ℕ) → imm_of op (imm8 h) ≡ 2 ^ 31 → ⊥
  imm_not ImmOp.And h e = omega arith
  imm_not ImmOp.Add h e = signed_not 128 (imm8 h % 256) (omega arith) (omega arith) e
  imm_not ImmOp.Mov h e = signed_not 128 (imm8 h % 256) (omega arith) (omega arith) e

  module _ (low : a.0 < 65536) (h s : ℕ) where
    pub back : (k : Kind) → BackIf k (operands_of k h s)
    unfolding operands_of row_of kind_shape says_of bits_said
    back Kind.Nothing = tt
    back (Kind.Alu op) = registers (Kind.Alu op) (nib_c h) (nib_d h) (omega arith) (omega arith) refl
    back (Kind.ShiftImm op) = with_number (Kind.ShiftImm op) (nib_c h) (nib_d h) (omega arith) (omega arith) (λ e. omega arith) refl
    back (Kind.Cmp op) = registers (Kind.Cmp op) (nib_c h) (nib_d h) (omega arith) (omega arith) refl
    back (Kind.CmpImm op) = with_number (Kind.CmpImm op) (nib_c h) _ (omega arith) (nibble_lt (nib_d h)) (signed_not 8 (nib_d h % 16) (omega arith) (omega arith)) refl
    back (Kind.Cond op b) = registers (Kind.Cond op b) (nib_c h) (nib_d h) (omega arith) (omega arith) refl
    back (Kind.CondImm b) = with_number (Kind.CondImm b) (nib_c h) _ (omega arith) (nibble_lt (nib_d h)) (signed_not 8 (nib_d h % 16) (omega arith) (omega arith)) refl
    back Kind.Ldrpc =
        let i : imm8 h < 256 = omega arith in
        subst (λ (n : ℕ). row Kind.Ldrpc (row_of a (Instr.Ldrpc (nib_c h) (imm8 h))) (encode_of (Instr.Ldrpc (nib_c h) n))) (word_back a (imm8 h) low i)
        (with_number Kind.Ldrpc (nib_c h) _ (omega arith) (word_lt a.0 (imm8 h)) (word_not a (imm8 h) low i) refl)
    back (Kind.Imm op) = with_number (Kind.Imm op) (nib_c h) _ (omega arith) (imm_lt op h) (imm_not op h) refl
    back (Kind.Load w) =
        let i : nib_b h < 16 = omega arith in
        subst (λ (n : ℕ). row (Kind.Load w) (row_of a (Instr.Load w (nib_c h) (nib_b h) (nib_d h))) (encode_of (Instr.Load w (nib_c h) n (nib_d h)))) (offset_back w (nib_b h) i)
        (access (Kind.Load w) (nib_c h) _ (nib_d h) (omega arith) (wrap_lt _) (offset_not w (nib_b h) i) (omega arith) refl)
    back (Kind.Store w) =
        let i : nib_b h < 16 = omega arith in
        subst (λ (n : ℕ). row (Kind.Store w) (row_of a (Instr.Store w (nib_c h) (nib_b h) (nib_d h))) (encode_of (Instr.Store w (nib_c h) n (nib_d h)))) (offset_back w (nib_b h) i)
        (access (Kind.Store w) (nib_c h) _ (nib_d h) (omega arith) (wrap_lt _) (offset_not w (nib_b h) i) (omega arith) refl)
    back Kind.Mfsfr =
        if_back (leb (nib_d h) 10) Kind.Mfsfr (Instr.Mfsfr (nib_c h) (nib_d h))
        λ e. let i = leb-true (nib_d h) 10 e in from_sfr Kind.Mfsfr (nib_c h) (nib_d h) (omega arith) (omega arith) refl
    back Kind.Mtsfr =
        if_back (leb (nib_c h) 10) Kind.Mtsfr (Instr.Mtsfr (nib_c h) (nib_d h))
        λ e. let i = leb-true (nib_c h) 10 e in to_sfr Kind.Mtsfr (nib_c h) (nib_d h) (omega arith) (omega arith) refl
    back Kind.Jr = if_back (eqb (nib_c h) 0) Kind.Jr (Instr.Jr (nib_d h)) λ e. only_register Kind.Jr (nib_d h) (omega arith) refl
    back Kind.Jrl = if_back (eqb (nib_c h) 0) Kind.Jrl (Instr.Jrl (nib_d h)) λ e. only_register Kind.Jrl (nib_d h) (omega arith) refl
    back Kind.Jsfr =
        if_back (eqb (nib_c h) 0 && leb (nib_d h) 3) Kind.Jsfr (Instr.Jsfr (nib_d h))
        λ e. let i = leb-true (nib_d h) 3 (and_right (eqb (nib_c h) 0) (leb (nib_d h) 3) e) in only_sfr Kind.Jsfr (nib_d h) (omega arith) refl
    back Kind.Swint =
        if_back (eqb (nib_c h) 0) Kind.Swint (Instr.Swint (nib_d h))
        λ e. only_number Kind.Swint 2 (nib_d h) (omega arith) (λ q. omega arith) refl
    back (Kind.ShortJump op) =
        let i : h % 1024 < 512 + 512 = omega arith in
        subst (λ (x : HalfDisp). row (Kind.ShortJump op) (Row.One (Operand.Number (jump_sum a (record { 0 = signed_of 512 (h % 1024) })).0)) (encode_of (Instr.ShortJump op x)))
        (jump_back a 512 (h % 1024) low i (omega arith))
        (only_number (Kind.ShortJump op) 2 _ (wrap_lt _) (jump_not a 512 (h % 1024) low i (omega arith)) refl)
    back (Kind.LongJump op) =
        let m : ℕ = (h * 65536 + s) % 67108864 in
        let i : m < 33554432 + 33554432 = omega arith in
        subst (λ (x : HalfDisp). row (Kind.LongJump op) (Row.One (Operand.Number (jump_sum a (record { 0 = signed_of 33554432 m })).0)) (encode_of (Instr.LongJump op x)))
        (jump_back a 33554432 m low i (omega arith))
        (only_number (Kind.LongJump op) 4 _ (wrap_lt _) (jump_not a 33554432 m low i (omega arith)) refl)
