-- What two halves mean: the kind of the first byte, and the operands of that kind.
-- Sources: the columns of the guide's instruction tables; document 01, "Instructions".
-- Assumes nothing.
use Rattle.std.specs.Prelude.{ℕ, ◌+◌, ◌*◌, ◌/◌, ◌%◌, Bool, cond, ◌&&◌, leb, eqb, None, Option, Some}
use Rattle.word.specs.Numbers.{extend_of}
use Rattle.word.specs.declared.HalfDisp.{HalfDisp}
use Rattle.isa.specs.Codes.{kind_of}
use Rattle.isa.specs.declared.ImmOp.{ImmOp}
use Rattle.isa.specs.declared.Kind.{Kind}
use Rattle.isa.specs.declared.Instr.{Instr}
use Rattle.isa.specs.declared.Decoded.{Decoded}

-- bits 11:8, 7:4 and 3:0 of a half, and the immediate of eight bits that stands in the first and the last of them
abbrev pub nib_b : ℕ → ℕ
nib_b h = h / 256 % 16

abbrev pub nib_c : ℕ → ℕ
nib_c h = h / 16 % 16

abbrev pub nib_d : ℕ → ℕ
nib_d h = h % 16

abbrev pub imm8 : ℕ → ℕ
imm8 h = nib_b h * 16 + nib_d h

-- andi zero extends, addi and movi sign extend
abbrev pub imm_of : ImmOp → ℕ → ℕ
imm_of ImmOp.And n = n
imm_of ImmOp.Add n = extend_of 8 n
imm_of ImmOp.Mov n = extend_of 8 n

-- "a signed 10-bit displacement", and one "with 26 bits over both halves"
abbrev pub near_of : ℕ → HalfDisp
near_of h = record { 0 = extend_of 10 h }

abbrev pub far_of : ℕ → ℕ → HalfDisp
far_of h s = record { 0 = extend_of 26 (h * 65536 + s) }

-- "bits without a meaning are zero": an instruction of two bytes, or none where they are not
abbrev pub short_if : Bool → Instr → Option Decoded
short_if t i = cond t (Some (Decoded.Short i)) None

unfoldable pub operands_of : Kind → ℕ → ℕ → Option Decoded
operands_of Kind.Nothing h s = None
operands_of (Kind.Alu op) h s = Some (Decoded.Short (Instr.Alu op (nib_c h) (nib_d h)))
operands_of (Kind.ShiftImm op) h s = Some (Decoded.Short (Instr.ShiftImm op (nib_c h) (nib_d h)))
operands_of (Kind.Cmp op) h s = Some (Decoded.Short (Instr.Cmp op (nib_c h) (nib_d h)))
operands_of (Kind.CmpImm op) h s = Some (Decoded.Short (Instr.CmpImm op (nib_c h) (extend_of 4 (nib_d h))))
operands_of (Kind.Cond op t) h s = Some (Decoded.Short (Instr.Cond op t (nib_c h) (nib_d h)))
operands_of (Kind.CondImm t) h s = Some (Decoded.Short (Instr.CondImm t (nib_c h) (extend_of 4 (nib_d h))))
operands_of Kind.Ldrpc h s = Some (Decoded.Short (Instr.Ldrpc (nib_c h) (imm8 h)))
operands_of (Kind.Imm op) h s = Some (Decoded.Short (Instr.Imm op (nib_c h) (imm_of op (imm8 h))))
operands_of (Kind.Load w) h s = Some (Decoded.Short (Instr.Load w (nib_c h) (nib_b h) (nib_d h)))
operands_of (Kind.Store w) h s = Some (Decoded.Short (Instr.Store w (nib_c h) (nib_b h) (nib_d h)))
operands_of Kind.Mfsfr h s = short_if (leb (nib_d h) 10) (Instr.Mfsfr (nib_c h) (nib_d h))
operands_of Kind.Mtsfr h s = short_if (leb (nib_c h) 10) (Instr.Mtsfr (nib_c h) (nib_d h))
operands_of Kind.Jr h s = short_if (eqb (nib_c h) 0) (Instr.Jr (nib_d h))
operands_of Kind.Jrl h s = short_if (eqb (nib_c h) 0) (Instr.Jrl (nib_d h))
operands_of Kind.Jsfr h s = short_if (eqb (nib_c h) 0 && leb (nib_d h) 3) (Instr.Jsfr (nib_d h))
operands_of Kind.Swint h s = short_if (eqb (nib_c h) 0) (Instr.Swint (nib_d h))
operands_of (Kind.ShortJump op) h s = Some (Decoded.Short (Instr.ShortJump op (near_of h)))
operands_of (Kind.LongJump op) h s = Some (Decoded.Long (Instr.LongJump op (far_of h s)))

unfoldable pub decode_of : ℕ → ℕ → Option Decoded
decode_of h s = operands_of (kind_of (h / 256)) h s
