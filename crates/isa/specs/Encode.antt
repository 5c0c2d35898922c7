-- The bits of an instruction: "The encoder answers 'no instruction', with no bits, exactly if a field is out of its range" (document 01).
-- Sources: the columns of the guide's instruction tables; document 01, "Instructions".
-- Assumes nothing.
use Rattle.std.specs.Prelude.{ℕ, ◌+◌, ◌*◌, ◌/◌, ◌%◌, ◌^◌, Bool, cond, ◌&&◌, ltb, leb, None, Option, Some}
use Rattle.word.specs.Numbers.{fits_of}
use Rattle.word.specs.declared.HalfDisp.{HalfDisp}
use Rattle.isa.specs.Codes.{shift_no, alu_no, cmp_no, cmp_imm_no, cond_no, cond_imm_no, imm_no, load_no, store_no, short_no, long_no}
use Rattle.isa.specs.declared.ImmOp.{ImmOp}
use Rattle.isa.specs.declared.ShortOp.{ShortOp}
use Rattle.isa.specs.declared.LongOp.{LongOp}
use Rattle.isa.specs.declared.Instr.{Instr}
use Rattle.isa.specs.declared.Encoded.{Encoded}

abbrev pub only : Bool → Option Encoded → Option Encoded
only t x = cond t x None

-- four nibbles
unfoldable pub nibs_of : ℕ → ℕ → ℕ → ℕ → Option Encoded
nibs_of a b c d =
    only (ltb a 16 && ltb b 16 && ltb c 16 && ltb d 16) (Some (Encoded.Half (a * 4096 + b * 256 + c * 16 + d)))

-- 0x3?, a register, and a signed number of four bits
unfoldable pub nibs_signed : ℕ → ℕ → ℕ → Option Encoded
nibs_signed b c x = only (fits_of 4 x) (nibs_of 3 b c (x % 2 ^ 4))

-- a register, and an immediate of eight bits round it, unsigned or signed
unfoldable pub nibs_byte : ℕ → ℕ → ℕ → Option Encoded
nibs_byte a c n = only (ltb n 256) (nibs_of a (n / 16) c (n % 16))

unfoldable pub nibs_signed_byte : ℕ → ℕ → ℕ → Option Encoded
nibs_signed_byte a c x = only (fits_of 8 x) (nibs_byte a c (x % 2 ^ 8))

unfoldable pub encode_imm : ImmOp → ℕ → ℕ → Option Encoded
encode_imm ImmOp.And c x = nibs_byte (imm_no ImmOp.And) c x
encode_imm ImmOp.Add c x = nibs_signed_byte (imm_no ImmOp.Add) c x
encode_imm ImmOp.Mov c x = nibs_signed_byte (imm_no ImmOp.Mov) c x

unfoldable pub encode_short : ShortOp → HalfDisp → Option Encoded
encode_short op d = only (fits_of 10 d.0) (Some (Encoded.Half (short_no op * 1024 + d.0 % 2 ^ 10)))

unfoldable pub encode_long : LongOp → HalfDisp → Option Encoded
encode_long op d = only (fits_of 26 d.0) (Some (Encoded.Pair (long_no op * 1024 + d.0 % 2 ^ 26 / 65536) (d.0 % 2 ^ 26 % 65536)))

unfoldable pub encode_of : Instr → Option Encoded
encode_of (Instr.Alu op c d) = nibs_of 2 (alu_no op) c d
encode_of (Instr.ShiftImm op c d) = nibs_of 0 (shift_no op) c d
encode_of (Instr.Cmp op c d) = nibs_of 3 (cmp_no op) c d
encode_of (Instr.CmpImm op c x) = nibs_signed (cmp_imm_no op) c x
encode_of (Instr.Cond op t c d) = nibs_of 3 (cond_no op t) c d
encode_of (Instr.CondImm t c x) = nibs_signed (cond_imm_no t) c x
encode_of (Instr.Ldrpc c n) = nibs_byte 4 c n
encode_of (Instr.Imm op c x) = encode_imm op c x
encode_of (Instr.Load w c b d) = nibs_of (load_no w) b c d
encode_of (Instr.Store w c b d) = nibs_of (store_no w) b c d
encode_of (Instr.Mfsfr c d) = only (leb d 10) (nibs_of 1 2 c d)
encode_of (Instr.Mtsfr c d) = only (leb c 10) (nibs_of 1 3 c d)
encode_of (Instr.Jr d) = nibs_of 1 12 0 d
encode_of (Instr.Jrl d) = nibs_of 1 13 0 d
encode_of (Instr.Jsfr d) = only (leb d 3) (nibs_of 1 14 0 d)
encode_of (Instr.Swint d) = nibs_of 1 0 0 d
encode_of (Instr.ShortJump op d) = encode_short op d
encode_of (Instr.LongJump op d) = encode_long op d
