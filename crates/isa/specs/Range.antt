-- Which fields are in range: what document 01 and the guide's "Instruction Types" allow in each operand.
-- Assumes nothing.
use Rattle.std.specs.Prelude.{ℕ, Bool, ◌&&◌, ltb, leb}
use Rattle.word.specs.Numbers.{fits_of}
use Rattle.isa.specs.declared.ImmOp.{ImmOp}
use Rattle.isa.specs.declared.Instr.{Instr}

-- a register, and UIMM4, are below 16
abbrev pub nib : ℕ → Bool
nib n = ltb n 16

abbrev pub imm_in : ImmOp → ℕ → Bool
imm_in ImmOp.And x = ltb x 256
imm_in ImmOp.Add x = fits_of 8 x
imm_in ImmOp.Mov x = fits_of 8 x

unfoldable pub in_range : Instr → Bool
in_range (Instr.Alu op c d) = nib c && nib d
in_range (Instr.ShiftImm op c d) = nib c && nib d
in_range (Instr.Cmp op c d) = nib c && nib d
in_range (Instr.CmpImm op c x) = fits_of 4 x && nib c
in_range (Instr.Cond op t c d) = nib c && nib d
in_range (Instr.CondImm t c x) = fits_of 4 x && nib c
in_range (Instr.Ldrpc c n) = ltb n 256 && nib c
in_range (Instr.Imm op c x) = imm_in op x && nib c
in_range (Instr.Load w c b d) = nib b && nib c && nib d
in_range (Instr.Store w c b d) = nib b && nib c && nib d
in_range (Instr.Mfsfr c d) = leb d 10 && nib c
in_range (Instr.Mtsfr c d) = leb c 10 && nib d
in_range (Instr.Jr d) = nib d
in_range (Instr.Jrl d) = nib d
in_range (Instr.Jsfr d) = leb d 3
in_range (Instr.Swint d) = nib d
in_range (Instr.ShortJump op d) = fits_of 10 d.0
in_range (Instr.LongJump op d) = fits_of 26 d.0
