-- The guide's opcode map: which kind a first byte is (the rows), and beside each row the code that each of its kinds has (the numbers).
-- Sources: the guide's instruction tables; document 01, "Instructions", for the jumps, jr and jrl; docs/DECISIONS.md where they differ.
-- Assumes nothing.
use Rattle.std.specs.Prelude.{ℕ, ◌-◌, ◌/◌, ◌%◌, Bool, true, false, cond, List, [], ◌∷◌, ltb, get_or}
use Rattle.word.specs.declared.Width.{Width}
use Rattle.isa.specs.declared.AluOp.{AluOp}
use Rattle.isa.specs.declared.ShiftOp.{ShiftOp}
use Rattle.isa.specs.declared.CmpOp.{CmpOp}
use Rattle.isa.specs.declared.CmpImmOp.{CmpImmOp}
use Rattle.isa.specs.declared.CondOp.{CondOp}
use Rattle.isa.specs.declared.ImmOp.{ImmOp}
use Rattle.isa.specs.declared.ShortOp.{ShortOp}
use Rattle.isa.specs.declared.LongOp.{LongOp}
use Rattle.isa.specs.declared.Kind.{Kind}

-- what stands at a place of a row; past its end, nothing
abbrev pub kind_in : List Kind → ℕ → Kind
kind_in row b = get_or row b Kind.Nothing

-- 0x0?: "Multiply and Shift Instructions", by an immediate; 0x08 to 0x0b are udi0 to udi3, which are not built
abbrev pub shift_row : List Kind
shift_row =
    Kind.Nothing ∷ Kind.Nothing ∷ Kind.Nothing ∷ Kind.Nothing
    ∷ Kind.Nothing ∷ Kind.Nothing ∷ Kind.Nothing ∷ Kind.Nothing
    ∷ Kind.Nothing ∷ Kind.Nothing ∷ Kind.Nothing ∷ Kind.Nothing
    ∷ Kind.ShiftImm ShiftOp.Lsl ∷ Kind.ShiftImm ShiftOp.Lsr ∷ Kind.ShiftImm ShiftOp.Asr ∷ Kind.ShiftImm ShiftOp.Mult ∷ []

abbrev pub shift_no : ShiftOp → ℕ
shift_no ShiftOp.Lsl = 0xc
shift_no ShiftOp.Lsr = 0xd
shift_no ShiftOp.Asr = 0xe
shift_no ShiftOp.Mult = 0xf

-- 0x1?: Appendix B's pages of swint, mfsfr, mtsfr, jr, jrl and jsfr, as document 01 says
abbrev pub system_row : List Kind
system_row =
    Kind.Swint ∷ Kind.Nothing ∷ Kind.Mfsfr ∷ Kind.Mtsfr
    ∷ Kind.Nothing ∷ Kind.Nothing ∷ Kind.Nothing ∷ Kind.Nothing
    ∷ Kind.Nothing ∷ Kind.Nothing ∷ Kind.Nothing ∷ Kind.Nothing
    ∷ Kind.Jr ∷ Kind.Jrl ∷ Kind.Jsfr ∷ Kind.Nothing ∷ []

-- 0x2?: "ALU Instructions", RR form, and the shifts and multiply by a register
abbrev pub alu_row : List Kind
alu_row =
    Kind.Alu AluOp.Sub ∷ Kind.Alu AluOp.Add ∷ Kind.Alu AluOp.Subc ∷ Kind.Alu AluOp.Addc
    ∷ Kind.Alu AluOp.Mov ∷ Kind.Alu AluOp.And ∷ Kind.Alu AluOp.Or ∷ Kind.Alu AluOp.Xor
    ∷ Kind.Alu AluOp.Sxb ∷ Kind.Alu AluOp.Xhw ∷ Kind.Alu AluOp.Sxh ∷ Kind.Alu AluOp.Zxh
    ∷ Kind.Alu AluOp.Lsl ∷ Kind.Alu AluOp.Lsr ∷ Kind.Alu AluOp.Asr ∷ Kind.Alu AluOp.Mult ∷ []

abbrev pub alu_no : AluOp → ℕ
alu_no AluOp.Sub = 0x0
alu_no AluOp.Add = 0x1
alu_no AluOp.Subc = 0x2
alu_no AluOp.Addc = 0x3
alu_no AluOp.Mov = 0x4
alu_no AluOp.And = 0x5
alu_no AluOp.Or = 0x6
alu_no AluOp.Xor = 0x7
alu_no AluOp.Sxb = 0x8
alu_no AluOp.Xhw = 0x9
alu_no AluOp.Sxh = 0xa
alu_no AluOp.Zxh = 0xb
alu_no AluOp.Lsl = 0xc
alu_no AluOp.Lsr = 0xd
alu_no AluOp.Asr = 0xe
alu_no AluOp.Mult = 0xf

-- 0x3?: "Compare Instructions" and "Conditional instructions"; the flag of a conditional is the value of TF that it wants
abbrev pub test_row : List Kind
test_row =
    Kind.CmpImm CmpImmOp.Eq ∷ Kind.Cmp CmpOp.Eq ∷ Kind.Cmp CmpOp.Hs ∷ Kind.Cmp CmpOp.Ls
    ∷ Kind.Cmp CmpOp.Lt ∷ Kind.Cmp CmpOp.Gt ∷ Kind.CmpImm CmpImmOp.Lt ∷ Kind.CmpImm CmpImmOp.Gt
    ∷ Kind.Cond CondOp.Mov false ∷ Kind.Cond CondOp.Sub false ∷ Kind.CondImm false ∷ Kind.Cond CondOp.Add false
    ∷ Kind.Cond CondOp.Mov true ∷ Kind.Cond CondOp.Sub true ∷ Kind.CondImm true ∷ Kind.Cond CondOp.Add true ∷ []

abbrev pub cmp_no : CmpOp → ℕ
cmp_no CmpOp.Eq = 0x1
cmp_no CmpOp.Hs = 0x2
cmp_no CmpOp.Ls = 0x3
cmp_no CmpOp.Lt = 0x4
cmp_no CmpOp.Gt = 0x5

abbrev pub cmp_imm_no : CmpImmOp → ℕ
cmp_imm_no CmpImmOp.Eq = 0x0
cmp_imm_no CmpImmOp.Lt = 0x6
cmp_imm_no CmpImmOp.Gt = 0x7

abbrev pub cond_no : CondOp → Bool → ℕ
cond_no CondOp.Mov false = 0x8
cond_no CondOp.Sub false = 0x9
cond_no CondOp.Add false = 0xb
cond_no CondOp.Mov true = 0xc
cond_no CondOp.Sub true = 0xd
cond_no CondOp.Add true = 0xf

abbrev pub cond_imm_no : Bool → ℕ
cond_imm_no false = 0xa
cond_imm_no true = 0xe

-- 0x4? to 0xd?: ldrpc, the RI form of the ALU instructions, loads and stores; the byte's low nibble is an operand
abbrev pub fixed_row : List Kind
fixed_row =
    Kind.Ldrpc ∷ Kind.Imm ImmOp.And ∷ Kind.Imm ImmOp.Add ∷ Kind.Imm ImmOp.Mov
    ∷ Kind.Load Width.Word ∷ Kind.Store Width.Word ∷ Kind.Load Width.Half ∷ Kind.Store Width.Half
    ∷ Kind.Load Width.Byte ∷ Kind.Store Width.Byte ∷ []

abbrev pub imm_no : ImmOp → ℕ
imm_no ImmOp.And = 0x5
imm_no ImmOp.Add = 0x6
imm_no ImmOp.Mov = 0x7

abbrev pub load_no : Width → ℕ
load_no Width.Word = 0x8
load_no Width.Half = 0xa
load_no Width.Byte = 0xc

abbrev pub store_no : Width → ℕ
store_no Width.Word = 0x9
store_no Width.Half = 0xb
store_no Width.Byte = 0xd

-- 0xe0 to 0xff: "the first halfword's top six bits are 111001 sjf, 111011 sjt, 111101 sj ..; 111000 jf, 111010 jt, 111100 j, 111110 jl ..
-- 111111 is no instruction" (document 01); here by the last three of the six
abbrev pub jump_row : List Kind
jump_row =
    Kind.LongJump LongOp.Jf ∷ Kind.ShortJump ShortOp.Sjf ∷ Kind.LongJump LongOp.Jt ∷ Kind.ShortJump ShortOp.Sjt
    ∷ Kind.LongJump LongOp.J ∷ Kind.ShortJump ShortOp.Sj ∷ Kind.LongJump LongOp.Jl ∷ Kind.Nothing ∷ []

abbrev pub short_no : ShortOp → ℕ
short_no ShortOp.Sjf = 0x39
short_no ShortOp.Sjt = 0x3b
short_no ShortOp.Sj = 0x3d

abbrev pub long_no : LongOp → ℕ
long_no LongOp.Jf = 0x38
long_no LongOp.Jt = 0x3a
long_no LongOp.J = 0x3c
long_no LongOp.Jl = 0x3e

-- 0x0? to 0x3?: the low nibble is part of the code
abbrev pub low_kind : ℕ → ℕ → Kind
low_kind a b = kind_in (kind_in shift_row b ∷ kind_in system_row b ∷ kind_in alu_row b ∷ kind_in test_row b ∷ []) a

-- the kind of a first byte
unfoldable pub kind_of : ℕ → Kind
kind_of n =
    cond (ltb n 64) (low_kind (n / 16) (n % 16))
    (cond (ltb n 224) (kind_in fixed_row (n / 16 - 4)) (kind_in jump_row (n / 4 - 56)))
