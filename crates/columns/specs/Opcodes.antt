-- The guide's instruction tables once more, as bits: one example of each of the 59 instructions, a line for each, with Rd 5, Rb 9 and negative immediates, in the order of
-- the guide's pages; jr, jrl, jsfr, mfsfr, mtsfr and swint as document 01 says. What the rows and codes of crates/isa agree on, an exchange of two codes in all of them too, these numbers hold.
-- Assumes nothing.
use Rattle.std.specs.Prelude.{ℕ, true, false, List, [], ◌∷◌, None, Option, Some}
use Prim.Native.String.{String}
use Rattle.word.specs.declared.Width.{Width}
use Rattle.isa.specs.Encode.{encode_of}
use Rattle.isa.specs.declared.AluOp.{AluOp}
use Rattle.isa.specs.declared.ShiftOp.{ShiftOp}
use Rattle.isa.specs.declared.CmpOp.{CmpOp}
use Rattle.isa.specs.declared.CmpImmOp.{CmpImmOp}
use Rattle.isa.specs.declared.CondOp.{CondOp}
use Rattle.isa.specs.declared.ImmOp.{ImmOp}
use Rattle.isa.specs.declared.ShortOp.{ShortOp}
use Rattle.isa.specs.declared.LongOp.{LongOp}
use Rattle.isa.specs.declared.Instr.{Instr}
use Rattle.isa.specs.declared.Decoded.{Decoded}
use Rattle.isa.specs.declared.Encoded.{Encoded}
use Rattle.text.specs.Words.{ascii}

-- the first half, the mnemonic, and the instruction that they are; every second half is 0x0002
pub record Opcode : Type 0 where
  pub half : ℕ
  pub mnemonic : List ℕ
  pub is : Option Decoded

abbrev pub row : ℕ → String → Option Decoded → Opcode
row h n d = record { half = h; mnemonic = ascii n; is = d }

-- the first half of what an instruction encodes to; 0 where it has no bits
abbrev pub first_of : Option Encoded → ℕ
first_of (Some (Encoded.Half h)) = h
first_of (Some (Encoded.Pair h s)) = h
first_of None = 0

abbrev pub half_said : Option Decoded → ℕ
half_said (Some (Decoded.Short i)) = first_of (encode_of i)
half_said (Some (Decoded.Long i)) = first_of (encode_of i)
half_said None = 0

abbrev pub opcodes : List Opcode
opcodes =
    row 0x2159 "add" (Some (Decoded.Short (Instr.Alu AluOp.Add 5 9)))
    ∷ row 0x2359 "addc" (Some (Decoded.Short (Instr.Alu AluOp.Addc 5 9)))
    ∷ row 0x2059 "sub" (Some (Decoded.Short (Instr.Alu AluOp.Sub 5 9)))
    ∷ row 0x2259 "subc" (Some (Decoded.Short (Instr.Alu AluOp.Subc 5 9)))
    ∷ row 0x2459 "mov" (Some (Decoded.Short (Instr.Alu AluOp.Mov 5 9)))
    ∷ row 0x2559 "and" (Some (Decoded.Short (Instr.Alu AluOp.And 5 9)))
    ∷ row 0x2659 "or" (Some (Decoded.Short (Instr.Alu AluOp.Or 5 9)))
    ∷ row 0x2759 "xor" (Some (Decoded.Short (Instr.Alu AluOp.Xor 5 9)))
    ∷ row 0x2859 "sxb" (Some (Decoded.Short (Instr.Alu AluOp.Sxb 5 9)))
    ∷ row 0x2959 "xhw" (Some (Decoded.Short (Instr.Alu AluOp.Xhw 5 9)))
    ∷ row 0x2a59 "sxh" (Some (Decoded.Short (Instr.Alu AluOp.Sxh 5 9)))
    ∷ row 0x2b59 "zxh" (Some (Decoded.Short (Instr.Alu AluOp.Zxh 5 9)))
    ∷ row 0x2c59 "lsl" (Some (Decoded.Short (Instr.Alu AluOp.Lsl 5 9)))
    ∷ row 0x2d59 "lsr" (Some (Decoded.Short (Instr.Alu AluOp.Lsr 5 9)))
    ∷ row 0x2e59 "asr" (Some (Decoded.Short (Instr.Alu AluOp.Asr 5 9)))
    ∷ row 0x2f59 "mult" (Some (Decoded.Short (Instr.Alu AluOp.Mult 5 9)))
    ∷ row 0x0c59 "lsli" (Some (Decoded.Short (Instr.ShiftImm ShiftOp.Lsl 5 9)))
    ∷ row 0x0d59 "lsri" (Some (Decoded.Short (Instr.ShiftImm ShiftOp.Lsr 5 9)))
    ∷ row 0x0e59 "asri" (Some (Decoded.Short (Instr.ShiftImm ShiftOp.Asr 5 9)))
    ∷ row 0x0f59 "multi" (Some (Decoded.Short (Instr.ShiftImm ShiftOp.Mult 5 9)))
    ∷ row 0x5f52 "andi" (Some (Decoded.Short (Instr.Imm ImmOp.And 5 0xf2)))
    ∷ row 0x6f52 "addi" (Some (Decoded.Short (Instr.Imm ImmOp.Add 5 0xfffffff2)))
    ∷ row 0x7f52 "movi" (Some (Decoded.Short (Instr.Imm ImmOp.Mov 5 0xfffffff2)))
    ∷ row 0x8759 "ldr" (Some (Decoded.Short (Instr.Load Width.Word 5 7 9)))
    ∷ row 0x9759 "str" (Some (Decoded.Short (Instr.Store Width.Word 5 7 9)))
    ∷ row 0xa759 "ldrh" (Some (Decoded.Short (Instr.Load Width.Half 5 7 9)))
    ∷ row 0xb759 "strh" (Some (Decoded.Short (Instr.Store Width.Half 5 7 9)))
    ∷ row 0xc759 "ldrb" (Some (Decoded.Short (Instr.Load Width.Byte 5 7 9)))
    ∷ row 0xd759 "strb" (Some (Decoded.Short (Instr.Store Width.Byte 5 7 9)))
    ∷ row 0x4f52 "ldrpc" (Some (Decoded.Short (Instr.Ldrpc 5 0xf2)))
    ∷ row 0x3159 "cmpeq" (Some (Decoded.Short (Instr.Cmp CmpOp.Eq 5 9)))
    ∷ row 0x3259 "cmphs" (Some (Decoded.Short (Instr.Cmp CmpOp.Hs 5 9)))
    ∷ row 0x3359 "cmpls" (Some (Decoded.Short (Instr.Cmp CmpOp.Ls 5 9)))
    ∷ row 0x3459 "cmplt" (Some (Decoded.Short (Instr.Cmp CmpOp.Lt 5 9)))
    ∷ row 0x3559 "cmpgt" (Some (Decoded.Short (Instr.Cmp CmpOp.Gt 5 9)))
    ∷ row 0x3059 "cmpeqi" (Some (Decoded.Short (Instr.CmpImm CmpImmOp.Eq 5 0xfffffff9)))
    ∷ row 0x3659 "cmplti" (Some (Decoded.Short (Instr.CmpImm CmpImmOp.Lt 5 0xfffffff9)))
    ∷ row 0x3759 "cmpgti" (Some (Decoded.Short (Instr.CmpImm CmpImmOp.Gt 5 0xfffffff9)))
    ∷ row 0x3c59 "movt" (Some (Decoded.Short (Instr.Cond CondOp.Mov true 5 9)))
    ∷ row 0x3859 "movf" (Some (Decoded.Short (Instr.Cond CondOp.Mov false 5 9)))
    ∷ row 0x3f59 "addt" (Some (Decoded.Short (Instr.Cond CondOp.Add true 5 9)))
    ∷ row 0x3b59 "addf" (Some (Decoded.Short (Instr.Cond CondOp.Add false 5 9)))
    ∷ row 0x3d59 "subt" (Some (Decoded.Short (Instr.Cond CondOp.Sub true 5 9)))
    ∷ row 0x3959 "subf" (Some (Decoded.Short (Instr.Cond CondOp.Sub false 5 9)))
    ∷ row 0x3e59 "addit" (Some (Decoded.Short (Instr.CondImm true 5 0xfffffff9)))
    ∷ row 0x3a59 "addif" (Some (Decoded.Short (Instr.CondImm false 5 0xfffffff9)))
    ∷ row 0x1c09 "jr" (Some (Decoded.Short (Instr.Jr 9)))
    ∷ row 0x1d09 "jrl" (Some (Decoded.Short (Instr.Jrl 9)))
    ∷ row 0x1e02 "jsfr" (Some (Decoded.Short (Instr.Jsfr 2)))
    ∷ row 0x1259 "mfsfr" (Some (Decoded.Short (Instr.Mfsfr 5 9)))
    ∷ row 0x1359 "mtsfr" (Some (Decoded.Short (Instr.Mtsfr 5 9)))
    ∷ row 0x1009 "swint" (Some (Decoded.Short (Instr.Swint 9)))
    ∷ row 0xe609 "sjf" (Some (Decoded.Short (Instr.ShortJump ShortOp.Sjf (record { 0 = 0xfffffe09 }))))
    ∷ row 0xee09 "sjt" (Some (Decoded.Short (Instr.ShortJump ShortOp.Sjt (record { 0 = 0xfffffe09 }))))
    ∷ row 0xf609 "sj" (Some (Decoded.Short (Instr.ShortJump ShortOp.Sj (record { 0 = 0xfffffe09 }))))
    ∷ row 0xe201 "jf" (Some (Decoded.Long (Instr.LongJump LongOp.Jf (record { 0 = 0xfe010002 }))))
    ∷ row 0xea01 "jt" (Some (Decoded.Long (Instr.LongJump LongOp.Jt (record { 0 = 0xfe010002 }))))
    ∷ row 0xf201 "j" (Some (Decoded.Long (Instr.LongJump LongOp.J (record { 0 = 0xfe010002 }))))
    ∷ row 0xfa01 "jl" (Some (Decoded.Long (Instr.LongJump LongOp.Jl (record { 0 = 0xfe010002 }))))
    ∷ []
