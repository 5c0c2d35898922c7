-- "Sixteen lines to prove" (document 01), as one table: what the definitions give, beside what the document says. The definitions are those that the
-- code is proved against: decode_of, exec with its ALU, compare and jump rules, and the address rule reach_of.
-- Assumes nothing.
use Rattle.std.specs.Prelude.{ℕ, ◌-◌, ◌^◌, Bool, true, false, List, [], ◌∷◌, None, Option, Some}
use Rattle.word.specs.declared.ByteAddr.{ByteAddr}
use Rattle.word.specs.declared.HalfDisp.{HalfDisp}
use Rattle.word.specs.declared.Width.{Width}
use Rattle.isa.specs.Decode.{decode_of}
use Rattle.isa.specs.declared.AluOp.{AluOp}
use Rattle.isa.specs.declared.CmpOp.{CmpOp}
use Rattle.isa.specs.declared.ImmOp.{ImmOp}
use Rattle.isa.specs.declared.ShortOp.{ShortOp}
use Rattle.isa.specs.declared.LongOp.{LongOp}
use Rattle.isa.specs.declared.Instr.{Instr}
use Rattle.isa.specs.declared.Decoded.{Decoded}
use Rattle.cpu.specs.Control.{fresh_control, pc_of, with_pc, with_tf, with_cy, cy}
use Rattle.cpu.specs.Exec.{alu_of, carried, cmp_of, exec}
use Rattle.cpu.specs.declared.Control.{Control}
use Rattle.instruction.specs.Act.{reach_of}
use Rattle.instruction.specs.declared.Reach.{Reach}

-- a displacement of n halfwords forward, and back
abbrev pub ahead : ℕ → HalfDisp
ahead n = record { 0 = n }

abbrev pub back : ℕ → HalfDisp
back n = record { 0 = 2 ^ 32 - n }

-- an address, and the fresh control part with the program counter there
abbrev pub byte : ℕ → ByteAddr
byte a = record { 0 = a }

abbrev pub from : ℕ → Control
from a = with_pc fresh_control (byte a)

-- what decoded bits do at control part c: where they go, and what they reach with y in their base register
abbrev pub goes_to : Option Decoded → Control → ByteAddr
goes_to (Some (Decoded.Short i)) c = pc_of (exec i 0 0 0 c).control
goes_to (Some (Decoded.Long i)) c = pc_of (exec i 0 0 0 c).control
goes_to None c = pc_of c

abbrev pub reaches : Option Decoded → ℕ → Control → Reach
reaches (Some (Decoded.Short i)) y c = reach_of i y c
reaches (Some (Decoded.Long i)) y c = reach_of i y c
reaches None y c = Reach.Nowhere

-- one side of a line
pub data Side : Type 0 where
  instruction : Option Decoded → Side
  jump : Option Decoded → ByteAddr → Side
  access : Option Decoded → Reach → Side
  sum : ℕ → Bool → Side
  numbers : ℕ → ℕ → Side
  truth : Bool → Side

-- what the definitions give for a jump at c, for a load or store, and for an ALU instruction at c with its CY after it
abbrev pub jumping : Option Decoded → Control → Side
jumping d c = jump d (goes_to d c)

abbrev pub accessing : Option Decoded → ℕ → Control → Side
accessing d y c = access d (reaches d y c)

abbrev pub adding : AluOp → ℕ → ℕ → Control → Side
adding op x y c = sum (alu_of op x y (cy c)) (cy (carried op x y c))

pub record Line : Type 0 where
  pub number : ℕ
  pub given : Side
  pub says : Side

abbrev pub line : ℕ → Side → Side → Line
line n a b = record { number = n; given = a; says = b }

-- x is any number; the jumps stand at 0x1000, with TF as they want it
abbrev pub lines : ℕ → List Line
lines x =
    line 1 (instruction (decode_of 0x2112 0)) (instruction (Some (Decoded.Short (Instr.Alu AluOp.Add 1 2))))
    ∷ line 2 (instruction (decode_of 0x6f08 0)) (instruction (Some (Decoded.Short (Instr.Imm ImmOp.Add 0 (2 ^ 32 - 8)))))
    ∷ line 3 (instruction (decode_of 0x7110 0)) (instruction (Some (Decoded.Short (Instr.Imm ImmOp.Mov 1 16))))
    ∷ line 4 (accessing (decode_of 0x8110 0) 0x200 (from 0)) (access (Some (Decoded.Short (Instr.Load Width.Word 1 1 0))) (Reach.Reads Width.Word (byte 0x204)))
    ∷ line 5 (jumping (decode_of 0xe402 0) (from 0x1000)) (jump (Some (Decoded.Short (Instr.ShortJump ShortOp.Sjf (ahead 2)))) (byte 0x1004))
    ∷ line 6 (jumping (decode_of 0xefff 0) (with_tf (from 0x1000) true)) (jump (Some (Decoded.Short (Instr.ShortJump ShortOp.Sjt (back 1)))) (byte 0x0ffe))
    ∷ line 7 (jumping (decode_of 0xf600 0) (from 0x1000)) (jump (Some (Decoded.Short (Instr.ShortJump ShortOp.Sj (back 512)))) (byte 0x0c00))
    ∷ line 8 (jumping (decode_of 0xf3ff 0xffff) (from 0x1000)) (jump (Some (Decoded.Long (Instr.LongJump LongOp.J (back 1)))) (byte 0x0ffe))
    ∷ line 9 (jumping (decode_of 0xf800 0x0002) (from 0x1000)) (jump (Some (Decoded.Long (Instr.LongJump LongOp.Jl (ahead 2)))) (byte 0x1004))
    ∷ line 10 (instruction (decode_of 0xfc00 0)) (instruction None)
    ∷ line 11 (adding AluOp.Add 0xffffffff 1 fresh_control) (sum 0 true)
    ∷ line 12 (adding AluOp.Subc 0 0xffffffff (with_cy fresh_control true)) (sum 0 true)
    ∷ line 13 (numbers (alu_of AluOp.Lsr x 64 false) (alu_of AluOp.Lsl x 32 false)) (numbers x 0)
    ∷ line 14 (numbers (alu_of AluOp.Asr 0x80000000 40 false) 0) (numbers 0xffffffff 0)
    ∷ line 15 (truth (cmp_of CmpOp.Lt 0x80000000 0x7fffffff)) (truth true)
    ∷ line 16 (accessing (decode_of 0x4011 0) 0 (from 0x102)) (access (Some (Decoded.Short (Instr.Ldrpc 1 1))) (Reach.Reads Width.Word (byte 0x104)))
    ∷ []

-- 1 to 16
abbrev pub sixteen : List ℕ
sixteen = 1 ∷ 2 ∷ 3 ∷ 4 ∷ 5 ∷ 6 ∷ 7 ∷ 8 ∷ 9 ∷ 10 ∷ 11 ∷ 12 ∷ 13 ∷ 14 ∷ 15 ∷ 16 ∷ []
