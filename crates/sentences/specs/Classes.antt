-- Instructions by class, as document 02 names them ("ALU, compare and conditional ALU .., jump, .. load and store .., multiply .., shift"), and what each costs in
-- numbers. A class is told by the guide's codes, not by the lines of the definitions that the theorems speak of.
-- Assumes nothing.
use Rattle.std.specs.Prelude.{ℕ, ◌+◌, ◌/◌, ◌%◌, Bool, true, false, cond, ltb}
use Rattle.std.specs.Bool.{beq}
use Rattle.word.specs.Bits.{on}
use Rattle.isa.specs.Codes.{alu_no, shift_no, short_no, long_no}
use Rattle.isa.specs.declared.Instr.{Instr}

pub data Class : Type 0 where
  alu : Class
  shift : ℕ → Class
  multiply : Class
  compare : Class
  conditional : Class
  access : Class
  special : Class
  jump : Bool → Class
  swint : Class

-- the last digit of 0x20 to 0x2f, and of 0x0c to 0x0f: 12 to 14 are the shifts, by amount n, and 15 is the multiply
abbrev pub by_code : ℕ → ℕ → Class
by_code code n = cond (ltb code 12) alu (cond (ltb code 15) (shift n) multiply)

-- a jump's top six bits: below 111100 it has a condition, and bit 1 is the value of TF that it wants
abbrev pub is_taken : ℕ → Bool → Bool
is_taken six tf = cond (ltb six 0x3c) (beq tf (on six 1)) true

-- y is the value of Rb ("A shift by register uses its low 6 bits"), tf is TF before the instruction
abbrev pub class_of : Instr → ℕ → Bool → Class
class_of (Instr.Alu op d b) y tf = by_code (alu_no op) (y % 64)
class_of (Instr.ShiftImm op d n) y tf = by_code (shift_no op) n
class_of (Instr.Cmp op d b) y tf = compare
class_of (Instr.CmpImm op d n) y tf = compare
class_of (Instr.Cond op t d b) y tf = conditional
class_of (Instr.CondImm t d n) y tf = conditional
class_of (Instr.Ldrpc d n) y tf = access
class_of (Instr.Imm op d n) y tf = alu
class_of (Instr.Load w d n b) y tf = access
class_of (Instr.Store w d n b) y tf = access
class_of (Instr.Mfsfr d n) y tf = special
class_of (Instr.Mtsfr n b) y tf = special
class_of (Instr.Jr b) y tf = jump true
class_of (Instr.Jrl b) y tf = jump true
class_of (Instr.Jsfr n) y tf = jump true
class_of (Instr.Swint n) y tf = swint
class_of (Instr.ShortJump op d) y tf = jump (is_taken (short_no op) tf)
class_of (Instr.LongJump op d) y tf = jump (is_taken (long_no op) tf)

-- The table of ticket 6: "ALU, compare and conditional ALU 1; taken jump 2, not taken 3; load and store 2; multiply 2; shift 2 for amounts 0 to 7, 3 for 8 to 15,
-- 4 for 16 to 23, 5 above. House rules: mfsfr and mtsfr 1, swint 2". Eight amounts a cycle, and no more than 5.
abbrev pub shift_cycles : ℕ → ℕ
shift_cycles n = cond (ltb n 24) (2 + n / 8) 5

abbrev pub cycles_of : Class → ℕ
cycles_of alu = 1
cycles_of (shift n) = shift_cycles n
cycles_of multiply = 2
cycles_of compare = 1
cycles_of conditional = 1
cycles_of access = 2
cycles_of special = 1
cycles_of (jump true) = 2
cycles_of (jump false) = 3
cycles_of swint = 2
