-- What an instruction costs, by its class.
-- Assumes nothing.
use Prim.Native.Nat.{ℕ, ◌+◌, ◌/◌, ◌%◌, ◌<◌, ◌≤◌}
use mathlib.Core.Path.{◌≡◌, refl}
use mathlib.Core.Bool.{Bool, true, false, cond, beq}
use native.Mathlib.Omega.{arith}
use lib.Dec.{ltb}
use borrow.Author.Tests.{ltb-true, ltb-false}
use Rattle.isa.specs.declared.AluOp.{AluOp}
use Rattle.isa.specs.declared.ShiftOp.{ShiftOp}
use Rattle.isa.specs.declared.ShortOp.{ShortOp}
use Rattle.isa.specs.declared.LongOp.{LongOp}
use Rattle.isa.specs.declared.Instr.{Instr}
use Rattle.isa.specs.Codes.{alu_no, shift_no, short_no, long_no}
use Rattle.cpu.specs.Control.{tf}
use Rattle.cpu.specs.Cycles.{shift_cost, alu_cost, shift_imm_cost, short_cost, long_cost, cost_of}
use Rattle.cpu.specs.declared.Control.{Control}
use Rattle.sentences.specs.Classes.{jump, by_code, is_taken, class_of, shift_cycles, cycles_of}

-- eight amounts for each cycle
shift_cycles_lem : (n : ℕ) → shift_cost n ≡ shift_cycles n
unfolding shift_cost
shift_cycles_lem n = go (ltb n 8) (ltb n 16) (ltb n 24) refl refl refl
  where
    go : (a b c : Bool) → ltb n 8 ≡ a → ltb n 16 ≡ b → ltb n 24 ≡ c → ◌≡◌ {A = ℕ} (cond a 2 (cond b 3 (cond c 4 5))) (cond c (2 + n / 8) 5)
    go true b true p q r = let g : n < 8 = ltb-true _ _ p in omega arith
    go true b false p q r = let g : n < 8 = ltb-true _ _ p in let h : 24 ≤ n = ltb-false _ _ r in omega arith
    go false true true p q r = let g : n < 16 = ltb-true _ _ q in let h : 8 ≤ n = ltb-false _ _ p in omega arith
    go false true false p q r = let g : n < 16 = ltb-true _ _ q in let h : 24 ≤ n = ltb-false _ _ r in omega arith
    go false false true p q r = let g : n < 24 = ltb-true _ _ r in let h : 16 ≤ n = ltb-false _ _ q in omega arith
    go false false false p q r = refl

alu_cycles : (op : AluOp) (y : ℕ) → alu_cost op y ≡ cycles_of (by_code (alu_no op) (y % 64))
unfolding alu_cost
alu_cycles AluOp.Sub y = refl
alu_cycles AluOp.Add y = refl
alu_cycles AluOp.Subc y = refl
alu_cycles AluOp.Addc y = refl
alu_cycles AluOp.Mov y = refl
alu_cycles AluOp.And y = refl
alu_cycles AluOp.Or y = refl
alu_cycles AluOp.Xor y = refl
alu_cycles AluOp.Sxb y = refl
alu_cycles AluOp.Xhw y = refl
alu_cycles AluOp.Sxh y = refl
alu_cycles AluOp.Zxh y = refl
alu_cycles AluOp.Lsl y = shift_cycles_lem (y % 64)
alu_cycles AluOp.Lsr y = shift_cycles_lem (y % 64)
alu_cycles AluOp.Asr y = shift_cycles_lem (y % 64)
alu_cycles AluOp.Mult y = refl

shift_imm_cycles : (op : ShiftOp) (n : ℕ) → shift_imm_cost op n ≡ cycles_of (by_code (shift_no op) n)
unfolding shift_imm_cost
shift_imm_cycles ShiftOp.Lsl n = shift_cycles_lem n
shift_imm_cycles ShiftOp.Lsr n = shift_cycles_lem n
shift_imm_cycles ShiftOp.Asr n = shift_cycles_lem n
shift_imm_cycles ShiftOp.Mult n = refl

branch_cycles : (b : Bool) → ◌≡◌ {A = ℕ} (cond b 2 3) (cycles_of (jump b))
branch_cycles true = refl
branch_cycles false = refl

short_cycles : (op : ShortOp) (c : Control) → short_cost op c ≡ cycles_of (jump (is_taken (short_no op) (tf c)))
short_cycles ShortOp.Sjf c = branch_cycles (beq (tf c) false)
short_cycles ShortOp.Sjt c = branch_cycles (beq (tf c) true)
short_cycles ShortOp.Sj c = refl

long_cycles : (op : LongOp) (c : Control) → long_cost op c ≡ cycles_of (jump (is_taken (long_no op) (tf c)))
long_cycles LongOp.Jf c = branch_cycles (beq (tf c) false)
long_cycles LongOp.Jt c = branch_cycles (beq (tf c) true)
long_cycles LongOp.J c = refl
long_cycles LongOp.Jl c = refl

pub class_cycles : (i : Instr) (y : ℕ) (c : Control) → cost_of i y c ≡ cycles_of (class_of i y (tf c))
unfolding cost_of
class_cycles (Instr.Alu op d b) y c = alu_cycles op y
class_cycles (Instr.ShiftImm op d n) y c = shift_imm_cycles op n
class_cycles (Instr.Cmp op d b) y c = refl
class_cycles (Instr.CmpImm op d n) y c = refl
class_cycles (Instr.Cond op t d b) y c = refl
class_cycles (Instr.CondImm t d n) y c = refl
class_cycles (Instr.Ldrpc d n) y c = refl
class_cycles (Instr.Imm op d n) y c = refl
class_cycles (Instr.Load w d n b) y c = refl
class_cycles (Instr.Store w d n b) y c = refl
class_cycles (Instr.Mfsfr d n) y c = refl
class_cycles (Instr.Mtsfr n b) y c = refl
class_cycles (Instr.Jr b) y c = refl
class_cycles (Instr.Jrl b) y c = refl
class_cycles (Instr.Jsfr n) y c = refl
class_cycles (Instr.Swint n) y c = refl
class_cycles (Instr.ShortJump op d) y c = short_cycles op c
class_cycles (Instr.LongJump op d) y c = long_cycles op c
