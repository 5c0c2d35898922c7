-- What a step costs in cycles, "from the guide's pipeline chapters, all code in cache" (document 02, ticket 6; the guide, "Pipeline" and "Interrupts").
-- Assumes nothing.
use Rattle.std.specs.Prelude.{ℕ, ◌%◌, Bool, true, false, cond, nat_lt}
use Rattle.isa.specs.declared.AluOp.{AluOp}
use Rattle.isa.specs.declared.ShiftOp.{ShiftOp}
use Rattle.isa.specs.declared.ShortOp.{ShortOp}
use Rattle.isa.specs.declared.LongOp.{LongOp}
use Rattle.isa.specs.declared.Instr.{Instr}
use Rattle.cpu.specs.Control.{wants}
use Rattle.cpu.specs.declared.Control.{Control}
use Rattle.cpu.specs.declared.Entry.{Entry}

-- "shift 2 for amounts 0 to 7, 3 for 8 to 15, 4 for 16 to 23, 5 above"
unfoldable pub shift_cost : ℕ → ℕ
shift_cost n = cond (nat_lt n 8) 2 (cond (nat_lt n 16) 3 (cond (nat_lt n 24) 4 5))

-- "ALU .. 1; .. multiply 2"; y is Rb, of which a shift by register uses the low 6 bits
unfoldable pub alu_cost : AluOp → ℕ → ℕ
alu_cost AluOp.Sub y = 1
alu_cost AluOp.Add y = 1
alu_cost AluOp.Subc y = 1
alu_cost AluOp.Addc y = 1
alu_cost AluOp.Mov y = 1
alu_cost AluOp.And y = 1
alu_cost AluOp.Or y = 1
alu_cost AluOp.Xor y = 1
alu_cost AluOp.Sxb y = 1
alu_cost AluOp.Xhw y = 1
alu_cost AluOp.Sxh y = 1
alu_cost AluOp.Zxh y = 1
alu_cost AluOp.Lsl y = shift_cost (y % 64)
alu_cost AluOp.Lsr y = shift_cost (y % 64)
alu_cost AluOp.Asr y = shift_cost (y % 64)
alu_cost AluOp.Mult y = 2

unfoldable pub shift_imm_cost : ShiftOp → ℕ → ℕ
shift_imm_cost ShiftOp.Lsl n = shift_cost n
shift_imm_cost ShiftOp.Lsr n = shift_cost n
shift_imm_cost ShiftOp.Asr n = shift_cost n
shift_imm_cost ShiftOp.Mult n = 2

-- "taken jump 2, not taken 3"
abbrev pub branch_cost : Bool → Control → ℕ
branch_cost t c = cond (wants t c) 2 3

abbrev pub short_cost : ShortOp → Control → ℕ
short_cost ShortOp.Sjf c = branch_cost false c
short_cost ShortOp.Sjt c = branch_cost true c
short_cost ShortOp.Sj c = 2

abbrev pub long_cost : LongOp → Control → ℕ
long_cost LongOp.Jf c = branch_cost false c
long_cost LongOp.Jt c = branch_cost true c
long_cost LongOp.J c = 2
long_cost LongOp.Jl c = 2

-- An instruction's own cost, y its operand Rb: "ALU, compare and conditional ALU 1; taken jump 2, not taken 3; load and store 2; multiply 2; shift ..";
-- "mfsfr and mtsfr 1, swint 2"
unfoldable pub cost_of : Instr → ℕ → Control → ℕ
cost_of (Instr.Alu op d b) y c = alu_cost op y
cost_of (Instr.ShiftImm op d n) y c = shift_imm_cost op n
cost_of (Instr.Cmp op d b) y c = 1
cost_of (Instr.CmpImm op d n) y c = 1
cost_of (Instr.Cond op t d b) y c = 1
cost_of (Instr.CondImm t d n) y c = 1
cost_of (Instr.Ldrpc d n) y c = 2
cost_of (Instr.Imm op d n) y c = 1
cost_of (Instr.Load w d n b) y c = 2
cost_of (Instr.Store w d n b) y c = 2
cost_of (Instr.Mfsfr d n) y c = 1
cost_of (Instr.Mtsfr n b) y c = 1
cost_of (Instr.Jr b) y c = 2
cost_of (Instr.Jrl b) y c = 2
cost_of (Instr.Jsfr n) y c = 2
cost_of (Instr.Swint n) y c = 2
cost_of (Instr.ShortJump op d) y c = short_cost op c
cost_of (Instr.LongJump op d) y c = long_cost op c

-- What an entry adds: "swint 2, any other entry 4 in all, a watchpoint's 6 with its load or store". An entry that is no instruction's, and one in place of what
-- an instruction would do, has no cost beside it.
unfoldable pub entry_cost : Entry → ℕ
entry_cost Entry.Nothing = 0
entry_cost (Entry.Swint n) = 0
entry_cost (Entry.Debug hit) = 4
entry_cost Entry.Timer = 4
entry_cost (Entry.External i) = 4
entry_cost Entry.FetchError = 4
entry_cost Entry.DataError = 4
