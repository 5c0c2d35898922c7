-- What each instruction reads, and what it does to the values: the register that it writes, and the control part after it (document 01, "Instructions"),
-- with its cost.
-- Assumes nothing.
use Rattle.std.specs.Prelude.{ℕ, ◌+◌, ◌*◌, ◌/◌, ◌%◌, Bool, true, false, cond, not, ◌&&◌, ◌||◌, ◌==◌, bit_and, bit_or, bit_xor, nat_le}
use Rattle.word.specs.Bits.{on, field_of, with_field, with_bit}
use Rattle.word.specs.Numbers.{sum_of, carry_of, difference_of, borrow_of, product_of, lsl_of, lsr_of, asr_of, less_of, extend_of}
use Rattle.word.specs.Bytes.{bytes_of}
use Rattle.word.specs.Addresses.{jump_sum, byte_sum, aligned_of}
use Rattle.word.specs.declared.ByteAddr.{ByteAddr}
use Rattle.word.specs.declared.HalfDisp.{HalfDisp}
use Rattle.word.specs.declared.Width.{Width}
use Rattle.isa.specs.declared.AluOp.{AluOp}
use Rattle.isa.specs.declared.ShiftOp.{ShiftOp}
use Rattle.isa.specs.declared.CmpOp.{CmpOp}
use Rattle.isa.specs.declared.CmpImmOp.{CmpImmOp}
use Rattle.isa.specs.declared.CondOp.{CondOp}
use Rattle.isa.specs.declared.ImmOp.{ImmOp}
use Rattle.isa.specs.declared.ShortOp.{ShortOp}
use Rattle.isa.specs.declared.LongOp.{LongOp}
use Rattle.isa.specs.declared.Instr.{Instr}
use Rattle.cpu.specs.Control.{pc_of, with_pc, with_sfr, with_psw, with_hwdbg, with_timer, cy, wants, with_tf, with_cy, sfr_of}
use Rattle.cpu.specs.Cycles.{cost_of}
use Rattle.cpu.specs.declared.Control.{Control}
use Rattle.cpu.specs.declared.Effect.{Effect}
use Rattle.cpu.specs.declared.Sources.{Sources}

-- ---- the program counter

-- on to the next instruction, n bytes further
unfoldable pub onward : ℕ → Control → Control
onward n c = with_pc c (byte_sum (pc_of c) n)

-- "Register jumps, jsfr among them, drop bit 0"
unfoldable pub go_to : ℕ → Control → Control
go_to a c = with_pc c (aligned_of Width.Half (record { 0 = a }))

-- "jl and jrl set RA to the program counter + 4"
unfoldable pub linked : Control → Control
linked c = with_sfr 1 c (byte_sum (pc_of c) 4).0

-- "the base is the jump's .. own address"
unfoldable pub jump : HalfDisp → Control → Control
jump d c = with_pc c (jump_sum (pc_of c) d)

-- a conditional jump of n bytes
unfoldable pub branch : Bool → HalfDisp → ℕ → Control → Control
branch t d n c = cond (wants t c) (jump d c) (onward n c)

abbrev pub short_jump : ShortOp → HalfDisp → Control → Control
short_jump ShortOp.Sjf d c = branch false d 2 c
short_jump ShortOp.Sjt d c = branch true d 2 c
short_jump ShortOp.Sj d c = jump d c

abbrev pub long_jump : LongOp → HalfDisp → Control → Control
long_jump LongOp.Jf d c = branch false d 4 c
long_jump LongOp.Jt d c = branch true d 4 c
long_jump LongOp.J d c = jump d c
long_jump LongOp.Jl d c = jump d (linked c)

-- ---- values

-- the guide, "ALU Instructions" and "Multiply and Shift Instructions": x is Rd, y is Rb, c is CY; "A shift by register uses its low 6 bits"
unfoldable pub alu_of : AluOp → ℕ → ℕ → Bool → ℕ
alu_of AluOp.Sub x y c = difference_of x y false
alu_of AluOp.Add x y c = sum_of x y false
alu_of AluOp.Subc x y c = difference_of x y c
alu_of AluOp.Addc x y c = sum_of x y c
alu_of AluOp.Mov x y c = y
alu_of AluOp.And x y c = bit_and x y
alu_of AluOp.Or x y c = bit_or x y
alu_of AluOp.Xor x y c = bit_xor x y
alu_of AluOp.Sxb x y c = extend_of 8 y
alu_of AluOp.Xhw x y c = y % 65536 * 65536 + y / 65536
alu_of AluOp.Sxh x y c = extend_of 16 y
alu_of AluOp.Zxh x y c = y % 65536
alu_of AluOp.Lsl x y c = lsl_of x (y % 64)
alu_of AluOp.Lsr x y c = lsr_of x (y % 64)
alu_of AluOp.Asr x y c = asr_of x (y % 64)
alu_of AluOp.Mult x y c = product_of x y

-- "add, addc set CY to the carry out; sub, subc set CY to the borrow. No other ALU, shift, multiply or conditional instruction touches PSW"
unfoldable pub carried : AluOp → ℕ → ℕ → Control → Control
carried AluOp.Sub x y c = with_cy c (borrow_of x y false)
carried AluOp.Add x y c = with_cy c (carry_of x y false)
carried AluOp.Subc x y c = with_cy c (borrow_of x y (cy c))
carried AluOp.Addc x y c = with_cy c (carry_of x y (cy c))
carried AluOp.Mov x y c = c
carried AluOp.And x y c = c
carried AluOp.Or x y c = c
carried AluOp.Xor x y c = c
carried AluOp.Sxb x y c = c
carried AluOp.Xhw x y c = c
carried AluOp.Sxh x y c = c
carried AluOp.Zxh x y c = c
carried AluOp.Lsl x y c = c
carried AluOp.Lsr x y c = c
carried AluOp.Asr x y c = c
carried AluOp.Mult x y c = c

unfoldable pub shift_of : ShiftOp → ℕ → ℕ → ℕ
shift_of ShiftOp.Lsl x n = lsl_of x n
shift_of ShiftOp.Lsr x n = lsr_of x n
shift_of ShiftOp.Asr x n = asr_of x n
shift_of ShiftOp.Mult x n = product_of x n

-- the guide, "Compare Instructions"
unfoldable pub cmp_of : CmpOp → ℕ → ℕ → Bool
cmp_of CmpOp.Eq x y = x == y
cmp_of CmpOp.Hs x y = nat_le y x
cmp_of CmpOp.Ls x y = nat_le x y
cmp_of CmpOp.Lt x y = less_of x y
cmp_of CmpOp.Gt x y = less_of y x

unfoldable pub cmp_imm_of : CmpImmOp → ℕ → ℕ → Bool
cmp_imm_of CmpImmOp.Eq x n = x == n
cmp_imm_of CmpImmOp.Lt x n = less_of x n
cmp_imm_of CmpImmOp.Gt x n = less_of n x

-- the guide, "Conditional instructions"
unfoldable pub cond_of : CondOp → ℕ → ℕ → ℕ
cond_of CondOp.Mov x y = y
cond_of CondOp.Sub x y = difference_of x y false
cond_of CondOp.Add x y = sum_of x y false

-- the guide, "RI Form"; the immediate is extended already
unfoldable pub imm_value : ImmOp → ℕ → ℕ → ℕ
imm_value ImmOp.And x n = bit_and x n
imm_value ImmOp.Add x n = sum_of x n false
imm_value ImmOp.Mov x n = n

-- ---- special function registers

-- "Writing TIMER is ignored if IP is 1 and TI is 0"
abbrev pub accepted : Control → Bool
accepted c = not (on c.psw 3) || on c.psw 2

-- "an accepted write clears pending"
unfoldable pub timer_written : ℕ → Control → Control
timer_written v c = cond (accepted c) (with_timer c v false) c

-- "mtsfr psw keeps bits 12 .. and 26 to 31"; it "may now write bits 14 and 15" (document 02, ticket 5)
unfoldable pub psw_written : ℕ → ℕ → ℕ
psw_written p v = with_field (with_field v 12 1 (field_of p 12 1)) 26 6 (field_of p 26 6)

-- SFR n written; "mtsfr hwdbg writes bits 2 to 5 only", and there is none past 10
unfoldable pub written : ℕ → ℕ → Control → Control
written n v c =
    cond (n == 0) (with_psw c (psw_written c.psw v))
    (cond (n == 3) (timer_written v c)
    (cond (n == 6) (with_hwdbg c (with_field c.hwdbg 2 4 (field_of v 2 4)))
    (with_sfr n c v)))

-- jsfr of IPC: "BIP goes to IP, and BIP becomes 0" (document 02, ticket 3; the guide's interrupt chapter, page 15)
unfoldable pub leave : ℕ → Control → Control
leave n c = cond (n == 2) (with_psw c (with_bit (with_bit c.psw 3 (on c.psw 6)) 6 false)) c

-- ---- instructions

-- there are sixteen registers, so 16 is none
abbrev pub no_reg : ℕ
no_reg = 16

-- a register and its value, and the next instruction of two bytes; or no register. The cost is put in below
abbrev pub puts_reg : ℕ → ℕ → Control → Effect
puts_reg d v c = record { control = onward 2 c; reg = d; value = v; wrote = false; cost = 0 }

abbrev pub moves : Control → Effect
moves c = record { control = c; reg = no_reg; value = 0; wrote = false; cost = 0 }

-- mtsfr; "an accepted write .. takes the place of that step's fall", so wrote says whether TIMER was written
abbrev pub writes_sfr : ℕ → ℕ → Control → Effect
writes_sfr n v c = record { control = onward 2 (written n v c); reg = no_reg; value = 0; wrote = n == 3 && accepted c; cost = 0 }

-- What an instruction makes of the values, but for memory and the entry that it makes (crate instruction, `reach_of`).
-- x is the register that the guide calls Rd, y the one that it calls Rb, as far as the instruction reads them; v is what it loads
unfoldable pub makes : Instr → ℕ → ℕ → ℕ → Control → Effect
makes (Instr.Alu op d b) x y v c = puts_reg d (alu_of op x y (cy c)) (carried op x y c)
makes (Instr.ShiftImm op d n) x y v c = puts_reg d (shift_of op x n) c
makes (Instr.Cmp op d b) x y v c = moves (onward 2 (with_tf c (cmp_of op x y)))
makes (Instr.CmpImm op d n) x y v c = moves (onward 2 (with_tf c (cmp_imm_of op x n)))
makes (Instr.Cond op t d b) x y v c = puts_reg d (cond (wants t c) (cond_of op x y) x) c
makes (Instr.CondImm t d n) x y v c = puts_reg d (cond (wants t c) (sum_of x n false) x) c
makes (Instr.Ldrpc d n) x y v c = puts_reg d v c
makes (Instr.Imm op d n) x y v c = puts_reg d (imm_value op x n) c
makes (Instr.Load w d n b) x y v c = puts_reg d v c
makes (Instr.Store w d n b) x y v c = moves (onward 2 c)
makes (Instr.Mfsfr d n) x y v c = puts_reg d (sfr_of n c) c
makes (Instr.Mtsfr n b) x y v c = writes_sfr n y c
makes (Instr.Jr b) x y v c = moves (go_to y c)
makes (Instr.Jrl b) x y v c = moves (go_to y (linked c))
makes (Instr.Jsfr n) x y v c = moves (go_to (sfr_of n c) (leave n c))
makes (Instr.Swint n) x y v c = moves (onward 2 c)
makes (Instr.ShortJump op d) x y v c = moves (short_jump op d c)
makes (Instr.LongJump op d) x y v c = moves (long_jump op d c)

-- .. with its cost (Cycles.antt)
abbrev pub costing : ℕ → Effect → Effect
costing n e = record { control = e.control; reg = e.reg; value = e.value; wrote = e.wrote; cost = n }

unfoldable pub exec : Instr → ℕ → ℕ → ℕ → Control → Effect
exec i x y v c = costing (cost_of i y c) (makes i x y v c)

-- ---- operands and addresses

-- the registers that give x and y; any register where the instruction does not look at it
abbrev pub unread : ℕ
unread = 0

abbrev pub two : ℕ → ℕ → Sources
two a b = record { first = a; second = b }

unfoldable pub sources_of : Instr → Sources
sources_of (Instr.Alu op d b) = two d b
sources_of (Instr.ShiftImm op d n) = two d unread
sources_of (Instr.Cmp op d b) = two d b
sources_of (Instr.CmpImm op d n) = two d unread
sources_of (Instr.Cond op t d b) = two d b
sources_of (Instr.CondImm t d n) = two d unread
sources_of (Instr.Ldrpc d n) = two unread unread
sources_of (Instr.Imm op d n) = two d unread
sources_of (Instr.Load w d n b) = two unread b
sources_of (Instr.Store w d n b) = two d b
sources_of (Instr.Mfsfr d n) = two unread unread
sources_of (Instr.Mtsfr n b) = two unread b
sources_of (Instr.Jr b) = two unread b
sources_of (Instr.Jrl b) = two unread b
sources_of (Instr.Jsfr n) = two unread unread
sources_of (Instr.Swint n) = two unread unread
sources_of (Instr.ShortJump op d) = two unread unread
sources_of (Instr.LongJump op d) = two unread unread

-- "EA = zxt(UIMM4 << size) + Rb" and "PC + UIMM8 << 2" (the guide), aligned down after the sum
unfoldable pub data_address : Width → ℕ → ℕ → ByteAddr
data_address w base n = aligned_of w (byte_sum (record { 0 = base }) (n * bytes_of w))
