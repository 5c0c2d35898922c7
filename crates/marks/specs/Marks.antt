-- Marks of registers, TF and CY: what an instruction makes of them, and which stop it (document 01, "Marks").
-- Assumes nothing.
use Rattle.std.specs.Prelude.{ℕ, Bool, false, cond, ◌||◌, eqb}
use Rattle.std.specs.Bool.{beq}
use Rattle.isa.specs.declared.AluOp.{AluOp}
use Rattle.isa.specs.declared.CondOp.{CondOp}
use Rattle.isa.specs.declared.ImmOp.{ImmOp}
use Rattle.isa.specs.declared.ShortOp.{ShortOp}
use Rattle.isa.specs.declared.LongOp.{LongOp}
use Rattle.isa.specs.declared.Instr.{Instr}
use Rattle.marks.specs.declared.Flags.{Flags}
use Rattle.marks.specs.declared.Taint.{Taint}

-- "A result is marked if any source is: registers read, CY for addc and subc"; "xor of a register with itself stays marked"
unfoldable pub alu_mark : AluOp → Bool → Bool → Bool → Bool
alu_mark AluOp.Sub mx my c = mx || my
alu_mark AluOp.Add mx my c = mx || my
alu_mark AluOp.Subc mx my c = mx || my || c
alu_mark AluOp.Addc mx my c = mx || my || c
alu_mark AluOp.Mov mx my c = my
alu_mark AluOp.And mx my c = mx || my
alu_mark AluOp.Or mx my c = mx || my
alu_mark AluOp.Xor mx my c = mx || my
alu_mark AluOp.Sxb mx my c = my
alu_mark AluOp.Xhw mx my c = my
alu_mark AluOp.Sxh mx my c = my
alu_mark AluOp.Zxh mx my c = my
alu_mark AluOp.Lsl mx my c = mx || my
alu_mark AluOp.Lsr mx my c = mx || my
alu_mark AluOp.Asr mx my c = mx || my
alu_mark AluOp.Mult mx my c = mx || my

-- "add, sub, addc, subc mark CY likewise"
unfoldable pub alu_flags : AluOp → Bool → Flags → Flags
alu_flags AluOp.Sub m f = record { tf = f.tf; cy = m }
alu_flags AluOp.Add m f = record { tf = f.tf; cy = m }
alu_flags AluOp.Subc m f = record { tf = f.tf; cy = m }
alu_flags AluOp.Addc m f = record { tf = f.tf; cy = m }
alu_flags AluOp.Mov m f = f
alu_flags AluOp.And m f = f
alu_flags AluOp.Or m f = f
alu_flags AluOp.Xor m f = f
alu_flags AluOp.Sxb m f = f
alu_flags AluOp.Xhw m f = f
alu_flags AluOp.Sxh m f = f
alu_flags AluOp.Zxh m f = f
alu_flags AluOp.Lsl m f = f
alu_flags AluOp.Lsr m f = f
alu_flags AluOp.Asr m f = f
alu_flags AluOp.Mult m f = f

unfoldable pub cond_mark : CondOp → Bool → Bool → Bool
cond_mark CondOp.Mov mx my = my
cond_mark CondOp.Sub mx my = mx || my
cond_mark CondOp.Add mx my = mx || my

-- "Immediates .. are unmarked"
unfoldable pub imm_mark : ImmOp → Bool → Bool
imm_mark ImmOp.And mx = mx
imm_mark ImmOp.Add mx = mx
imm_mark ImmOp.Mov mx = false

-- "mfsfr psw is marked if TF or CY is; other mfsfr results are not"
unfoldable pub sfr_mark : ℕ → Flags → Bool
sfr_mark n f = cond (eqb n 0) (f.tf || f.cy) false

abbrev pub with : Bool → Flags → Taint
with m f = record { reg = m; flags = f }

-- The mark of the register written, and the marks of TF and CY after it. mx and my are the marks of the operands, lm that of what is loaded ("any byte
-- loaded"), s is TF. "A conditional ALU instruction under a marked TF marks Rd; under an unmarked TF that says no, Rd keeps value and mark";
-- "mtsfr psw unmarks both"
unfoldable pub taint : Instr → Bool → Bool → Bool → Bool → Flags → Taint
taint (Instr.Alu op d b) mx my lm s f = with (alu_mark op mx my f.cy) (alu_flags op (alu_mark op mx my f.cy) f)
taint (Instr.ShiftImm op d n) mx my lm s f = with mx f
taint (Instr.Cmp op d b) mx my lm s f = with false (record { tf = mx || my; cy = f.cy })
taint (Instr.CmpImm op d n) mx my lm s f = with false (record { tf = mx; cy = f.cy })
taint (Instr.Cond op t d b) mx my lm s f = with (f.tf || cond (beq s t) (cond_mark op mx my) mx) f
taint (Instr.CondImm t d n) mx my lm s f = with (f.tf || mx) f
taint (Instr.Ldrpc d n) mx my lm s f = with lm f
taint (Instr.Imm op d n) mx my lm s f = with (imm_mark op mx) f
taint (Instr.Load w d n b) mx my lm s f = with lm f
taint (Instr.Store w d n b) mx my lm s f = with false f
taint (Instr.Mfsfr d n) mx my lm s f = with (sfr_mark n f) f
taint (Instr.Mtsfr n b) mx my lm s f = with false (cond (eqb n 0) (record { tf = false; cy = false }) f)
taint (Instr.Jr b) mx my lm s f = with false f
taint (Instr.Jrl b) mx my lm s f = with false f
taint (Instr.Jsfr n) mx my lm s f = with false f
taint (Instr.Swint n) mx my lm s f = with false f
taint (Instr.ShortJump op d) mx my lm s f = with false f
taint (Instr.LongJump op d) mx my lm s f = with false f

-- "jf, jt, sjf, sjt with TF marked"
unfoldable pub short_blocked : ShortOp → Flags → Bool
short_blocked ShortOp.Sjf f = f.tf
short_blocked ShortOp.Sjt f = f.tf
short_blocked ShortOp.Sj f = false

unfoldable pub long_blocked : LongOp → Flags → Bool
long_blocked LongOp.Jf f = f.tf
long_blocked LongOp.Jt f = f.tf
long_blocked LongOp.J f = false
long_blocked LongOp.Jl f = false

-- "a register shift with its amount register marked becomes stop 14" (document 02, ticket 6)
unfoldable pub alu_blocked : AluOp → Bool → Bool
alu_blocked AluOp.Sub my = false
alu_blocked AluOp.Add my = false
alu_blocked AluOp.Subc my = false
alu_blocked AluOp.Addc my = false
alu_blocked AluOp.Mov my = false
alu_blocked AluOp.And my = false
alu_blocked AluOp.Or my = false
alu_blocked AluOp.Xor my = false
alu_blocked AluOp.Sxb my = false
alu_blocked AluOp.Xhw my = false
alu_blocked AluOp.Sxh my = false
alu_blocked AluOp.Zxh my = false
alu_blocked AluOp.Lsl my = my
alu_blocked AluOp.Lsr my = my
alu_blocked AluOp.Asr my = my
alu_blocked AluOp.Mult my = false

-- "Stop 14: ..; jr, jrl, any mtsfr, and any load or store base, with that register marked; jsfr of PSW with TF or CY marked"
unfoldable pub blocked : Instr → Bool → Flags → Bool
blocked (Instr.Alu op d b) my f = alu_blocked op my
blocked (Instr.ShiftImm op d n) my f = false
blocked (Instr.Cmp op d b) my f = false
blocked (Instr.CmpImm op d n) my f = false
blocked (Instr.Cond op t d b) my f = false
blocked (Instr.CondImm t d n) my f = false
blocked (Instr.Ldrpc d n) my f = false
blocked (Instr.Imm op d n) my f = false
blocked (Instr.Load w d n b) my f = my
blocked (Instr.Store w d n b) my f = my
blocked (Instr.Mfsfr d n) my f = false
blocked (Instr.Mtsfr n b) my f = my
blocked (Instr.Jr b) my f = my
blocked (Instr.Jrl b) my f = my
blocked (Instr.Jsfr n) my f = sfr_mark n f
blocked (Instr.Swint n) my f = false
blocked (Instr.ShortJump op d) my f = short_blocked op f
blocked (Instr.LongJump op d) my f = long_blocked op f
