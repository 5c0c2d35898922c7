-- With nothing marked, no byte, register or flag that an instruction reads is marked, none that it writes becomes marked, and stop 14 does not come.
-- Assumes nothing.
use Prim.Native.Nat.{ℕ, zero, suc, ◌+◌, ◌-◌, ◌%◌}
use mathlib.Core.Path.{◌≡◌, refl, sym, ap, ◌∙◌}
use mathlib.Core.Bool.{Bool, true, false, cond, beq}
use mathlib.Core.List.{List, [], ◌∷◌}
use native.Mathlib.Omega.{arith}
use lib.Dec.{eqb}
use borrow.Author.Tests.{ltb-false}
use lib.ListN.{get_or, set, replicate}
use lib.Seq.{set-get_or}
use Rattle.word.specs.Bytes.{bytes_of, any_above}
use Rattle.word.specs.declared.ByteAddr.{ByteAddr}
use Rattle.word.specs.declared.Width.{Width}
use Rattle.isa.specs.declared.AluOp.{AluOp}
use Rattle.isa.specs.declared.CondOp.{CondOp}
use Rattle.isa.specs.declared.ImmOp.{ImmOp}
use Rattle.isa.specs.declared.ShortOp.{ShortOp}
use Rattle.isa.specs.declared.LongOp.{LongOp}
use Rattle.isa.specs.declared.Instr.{Instr}
use Rattle.instruction.specs.declared.Reach.{Reach}
use Rattle.marks.specs.Marks.{alu_mark, alu_flags, cond_mark, imm_mark, sfr_mark, with, taint, alu_blocked, short_blocked, long_blocked, blocked}
use Rattle.marks.specs.Memory.{Marks, bits, bytes, mark_at, any_mark, marked_at, bad_mark}
use Rattle.marks.proofs.Places.{any_none, puts_off}
use Rattle.marks.specs.declared.Flags.{Flags}
use Rattle.instruction.specs.Act.{loaded_mark}
use Rattle.machine.specs.Step.{marked_to}

-- no mark on TF or CY
abbrev pub none : Flags
none = record { tf = false; cy = false }

-- each element of n times a is a, and so is what is read past them
pub all_same : {A : Type 0} (n i : ℕ) (a : A) → get_or (replicate n a) i a ≡ a
all_same zero i a = refl
all_same (suc n) zero a = refl
all_same (suc n) (suc i) a = all_same n i a

-- ---- registers

pub reg_off : (i : ℕ) → get_or (replicate 16 false) i false ≡ false
reg_off i = all_same 16 i false

pub reg_kept : (i : ℕ) → set (replicate 16 false) i false ≡ replicate 16 false
reg_kept i = ap (set (replicate 16 false) i) (sym (reg_off i)) ∙ set-get_or (replicate 16 false) i false

-- ---- memory

same : {A : Type 0} (c : Bool) (x : A) → cond c x x ≡ x
same true x = refl
same false x = refl

module _ (k : Marks) (z : (i : ℕ) → mark_at k i ≡ false) where
  any_off : (n a : ℕ) → any_mark n k a ≡ false
  any_off n a = any_none n k a (λ j l. z (a + j))

  pub marked_off : (w : Width) (a : ByteAddr) → marked_at w k a ≡ false
  marked_off w a = any_off (bytes_of w) a.0

  pub loaded_off : (r : Reach) → loaded_mark r k ≡ false
  loaded_off Reach.Nowhere = refl
  loaded_off (Reach.Reads w a) = marked_off w a
  loaded_off (Reach.Writes w a) = refl
  loaded_off (Reach.Raises n) = refl

  pub marked_kept : (r : Reach) → marked_to r false k ≡ k
  marked_kept Reach.Nowhere = refl
  marked_kept (Reach.Reads w a) = refl
  marked_kept (Reach.Writes w a) = puts_off (bytes_of w) k a.0 (any_off (bytes_of w) a.0)
  marked_kept (Reach.Raises n) = refl

-- a slice without a mark is no refusal 3
pub none_bad : (n : ℕ) (k : Marks) → ((i : ℕ) → mark_at k i ≡ false) → bad_mark n k ≡ false
unfolding any_above
none_bad n (bits k) z = any_none (8 - n % 8) (bits k) n (λ j l. z (n + j))
none_bad n (bytes k) z = above_off k (λ i. let q = ltb-false 0 (get_or k i 0) (z i) in omega arith)
  where
    above_off : (l : List ℕ) → ((i : ℕ) → get_or l i 0 ≡ 0) → any_above 1 l ≡ false
    above_off [] h = refl
    above_off (x ∷ l) h = let e : x ≡ 0 = h 0 in rw e (above_off l (λ i. h (suc i)))

-- ---- instructions

alu_off : (op : AluOp) → alu_mark op false false false ≡ false
unfolding alu_mark
alu_off AluOp.Sub = refl
alu_off AluOp.Add = refl
alu_off AluOp.Subc = refl
alu_off AluOp.Addc = refl
alu_off AluOp.Mov = refl
alu_off AluOp.And = refl
alu_off AluOp.Or = refl
alu_off AluOp.Xor = refl
alu_off AluOp.Sxb = refl
alu_off AluOp.Xhw = refl
alu_off AluOp.Sxh = refl
alu_off AluOp.Zxh = refl
alu_off AluOp.Lsl = refl
alu_off AluOp.Lsr = refl
alu_off AluOp.Asr = refl
alu_off AluOp.Mult = refl

flags_off : (op : AluOp) → alu_flags op false none ≡ none
unfolding alu_flags
flags_off AluOp.Sub = refl
flags_off AluOp.Add = refl
flags_off AluOp.Subc = refl
flags_off AluOp.Addc = refl
flags_off AluOp.Mov = refl
flags_off AluOp.And = refl
flags_off AluOp.Or = refl
flags_off AluOp.Xor = refl
flags_off AluOp.Sxb = refl
flags_off AluOp.Xhw = refl
flags_off AluOp.Sxh = refl
flags_off AluOp.Zxh = refl
flags_off AluOp.Lsl = refl
flags_off AluOp.Lsr = refl
flags_off AluOp.Asr = refl
flags_off AluOp.Mult = refl

cond_off : (op : CondOp) (b : Bool) → cond b (cond_mark op false false) false ≡ false
unfolding cond_mark
cond_off CondOp.Mov b = same b false
cond_off CondOp.Sub b = same b false
cond_off CondOp.Add b = same b false

imm_off : (op : ImmOp) → imm_mark op false ≡ false
unfolding imm_mark
imm_off ImmOp.And = refl
imm_off ImmOp.Add = refl
imm_off ImmOp.Mov = refl

sfr_off : (n : ℕ) → sfr_mark n none ≡ false
unfolding sfr_mark
sfr_off n = same (eqb n 0) false

pub taint_off : (i : Instr) (s : Bool) → taint i false false false s none ≡ with false none
unfolding taint
taint_off (Instr.Alu op d b) s = rw (alu_off op, flags_off op)
taint_off (Instr.ShiftImm op d n) s = refl
taint_off (Instr.Cmp op d b) s = refl
taint_off (Instr.CmpImm op d n) s = refl
taint_off (Instr.Cond op t d b) s = ap (λ (m : Bool). with m none) (cond_off op (beq s t))
taint_off (Instr.CondImm t d n) s = refl
taint_off (Instr.Ldrpc d n) s = refl
taint_off (Instr.Imm op d n) s = rw (imm_off op)
taint_off (Instr.Load w d n b) s = refl
taint_off (Instr.Store w d n b) s = refl
taint_off (Instr.Mfsfr d n) s = rw (sfr_off n)
taint_off (Instr.Mtsfr n b) s = ap (with false) (same (eqb n 0) none)
taint_off (Instr.Jr b) s = refl
taint_off (Instr.Jrl b) s = refl
taint_off (Instr.Jsfr n) s = refl
taint_off (Instr.Swint n) s = refl
taint_off (Instr.ShortJump op d) s = refl
taint_off (Instr.LongJump op d) s = refl

alu_clear : (op : AluOp) → alu_blocked op false ≡ false
unfolding alu_blocked
alu_clear AluOp.Sub = refl
alu_clear AluOp.Add = refl
alu_clear AluOp.Subc = refl
alu_clear AluOp.Addc = refl
alu_clear AluOp.Mov = refl
alu_clear AluOp.And = refl
alu_clear AluOp.Or = refl
alu_clear AluOp.Xor = refl
alu_clear AluOp.Sxb = refl
alu_clear AluOp.Xhw = refl
alu_clear AluOp.Sxh = refl
alu_clear AluOp.Zxh = refl
alu_clear AluOp.Lsl = refl
alu_clear AluOp.Lsr = refl
alu_clear AluOp.Asr = refl
alu_clear AluOp.Mult = refl

short_off : (op : ShortOp) → short_blocked op none ≡ false
unfolding short_blocked
short_off ShortOp.Sjf = refl
short_off ShortOp.Sjt = refl
short_off ShortOp.Sj = refl

long_off : (op : LongOp) → long_blocked op none ≡ false
unfolding long_blocked
long_off LongOp.Jf = refl
long_off LongOp.Jt = refl
long_off LongOp.J = refl
long_off LongOp.Jl = refl

pub blocked_off : (i : Instr) → blocked i false none ≡ false
unfolding blocked
blocked_off (Instr.Alu op d b) = alu_clear op
blocked_off (Instr.ShiftImm op d n) = refl
blocked_off (Instr.Cmp op d b) = refl
blocked_off (Instr.CmpImm op d n) = refl
blocked_off (Instr.Cond op t d b) = refl
blocked_off (Instr.CondImm t d n) = refl
blocked_off (Instr.Ldrpc d n) = refl
blocked_off (Instr.Imm op d n) = refl
blocked_off (Instr.Load w d n b) = refl
blocked_off (Instr.Store w d n b) = refl
blocked_off (Instr.Mfsfr d n) = refl
blocked_off (Instr.Mtsfr n b) = refl
blocked_off (Instr.Jr b) = refl
blocked_off (Instr.Jrl b) = refl
blocked_off (Instr.Jsfr n) = sfr_off n
blocked_off (Instr.Swint n) = refl
blocked_off (Instr.ShortJump op d) = short_off op
blocked_off (Instr.LongJump op d) = long_off op
