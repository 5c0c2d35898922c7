-- Each code is a nibble, and the byte that it makes has its kind.
-- Assumes nothing.
use mathlib.Core.Path.{◌≡◌, refl}
use mathlib.Core.Bool.{Bool, true, false}
use Prim.Native.Nat.{ℕ, ◌+◌, ◌*◌, ◌-◌, ◌/◌, ◌≤◌, ◌<◌}
use native.Mathlib.Omega.{arith}
use lib.Dec.{T, ltb, lit<, lit≤}
use borrow.Author.Tests.{lt-ltb, le-ltb}
use Rattle.word.specs.declared.Width.{Width}
use Rattle.isa.specs.Codes.{kind_in, kind_of, fixed_row, jump_row, shift_no, alu_no, cmp_no, cmp_imm_no, cond_no, cond_imm_no, imm_no, load_no, store_no, short_no, long_no}
use Rattle.isa.specs.declared.AluOp.{AluOp}
use Rattle.isa.specs.declared.ShiftOp.{ShiftOp}
use Rattle.isa.specs.declared.CmpOp.{CmpOp}
use Rattle.isa.specs.declared.CmpImmOp.{CmpImmOp}
use Rattle.isa.specs.declared.CondOp.{CondOp}
use Rattle.isa.specs.declared.ImmOp.{ImmOp}
use Rattle.isa.specs.declared.ShortOp.{ShortOp}
use Rattle.isa.specs.declared.LongOp.{LongOp}
use Rattle.isa.specs.declared.Kind.{Kind}

-- nibbles a and b make a first byte of kind k
pub record Code (a b : ℕ) (k : Kind) : Type 0 where
  pub first : a < 16
  pub second : b < 16
  pub kind : kind_of (a * 16 + b) ≡ k

code : {a b : ℕ} {k : Kind} → T (ltb a 16) → T (ltb b 16) → kind_of (a * 16 + b) ≡ k → Code a b k
code p q e = record { first = lit< p; second = lit< q; kind = e }

pub alu : (op : AluOp) → Code 2 (alu_no op) (Kind.Alu op)
unfolding kind_of
alu AluOp.Sub = code tt tt refl
alu AluOp.Add = code tt tt refl
alu AluOp.Subc = code tt tt refl
alu AluOp.Addc = code tt tt refl
alu AluOp.Mov = code tt tt refl
alu AluOp.And = code tt tt refl
alu AluOp.Or = code tt tt refl
alu AluOp.Xor = code tt tt refl
alu AluOp.Sxb = code tt tt refl
alu AluOp.Xhw = code tt tt refl
alu AluOp.Sxh = code tt tt refl
alu AluOp.Zxh = code tt tt refl
alu AluOp.Lsl = code tt tt refl
alu AluOp.Lsr = code tt tt refl
alu AluOp.Asr = code tt tt refl
alu AluOp.Mult = code tt tt refl

pub shift : (op : ShiftOp) → Code 0 (shift_no op) (Kind.ShiftImm op)
unfolding kind_of
shift ShiftOp.Lsl = code tt tt refl
shift ShiftOp.Lsr = code tt tt refl
shift ShiftOp.Asr = code tt tt refl
shift ShiftOp.Mult = code tt tt refl

pub cmp : (op : CmpOp) → Code 3 (cmp_no op) (Kind.Cmp op)
unfolding kind_of
cmp CmpOp.Eq = code tt tt refl
cmp CmpOp.Hs = code tt tt refl
cmp CmpOp.Ls = code tt tt refl
cmp CmpOp.Lt = code tt tt refl
cmp CmpOp.Gt = code tt tt refl

pub cmp_imm : (op : CmpImmOp) → Code 3 (cmp_imm_no op) (Kind.CmpImm op)
unfolding kind_of
cmp_imm CmpImmOp.Eq = code tt tt refl
cmp_imm CmpImmOp.Lt = code tt tt refl
cmp_imm CmpImmOp.Gt = code tt tt refl

pub conditional : (op : CondOp) (t : Bool) → Code 3 (cond_no op t) (Kind.Cond op t)
unfolding kind_of
conditional CondOp.Mov false = code tt tt refl
conditional CondOp.Mov true = code tt tt refl
conditional CondOp.Sub false = code tt tt refl
conditional CondOp.Sub true = code tt tt refl
conditional CondOp.Add false = code tt tt refl
conditional CondOp.Add true = code tt tt refl

pub conditional_imm : (t : Bool) → Code 3 (cond_imm_no t) (Kind.CondImm t)
unfolding kind_of
conditional_imm false = code tt tt refl
conditional_imm true = code tt tt refl

-- the kinds of 0x1?, which have one code each
pub swint : Code 1 0 Kind.Swint
unfolding kind_of
swint = code tt tt refl

pub mfsfr : Code 1 2 Kind.Mfsfr
unfolding kind_of
mfsfr = code tt tt refl

pub mtsfr : Code 1 3 Kind.Mtsfr
unfolding kind_of
mtsfr = code tt tt refl

pub jr : Code 1 12 Kind.Jr
unfolding kind_of
jr = code tt tt refl

pub jrl : Code 1 13 Kind.Jrl
unfolding kind_of
jrl = code tt tt refl

pub jsfr : Code 1 14 Kind.Jsfr
unfolding kind_of
jsfr = code tt tt refl

-- 0x4? to 0xd?: the second nibble is an operand
pub fixed : (a b : ℕ) → 4 ≤ a → a < 14 → b < 16 → Code a b (kind_in fixed_row (a - 4))
unfolding kind_of
fixed a b h4 h14 hb =
    let e : (a * 16 + b) / 16 - 4 ≡ a - 4 = omega arith in
    record { first = omega arith; second = hb; kind = simp (le-ltb (a * 16 + b) 64 (omega arith), lt-ltb (a * 16 + b) 224 (omega arith), e) }

pub ldrpc : (b : ℕ) → b < 16 → Code 4 b Kind.Ldrpc
ldrpc b h = fixed 4 b (lit≤ tt) (lit≤ tt) h

pub imm : (op : ImmOp) (b : ℕ) → b < 16 → Code (imm_no op) b (Kind.Imm op)
imm ImmOp.And b h = fixed 5 b (lit≤ tt) (lit≤ tt) h
imm ImmOp.Add b h = fixed 6 b (lit≤ tt) (lit≤ tt) h
imm ImmOp.Mov b h = fixed 7 b (lit≤ tt) (lit≤ tt) h

pub load : (w : Width) (b : ℕ) → b < 16 → Code (load_no w) b (Kind.Load w)
load Width.Word b h = fixed 8 b (lit≤ tt) (lit≤ tt) h
load Width.Half b h = fixed 10 b (lit≤ tt) (lit≤ tt) h
load Width.Byte b h = fixed 12 b (lit≤ tt) (lit≤ tt) h

pub store : (w : Width) (b : ℕ) → b < 16 → Code (store_no w) b (Kind.Store w)
store Width.Word b h = fixed 9 b (lit≤ tt) (lit≤ tt) h
store Width.Half b h = fixed 11 b (lit≤ tt) (lit≤ tt) h
store Width.Byte b h = fixed 13 b (lit≤ tt) (lit≤ tt) h

-- 0xe0 to 0xff: a code of six bits, and two bits of the displacement
jump : (q m : ℕ) → 56 ≤ q → m < 4 → kind_of (q * 4 + m) ≡ kind_in jump_row (q - 56)
unfolding kind_of
jump q m h56 hm =
    let e : (q * 4 + m) / 4 - 56 ≡ q - 56 = omega arith in
    simp (le-ltb (q * 4 + m) 64 (omega arith), le-ltb (q * 4 + m) 224 (omega arith), e)

pub short_jump_lem : (op : ShortOp) (m : ℕ) → m < 4 → kind_of (short_no op * 4 + m) ≡ Kind.ShortJump op
short_jump_lem ShortOp.Sjf m h = jump 57 m (lit≤ tt) h
short_jump_lem ShortOp.Sjt m h = jump 59 m (lit≤ tt) h
short_jump_lem ShortOp.Sj m h = jump 61 m (lit≤ tt) h

pub long_jump_lem : (op : LongOp) (m : ℕ) → m < 4 → kind_of (long_no op * 4 + m) ≡ Kind.LongJump op
long_jump_lem LongOp.Jf m h = jump 56 m (lit≤ tt) h
long_jump_lem LongOp.Jt m h = jump 58 m (lit≤ tt) h
long_jump_lem LongOp.J m h = jump 60 m (lit≤ tt) h
long_jump_lem LongOp.Jl m h = jump 62 m (lit≤ tt) h
