-- One instruction in two runs: what it writes is equal, or taint marks it.
-- Assumes nothing.
use Prim.Native.Nat.{ℕ, zero, suc, ◌+◌, ◌*◌, ◌/◌, ◌%◌}
use mathlib.Core.Path.{◌≡◌, refl, ap, ap₂, subst}
use mathlib.Core.Bool.{Bool, true, false, cond, beq, ◌&&◌, ◌||◌}
use native.Mathlib.Omega.{arith}
use lib.Dec.{eqb, eqb-suc-zero}
use lib.Bits.{bit_and, bit_or, bit_xor}
use Rattle.word.specs.Numbers.{sum_of, carry_of, difference_of, borrow_of, product_of, lsl_of, lsr_of, asr_of, extend_of}
use Rattle.word.specs.declared.HalfDisp.{HalfDisp}
use Rattle.word.specs.declared.Width.{Width}
use Rattle.isa.specs.declared.AluOp.{AluOp}
use Rattle.isa.specs.declared.CondOp.{CondOp}
use Rattle.isa.specs.declared.ImmOp.{ImmOp}
use Rattle.isa.specs.declared.ShortOp.{ShortOp}
use Rattle.isa.specs.declared.LongOp.{LongOp}
use Rattle.isa.specs.declared.Instr.{Instr}
use Rattle.cpu.specs.Control.{with_sfr, tf, cy, wants, sfr_of}
use Rattle.cpu.specs.Exec.{alu_of, carried, shift_of, cmp_of, cmp_imm_of, cond_of, imm_value, short_jump, long_jump, written, puts_reg, moves, makes, exec, data_address}
use Rattle.cpu.specs.Cycles.{shift_cost, alu_cost, branch_cost, short_cost, long_cost, cost_of}
use Rattle.cpu.specs.declared.Control.{Control}
use Rattle.cpu.specs.declared.Effect.{Effect}
use Rattle.instruction.specs.Act.{reach_of}
use Rattle.instruction.specs.declared.Reach.{Reach}
use Rattle.marks.specs.Marks.{alu_mark, alu_flags, cond_mark, imm_mark, sfr_mark, with, taint, alu_blocked, short_blocked, long_blocked, blocked}
use Rattle.marks.specs.declared.Flags.{Flags}
use Rattle.marks.specs.declared.Taint.{Taint}
use Rattle.secrecy.specs.Same.{SameControl}
use Rattle.secrecy.proofs.Psw.{psw_equal}
use Rattle.secrecy.proofs.Control.{pc_same, sets_tf, sets_cy, onwards, goes, links, jumps, branches, leaves, accepts, writes_psw_lem, writes_other}

-- what an instruction makes, t its marks
pub record SameEffect (t : Taint) (e g : Effect) : Type 0 where
  pub control : SameControl t.flags e.control g.control
  pub reg : e.reg ≡ g.reg
  pub value : t.reg ≡ false → e.value ≡ g.value
  pub wrote : e.wrote ≡ g.wrote
  pub cost : e.cost ≡ g.cost

-- a mark that is made of two
pub left_off : (a b : Bool) → (a || b) ≡ false → a ≡ false
left_off true b e = e
left_off false b e = refl

pub right_off : (a b : Bool) → (a || b) ≡ false → b ≡ false
right_off true b e = let z : ◌≡◌ {A = ℕ} 0 1 = cc in absurd (omega arith)
right_off false b e = e

-- an SFR that is read
pub sfr_same : {f : Flags} {a b : Control} → SameControl f a b → (n : ℕ) → sfr_mark n f ≡ false → sfr_of n a ≡ sfr_of n b
unfolding sfr_mark with_sfr
sfr_same {f} s zero h = psw_equal s.psw (left_off f.tf f.cy h) (right_off f.tf f.cy h)
sfr_same s (suc n) h = ap (λ (c : Control). sfr_of (suc n) c) s.rest

-- a register and the next instruction, or none
sets_same : {m : Bool} {f : Flags} {a b : Control} (d v x : ℕ) → SameControl f a b → (m ≡ false → v ≡ x) → SameEffect (with m f) (puts_reg d v a) (puts_reg d x b)
sets_same d v x s e = record { control = onwards s 2; reg = refl; value = e; wrote = refl; cost = refl }

moves_same : {f : Flags} {a b : Control} → SameControl f a b → SameEffect (with false f) (moves a) (moves b)
moves_same s = record { control = s; reg = refl; value = λ h. refl; wrote = refl; cost = refl }

-- the two operands x and y with marks mx and my, in the second run u and w
module _ (mx my : Bool) (x y u w : ℕ) (p : mx ≡ false → x ≡ u) (q : my ≡ false → y ≡ w) where
  both : {A : Type 0} (g : ℕ → ℕ → A) → (mx || my) ≡ false → g x y ≡ g u w
  both g h = ap₂ g (p (left_off mx my h)) (q (right_off mx my h))

  cond_value : (op : CondOp) → cond_mark op mx my ≡ false → cond_of op x y ≡ cond_of op u w
  unfolding cond_mark cond_of
  cond_value CondOp.Mov h = q h
  cond_value CondOp.Sub h = both (λ (m n : ℕ). difference_of m n false) h
  cond_value CondOp.Add h = both (λ (m n : ℕ). sum_of m n false) h

  imm_value_lem : (op : ImmOp) (n : ℕ) → imm_mark op mx ≡ false → imm_value op x n ≡ imm_value op u n
  unfolding imm_mark imm_value
  imm_value_lem ImmOp.And n h = ap (λ (m : ℕ). bit_and m n) (p h)
  imm_value_lem ImmOp.Add n h = ap (λ (m : ℕ). sum_of m n false) (p h)
  imm_value_lem ImmOp.Mov n h = refl

  -- a choice by TF, t and v what it says in the two runs
  chosen_value : (op : CondOp) (m t v : Bool) → (m ≡ false → t ≡ v) → (m || cond t (cond_mark op mx my) mx) ≡ false
      → cond t (cond_of op x y) x ≡ cond v (cond_of op u w) u
  chosen_value op true t v e h = let z : ◌≡◌ {A = ℕ} 0 1 = cc in absurd (omega arith)
  chosen_value op false true v e h = subst (λ (l : Bool). cond_of op x y ≡ cond l (cond_of op u w) u) (e refl) (cond_value op h)
  chosen_value op false false v e h = subst (λ (l : Bool). x ≡ cond l (cond_of op u w) u) (e refl) (p h)

  chosen_sum : (n : ℕ) (m t v : Bool) → (m ≡ false → t ≡ v) → (m || mx) ≡ false → cond t (sum_of x n false) x ≡ cond v (sum_of u n false) u
  chosen_sum n m t v e h = ap₂ (λ (l : Bool) (k : ℕ). cond l (sum_of k n false) k) (e (left_off m mx h)) (p (right_off m mx h))

  module _ {f : Flags} {a b : Control} (s : SameControl f a b) where
    three : {A : Type 0} (g : ℕ → ℕ → Bool → A) → (mx || my || f.cy) ≡ false → g x y (cy a) ≡ g u w (cy b)
    three {A} g h =
        ap₂ (λ (k : Bool → A) (t : Bool). k t) (both g (left_off (mx || my) f.cy h)) (s.psw.cy (right_off (mx || my) f.cy h))

    alu_value : (op : AluOp) → alu_mark op mx my f.cy ≡ false → alu_of op x y (cy a) ≡ alu_of op u w (cy b)
    unfolding alu_mark alu_of
    alu_value AluOp.Sub h = both (λ (m n : ℕ). difference_of m n false) h
    alu_value AluOp.Add h = both (λ (m n : ℕ). sum_of m n false) h
    alu_value AluOp.Subc h = three difference_of h
    alu_value AluOp.Addc h = three sum_of h
    alu_value AluOp.Mov h = q h
    alu_value AluOp.And h = both bit_and h
    alu_value AluOp.Or h = both bit_or h
    alu_value AluOp.Xor h = both bit_xor h
    alu_value AluOp.Sxb h = ap (extend_of 8) (q h)
    alu_value AluOp.Xhw h = ap (λ (n : ℕ). n % 65536 * 65536 + n / 65536) (q h)
    alu_value AluOp.Sxh h = ap (extend_of 16) (q h)
    alu_value AluOp.Zxh h = ap (λ (n : ℕ). n % 65536) (q h)
    alu_value AluOp.Lsl h = both (λ (m n : ℕ). lsl_of m (n % 64)) h
    alu_value AluOp.Lsr h = both (λ (m n : ℕ). lsr_of m (n % 64)) h
    alu_value AluOp.Asr h = both (λ (m n : ℕ). asr_of m (n % 64)) h
    alu_value AluOp.Mult h = both product_of h

    carries : (op : AluOp) → SameControl (alu_flags op (alu_mark op mx my f.cy) f) (carried op x y a) (carried op u w b)
    unfolding alu_mark alu_flags carried
    carries AluOp.Sub = sets_cy s _ _ _ (both (λ (m n : ℕ). borrow_of m n false))
    carries AluOp.Add = sets_cy s _ _ _ (both (λ (m n : ℕ). carry_of m n false))
    carries AluOp.Subc = sets_cy s _ _ _ (three borrow_of)
    carries AluOp.Addc = sets_cy s _ _ _ (three carry_of)
    carries AluOp.Mov = s
    carries AluOp.And = s
    carries AluOp.Or = s
    carries AluOp.Xor = s
    carries AluOp.Sxb = s
    carries AluOp.Xhw = s
    carries AluOp.Sxh = s
    carries AluOp.Zxh = s
    carries AluOp.Lsl = s
    carries AluOp.Lsr = s
    carries AluOp.Asr = s
    carries AluOp.Mult = s

short_jumps : {f : Flags} {a b : Control} (op : ShortOp) (d : HalfDisp) → SameControl f a b → short_blocked op f ≡ false
    → SameControl f (short_jump op d a) (short_jump op d b)
unfolding short_blocked
short_jumps ShortOp.Sjf d s h = branches s false d 2 h
short_jumps ShortOp.Sjt d s h = branches s true d 2 h
short_jumps ShortOp.Sj d s h = jumps s d

long_jumps : {f : Flags} {a b : Control} (op : LongOp) (d : HalfDisp) → SameControl f a b → long_blocked op f ≡ false
    → SameControl f (long_jump op d a) (long_jump op d b)
unfolding long_blocked
long_jumps LongOp.Jf d s h = branches s false d 4 h
long_jumps LongOp.Jt d s h = branches s true d 4 h
long_jumps LongOp.J d s h = jumps s d
long_jumps LongOp.Jl d s h = jumps (links s) d

-- mtsfr, whose operand is unmarked
writes_same : {f : Flags} {a b : Control} (n v x : ℕ) → SameControl f a b → v ≡ x
    → SameControl (cond (eqb n 0) (record { tf = false; cy = false }) f) (written n v a) (written n x b)
writes_same {f} {a} {b} zero v x s e = subst (λ (k : ℕ). SameControl (record { tf = false; cy = false }) (written 0 v a) (written 0 k b)) e (writes_psw_lem s v)
writes_same {f} {a} {b} (suc n) v x s e =
    rw (eqb-suc-zero n) (subst (λ (k : ℕ). SameControl f (written (suc n) v a) (written (suc n) k b)) e (writes_other s (suc n) v (eqb-suc-zero n)))

-- TF says what the instruction wants, if it is unmarked
wants_same : {f : Flags} {a b : Control} → SameControl f a b → (t : Bool) → f.tf ≡ false → wants t a ≡ wants t b
wants_same s t h = ap (λ (v : Bool). beq v t) (s.psw.tf h)

-- l is the mark of what is loaded, v and z that in the two runs
makes_same : (i : Instr) (mx my l : Bool) (x y v u w z : ℕ) → (mx ≡ false → x ≡ u) → (my ≡ false → y ≡ w) → (l ≡ false → v ≡ z)
    → {f : Flags} {a b : Control} → SameControl f a b → blocked i my f ≡ false
    → SameEffect (taint i mx my l (tf a) f) (makes i x y v a) (makes i u w z b)
unfolding taint makes blocked
makes_same (Instr.Alu op d r) mx my l x y v u w z p q o s h =
    sets_same d _ _ (carries mx my x y u w p q s op) (alu_value mx my x y u w p q s op)
makes_same (Instr.ShiftImm op d n) mx my l x y v u w z p q o s h = sets_same d _ _ s (λ e. ap (λ (k : ℕ). shift_of op k n) (p e))
makes_same (Instr.Cmp op d r) mx my l x y v u w z p q o s h =
    moves_same (onwards (sets_tf s _ _ _ (both mx my x y u w p q (cmp_of op))) 2)
makes_same (Instr.CmpImm op d n) mx my l x y v u w z p q o s h =
    moves_same (onwards (sets_tf s _ _ _ (λ e. ap (λ (k : ℕ). cmp_imm_of op k n) (p e))) 2)
makes_same (Instr.Cond op t d r) mx my l x y v u w z p q o {f} {a} {b} s h =
    sets_same d _ _ s (chosen_value mx my x y u w p q op f.tf (wants t a) (wants t b) (wants_same s t))
makes_same (Instr.CondImm t d n) mx my l x y v u w z p q o {f} {a} {b} s h =
    sets_same d _ _ s (chosen_sum mx my x y u w p q n f.tf (wants t a) (wants t b) (wants_same s t))
makes_same (Instr.Ldrpc d n) mx my l x y v u w z p q o s h = sets_same d _ _ s o
makes_same (Instr.Imm op d n) mx my l x y v u w z p q o s h = sets_same d _ _ s (imm_value_lem mx my x y u w p q op n)
makes_same (Instr.Load k d n r) mx my l x y v u w z p q o s h = sets_same d _ _ s o
makes_same (Instr.Store k d n r) mx my l x y v u w z p q o s h = moves_same (onwards s 2)
makes_same (Instr.Mfsfr d n) mx my l x y v u w z p q o s h = sets_same d _ _ s (sfr_same s n)
makes_same (Instr.Mtsfr n r) mx my l x y v u w z p q o s h =
    record {
      control = onwards (writes_same n y w s (q h)) 2;
      reg = refl;
      value = λ e. refl;
      wrote = ap (λ (t : Bool). eqb n 3 && t) (accepts s);
      cost = refl;
    }
makes_same (Instr.Jr r) mx my l x y v u w z p q o s h = moves_same (goes s y w (q h))
makes_same (Instr.Jrl r) mx my l x y v u w z p q o s h = moves_same (goes (links s) y w (q h))
makes_same (Instr.Jsfr n) mx my l x y v u w z p q o s h = moves_same (goes (leaves s n) _ _ (sfr_same s n h))
makes_same (Instr.Swint n) mx my l x y v u w z p q o s h = moves_same (onwards s 2)
makes_same (Instr.ShortJump op d) mx my l x y v u w z p q o s h = moves_same (short_jumps op d s h)
makes_same (Instr.LongJump op d) mx my l x y v u w z p q o s h = moves_same (long_jumps op d s h)

-- what it costs is the same: an amount and a condition that are marked stop it
branch_cost_lem : {f : Flags} {a b : Control} → SameControl f a b → (t : Bool) → f.tf ≡ false → branch_cost t a ≡ branch_cost t b
branch_cost_lem s t h = ap (λ (k : Bool). cond k 2 3) (wants_same s t h)

alu_cost_lem : (op : AluOp) (my : Bool) (y w : ℕ) → (my ≡ false → y ≡ w) → alu_blocked op my ≡ false → alu_cost op y ≡ alu_cost op w
unfolding alu_blocked alu_cost
alu_cost_lem AluOp.Sub my y w q h = refl
alu_cost_lem AluOp.Add my y w q h = refl
alu_cost_lem AluOp.Subc my y w q h = refl
alu_cost_lem AluOp.Addc my y w q h = refl
alu_cost_lem AluOp.Mov my y w q h = refl
alu_cost_lem AluOp.And my y w q h = refl
alu_cost_lem AluOp.Or my y w q h = refl
alu_cost_lem AluOp.Xor my y w q h = refl
alu_cost_lem AluOp.Sxb my y w q h = refl
alu_cost_lem AluOp.Xhw my y w q h = refl
alu_cost_lem AluOp.Sxh my y w q h = refl
alu_cost_lem AluOp.Zxh my y w q h = refl
alu_cost_lem AluOp.Lsl my y w q h = ap (λ (k : ℕ). shift_cost (k % 64)) (q h)
alu_cost_lem AluOp.Lsr my y w q h = ap (λ (k : ℕ). shift_cost (k % 64)) (q h)
alu_cost_lem AluOp.Asr my y w q h = ap (λ (k : ℕ). shift_cost (k % 64)) (q h)
alu_cost_lem AluOp.Mult my y w q h = refl

short_cost_lem : (op : ShortOp) {f : Flags} {a b : Control} → SameControl f a b → short_blocked op f ≡ false → short_cost op a ≡ short_cost op b
unfolding short_blocked
short_cost_lem ShortOp.Sjf s h = branch_cost_lem s false h
short_cost_lem ShortOp.Sjt s h = branch_cost_lem s true h
short_cost_lem ShortOp.Sj s h = refl

long_cost_lem : (op : LongOp) {f : Flags} {a b : Control} → SameControl f a b → long_blocked op f ≡ false → long_cost op a ≡ long_cost op b
unfolding long_blocked
long_cost_lem LongOp.Jf s h = branch_cost_lem s false h
long_cost_lem LongOp.Jt s h = branch_cost_lem s true h
long_cost_lem LongOp.J s h = refl
long_cost_lem LongOp.Jl s h = refl

cost_same : (i : Instr) (my : Bool) (y w : ℕ) → (my ≡ false → y ≡ w) → {f : Flags} {a b : Control} → SameControl f a b → blocked i my f ≡ false
    → cost_of i y a ≡ cost_of i w b
unfolding cost_of blocked
cost_same (Instr.Alu op d r) my y w q s h = alu_cost_lem op my y w q h
cost_same (Instr.ShiftImm op d n) my y w q s h = refl
cost_same (Instr.Cmp op d r) my y w q s h = refl
cost_same (Instr.CmpImm op d n) my y w q s h = refl
cost_same (Instr.Cond op t d r) my y w q s h = refl
cost_same (Instr.CondImm t d n) my y w q s h = refl
cost_same (Instr.Ldrpc d n) my y w q s h = refl
cost_same (Instr.Imm op d n) my y w q s h = refl
cost_same (Instr.Load v d n r) my y w q s h = refl
cost_same (Instr.Store v d n r) my y w q s h = refl
cost_same (Instr.Mfsfr d n) my y w q s h = refl
cost_same (Instr.Mtsfr n r) my y w q s h = refl
cost_same (Instr.Jr r) my y w q s h = refl
cost_same (Instr.Jrl r) my y w q s h = refl
cost_same (Instr.Jsfr n) my y w q s h = refl
cost_same (Instr.Swint n) my y w q s h = refl
cost_same (Instr.ShortJump op d) my y w q s h = short_cost_lem op s h
cost_same (Instr.LongJump op d) my y w q s h = long_cost_lem op s h

-- so an instruction does the same at the same cost
pub exec_same : (i : Instr) (mx my l : Bool) (x y v u w z : ℕ) → (mx ≡ false → x ≡ u) → (my ≡ false → y ≡ w) → (l ≡ false → v ≡ z)
    → {f : Flags} {a b : Control} → SameControl f a b → blocked i my f ≡ false
    → SameEffect (taint i mx my l (tf a) f) (exec i x y v a) (exec i u w z b)
unfolding exec
exec_same i mx my l x y v u w z p q o s h =
    let m = makes_same i mx my l x y v u w z p q o s h in
    record { control = m.control; reg = m.reg; value = m.value; wrote = m.wrote; cost = cost_same i my y w q s h }

-- what becomes marked is the same: it depends on TF only if TF is unmarked
masked : (m t v x y : Bool) → (m ≡ false → t ≡ v) → (m || cond t x y) ≡ (m || cond v x y)
masked true t v x y e = refl
masked false t v x y e = ap (λ (k : Bool). cond k x y) (e refl)

pub taint_same : (i : Instr) (mx my l : Bool) {f : Flags} {a b : Control} → SameControl f a b
    → taint i mx my l (tf a) f ≡ taint i mx my l (tf b) f
unfolding taint
taint_same (Instr.Alu op d r) mx my l s = refl
taint_same (Instr.ShiftImm op d n) mx my l s = refl
taint_same (Instr.Cmp op d r) mx my l s = refl
taint_same (Instr.CmpImm op d n) mx my l s = refl
taint_same (Instr.Cond op t d r) mx my l {f} {a} {b} s =
    ap (λ (m : Bool). with m f) (masked f.tf (wants t a) (wants t b) (cond_mark op mx my) mx (wants_same s t))
taint_same (Instr.CondImm t d n) mx my l s = refl
taint_same (Instr.Ldrpc d n) mx my l s = refl
taint_same (Instr.Imm op d n) mx my l s = refl
taint_same (Instr.Load w d n r) mx my l s = refl
taint_same (Instr.Store w d n r) mx my l s = refl
taint_same (Instr.Mfsfr d n) mx my l s = refl
taint_same (Instr.Mtsfr n r) mx my l s = refl
taint_same (Instr.Jr r) mx my l s = refl
taint_same (Instr.Jrl r) mx my l s = refl
taint_same (Instr.Jsfr n) mx my l s = refl
taint_same (Instr.Swint n) mx my l s = refl
taint_same (Instr.ShortJump op d) mx my l s = refl
taint_same (Instr.LongJump op d) mx my l s = refl

-- the address is the same
pub reach_same : (i : Instr) (my : Bool) (y w : ℕ) → (my ≡ false → y ≡ w) → {f : Flags} {a b : Control} → SameControl f a b
    → blocked i my f ≡ false → reach_of i y a ≡ reach_of i w b
unfolding reach_of blocked
reach_same (Instr.Alu op d r) my y w q s h = refl
reach_same (Instr.ShiftImm op d n) my y w q s h = refl
reach_same (Instr.Cmp op d r) my y w q s h = refl
reach_same (Instr.CmpImm op d n) my y w q s h = refl
reach_same (Instr.Cond op t d r) my y w q s h = refl
reach_same (Instr.CondImm t d n) my y w q s h = refl
reach_same (Instr.Ldrpc d n) my y w q s h = ap (λ (k : ℕ). Reach.Reads Width.Word (data_address Width.Word k n)) (pc_same s)
reach_same (Instr.Imm op d n) my y w q s h = refl
reach_same (Instr.Load v d n r) my y w q s h = ap (λ (k : ℕ). Reach.Reads v (data_address v k n)) (q h)
reach_same (Instr.Store v d n r) my y w q s h = ap (λ (k : ℕ). Reach.Writes v (data_address v k n)) (q h)
reach_same (Instr.Mfsfr d n) my y w q s h = refl
reach_same (Instr.Mtsfr n r) my y w q s h = refl
reach_same (Instr.Jr r) my y w q s h = refl
reach_same (Instr.Jrl r) my y w q s h = refl
reach_same (Instr.Jsfr n) my y w q s h = refl
reach_same (Instr.Swint n) my y w q s h = refl
reach_same (Instr.ShortJump op d) my y w q s h = refl
reach_same (Instr.LongJump op d) my y w q s h = refl
