-- What an instruction touches, and that nothing besides changes: one line for each instruction.
-- Assumes nothing.
use Prim.Native.Nat.{ℕ, ◌+◌, ◌*◌}
use mathlib.Core.Path.{◌≡◌, refl, ap}
use mathlib.Core.Bool.{Bool, true, false, cond, not, ◌&&◌}
use native.Mathlib.Omega.{arith}
use lib.Dec.{leb, eqb}
use Rattle.word.specs.Bits.{num, put}
use Rattle.word.specs.Addresses.{jump_sum, byte_sum, aligned_of}
use Rattle.word.specs.declared.ByteAddr.{ByteAddr}
use Rattle.word.specs.declared.HalfDisp.{HalfDisp}
use Rattle.word.specs.declared.Width.{Width}
use Rattle.isa.specs.Codes.{alu_no, long_no}
use Rattle.isa.specs.declared.ShortOp.{ShortOp}
use Rattle.isa.specs.declared.LongOp.{LongOp}
use Rattle.isa.specs.declared.Instr.{Instr}
use Rattle.cpu.specs.Control.{pc_of, with_pc, with_sfr, with_psw, wants, sfr_of}
use Rattle.cpu.specs.Exec.{exec, makes, onward, go_to, linked, jump, branch, carried, cmp_of, cmp_imm_of, written, leave}
use Rattle.cpu.specs.declared.Control.{Control}
use Rattle.values.specs.Words.{Wraps, touched, Leaves, ignored, Branches}
use Rattle.values.proofs.Sums.{wraps, same, other}
use Rattle.values.proofs.Places.{leaves_all, leaves_else, leaves_moved, leaves_alu, alu_pc, written_leaves, written_pc, accepted_is, leave_leaves}

module _ (x y v : ℕ) (c : Control) where
  -- ---- the SFR

  -- a jump taken or not
  branch_leaves : (t : Bool) (d : HalfDisp) (n : ℕ) → Leaves 11 c (branch t d n c)
  unfolding branch jump onward
  branch_leaves t d n = go (wants t c)
    where
      go : (b : Bool) → Leaves 11 c (cond b (with_pc c (jump_sum (pc_of c) d)) (with_pc c (byte_sum (pc_of c) n)))
      go true = leaves_moved 11 c c (jump_sum (pc_of c) d) (leaves_all 11 c)
      go false = leaves_moved 11 c c (byte_sum (pc_of c) n) (leaves_all 11 c)

  onward_leaves : Leaves 11 c (onward 2 c)
  unfolding onward
  onward_leaves = leaves_moved 11 c c (byte_sum (pc_of c) 2) (leaves_all 11 c)

  jump_leaves : (d : HalfDisp) → Leaves 11 c (jump d c)
  unfolding jump
  jump_leaves d = leaves_moved 11 c c (jump_sum (pc_of c) d) (leaves_all 11 c)

  linked_leaves : (a : ByteAddr) → Leaves 1 c (with_pc (linked c) a)
  unfolding linked
  linked_leaves a = leaves_moved 1 c (with_sfr 1 c (byte_sum (pc_of c) 4).0) a (leaves_else 1 (byte_sum (pc_of c) 4).0 c)

  -- TF written, and on
  tested_leaves : (b : Bool) → Leaves 0 c (onward 2 (with_psw c (put c.psw 8 1 (num b))))
  unfolding onward
  tested_leaves b = leaves_moved 0 c (with_psw c p) (byte_sum (pc_of (with_psw c p)) 2) (leaves_else 0 p c)
    where
      p : ℕ
      p = put c.psw 8 1 (num b)

  pub leaves_rest : (i : Instr) → Leaves (touched i).sfr c (exec i x y v c).control
  unfolding exec makes onward go_to jump
  leaves_rest (Instr.Alu op d b) = leaves_moved (cond (leb (alu_no op) 3) 0 11) c (carried op x y c) (byte_sum (pc_of (carried op x y c)) 2) (leaves_alu op x y c)
  leaves_rest (Instr.ShiftImm op d n) = onward_leaves
  leaves_rest (Instr.Cmp op d b) = tested_leaves (cmp_of op x y)
  leaves_rest (Instr.CmpImm op d n) = tested_leaves (cmp_imm_of op x n)
  leaves_rest (Instr.Cond op t d b) = onward_leaves
  leaves_rest (Instr.CondImm t d n) = onward_leaves
  leaves_rest (Instr.Ldrpc d n) = onward_leaves
  leaves_rest (Instr.Imm op d n) = onward_leaves
  leaves_rest (Instr.Load w d n b) = onward_leaves
  leaves_rest (Instr.Store w d n b) = onward_leaves
  leaves_rest (Instr.Mfsfr d n) = onward_leaves
  leaves_rest (Instr.Mtsfr n b) = leaves_moved n c (written n y c) (byte_sum (pc_of (written n y c)) 2) (written_leaves y c n)
  leaves_rest (Instr.Jr b) = leaves_moved 11 c c (aligned_of Width.Half (record { 0 = y })) (leaves_all 11 c)
  leaves_rest (Instr.Jrl b) = linked_leaves (aligned_of Width.Half (record { 0 = y }))
  leaves_rest (Instr.Jsfr n) = leaves_moved (cond (eqb n 2) 0 11) c (leave n c) (aligned_of Width.Half (record { 0 = sfr_of n c })) (leave_leaves n c)
  leaves_rest (Instr.Swint n) = onward_leaves
  leaves_rest (Instr.ShortJump ShortOp.Sjf d) = branch_leaves false d 2
  leaves_rest (Instr.ShortJump ShortOp.Sjt d) = branch_leaves true d 2
  leaves_rest (Instr.ShortJump ShortOp.Sj d) = jump_leaves d
  leaves_rest (Instr.LongJump LongOp.Jf d) = branch_leaves false d 4
  leaves_rest (Instr.LongJump LongOp.Jt d) = branch_leaves true d 4
  leaves_rest (Instr.LongJump LongOp.J d) = jump_leaves d
  leaves_rest (Instr.LongJump LongOp.Jl d) = linked_leaves (jump_sum (pc_of (linked c)) d)

  -- ---- the program counter

  pub next_is : (i : Instr) → (touched i).jumps ≡ false → Wraps (exec i x y v c).control.pc (c.pc + 2)
  unfolding exec makes onward with_pc with_sfr
  next_is (Instr.Alu op d b) e = rw (alu_pc op x y c) (wraps (c.pc + 2))
  next_is (Instr.ShiftImm op d n) e = wraps (c.pc + 2)
  next_is (Instr.Cmp op d b) e = wraps (c.pc + 2)
  next_is (Instr.CmpImm op d n) e = wraps (c.pc + 2)
  next_is (Instr.Cond op t d b) e = wraps (c.pc + 2)
  next_is (Instr.CondImm t d n) e = wraps (c.pc + 2)
  next_is (Instr.Ldrpc d n) e = wraps (c.pc + 2)
  next_is (Instr.Imm op d n) e = wraps (c.pc + 2)
  next_is (Instr.Load w d n b) e = wraps (c.pc + 2)
  next_is (Instr.Store w d n b) e = wraps (c.pc + 2)
  next_is (Instr.Mfsfr d n) e = wraps (c.pc + 2)
  next_is (Instr.Mtsfr n b) e = rw (written_pc y c n) (wraps (c.pc + 2))
  next_is (Instr.Jr b) e = let z : ◌≡◌ {A = ℕ} 0 1 = cc in absurd (omega arith)
  next_is (Instr.Jrl b) e = let z : ◌≡◌ {A = ℕ} 0 1 = cc in absurd (omega arith)
  next_is (Instr.Jsfr n) e = let z : ◌≡◌ {A = ℕ} 0 1 = cc in absurd (omega arith)
  next_is (Instr.Swint n) e = wraps (c.pc + 2)
  next_is (Instr.ShortJump op d) e = let z : ◌≡◌ {A = ℕ} 0 1 = cc in absurd (omega arith)
  next_is (Instr.LongJump op d) e = let z : ◌≡◌ {A = ℕ} 0 1 = cc in absurd (omega arith)

  -- ---- a write to TIMER

  -- no SFR, or another than 3
  none : (t : Bool) (n : ℕ) → eqb n 3 ≡ false → false ≡ (eqb (cond t n 11) 3 && not (ignored c))
  none true n e = rw e
  none false n e = refl

  pub wrote_is : (i : Instr) → (exec i x y v c).wrote ≡ (eqb (touched i).sfr 3 && not (ignored c))
  unfolding exec makes
  wrote_is (Instr.Alu op d b) = none (leb (alu_no op) 3) 0 refl
  wrote_is (Instr.ShiftImm op d n) = refl
  wrote_is (Instr.Cmp op d b) = refl
  wrote_is (Instr.CmpImm op d n) = refl
  wrote_is (Instr.Cond op t d b) = refl
  wrote_is (Instr.CondImm t d n) = refl
  wrote_is (Instr.Ldrpc d n) = refl
  wrote_is (Instr.Imm op d n) = refl
  wrote_is (Instr.Load w d n b) = refl
  wrote_is (Instr.Store w d n b) = refl
  wrote_is (Instr.Mfsfr d n) = refl
  wrote_is (Instr.Mtsfr n b) = ap (λ (b : Bool). eqb n 3 && b) (accepted_is c)
  wrote_is (Instr.Jr b) = refl
  wrote_is (Instr.Jrl b) = refl
  wrote_is (Instr.Jsfr n) = none (eqb n 2) 0 refl
  wrote_is (Instr.Swint n) = refl
  wrote_is (Instr.ShortJump op d) = refl
  wrote_is (Instr.LongJump op d) = none (eqb (long_no op) 0x3e) 1 refl

-- a jump that branches
pub branches : (i : Instr) (d : HalfDisp) (n : ℕ) (t : Bool) → ((x y v : ℕ) (c : Control) → (exec i x y v c).control ≡ branch t d n c) → Branches i d n t
unfolding branch jump onward with_pc
branches i d n t h =
    record {
      taken = λ x y v c e. rw (h x y v c, e, same t) (wraps (c.pc + 2 * d.0));
      passed = λ x y v c e. rw (h x y v c, e, other t) (wraps (c.pc + n));
    }
