-- "Differ only where marked" (demand 3), for the parts of the machine and for the results of two runs.
-- Assumes nothing.
use Rattle.std.specs.Prelude.{ℕ, ◌≡◌, false, List, length, get_or}
use Rattle.word.specs.Bits.{on, put}
use Rattle.cpu.specs.Control.{with_psw}
use Rattle.cpu.specs.declared.Control.{Control}
use Rattle.marks.specs.Memory.{Marks, mark_at}
use Rattle.marks.specs.declared.Flags.{Flags}
use Rattle.machine.specs.Run.{Final}
use Rattle.machine.specs.declared.State.{State}

-- PSW with TF (bit 8) and CY (bit 9) made 0
abbrev pub hide : ℕ → ℕ
hide p = put p 8 2 0

-- PSW differs in TF and CY alone, and in each of them only if it is marked
pub record SamePsw (f : Flags) (p q : ℕ) : Type 0 where
  pub rest : hide p ≡ hide q
  pub tf : f.tf ≡ false → on p 8 ≡ on q 8
  pub cy : f.cy ≡ false → on p 9 ≡ on q 9

-- all but PSW is equal
pub record SameControl (f : Flags) (a b : Control) : Type 0 where
  pub rest : with_psw a 0 ≡ with_psw b 0
  pub psw : SamePsw f a.psw b.psw

-- a list of numbers with a mark for each, z the mark of what is unmarked: equally long, and equal at each place that is unmarked
pub record SameList {M : Type 0} (z : M) (k : List M) (a b : List ℕ) : Type 0 where
  pub long : length a ≡ length b
  pub equal : (i : ℕ) → get_or k i z ≡ z → get_or a i 0 ≡ get_or b i 0

-- memory with a mark for each byte: the same
pub record SameMem (k : Marks) (m n : List ℕ) : Type 0 where
  pub long : length m ≡ length n
  pub equal : (i : ℕ) → mark_at k i ≡ false → get_or m i 0 ≡ get_or n i 0

-- Two states with equal marks. Each register has a mark, since both arrays have 16 places.
pub record Same (a b : State) : Type 0 where
  pub marks : a.marks ≡ b.marks
  pub flags : a.flags ≡ b.flags
  pub each : length a.regs ≡ length a.marks
  pub regs : SameList false a.marks a.regs b.regs
  pub control : SameControl a.flags a.control b.control

-- the ends of two runs: the same answer, step count and cycle count, equal marks, and equal unmarked contents
pub record SameFinal (x y : Final) : Type 0 where
  pub reply : x.ended.reply ≡ y.ended.reply
  pub steps : x.ended.steps ≡ y.ended.steps
  pub cycles : x.ended.cycles ≡ y.ended.cycles
  pub state : Same x.ended.state y.ended.state
  pub marks : x.marks ≡ y.marks
  pub mem : SameMem x.marks x.mem y.mem
