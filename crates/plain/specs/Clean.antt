-- Nothing marked, and a result of the machine without marks put beside marks, as a result of the machine with marks.
-- Assumes nothing.
use Rattle.std.specs.Prelude.{ℕ, ◌≡◌, false, List, length, replicate}
use Rattle.marks.specs.Memory.{Marks, mark_at, bad_room}
use Rattle.machine.specs.Run.{Final, final}
use Rattle.machine.specs.declared.State.{State}
use Rattle.plain.specs.Plain.{Core, Result}

-- the marks of state s and the mark slice k of memory m say that nothing is marked
pub record Clean (s : State) (m : List ℕ) (k : Marks) : Type 0 where
  pub memory : (i : ℕ) → mark_at k i ≡ false
  pub room : bad_room (length m) k ≡ false
  pub regs : s.marks ≡ replicate 16 false
  pub tf : s.flags.tf ≡ false
  pub cy : s.flags.cy ≡ false

-- the state without its marks
abbrev pub core_of : State → Core
core_of s = record { regs = s.regs; control = s.control }

-- the reply, the steps, the state and the memory of r, with the marks of s and the mark slice k
abbrev pub beside : Result → State → Marks → Final
beside r s k =
    final r.reply r.steps
    (record { regs = r.core.regs; marks = s.marks; flags = s.flags; control = r.core.control })
    r.mem
    k
