use Prim.Native.Nat.{◌-◌}
use mathlib.Core.Path.{◌≡◌}
use lib.ListN.{length}
use Rattle.marks.specs.Memory.{bits}
use Rattle.machine.specs.Parts.{state_of}
use Rattle.machine.specs.Run.{steps_of}
use Rattle.machine.proofs.run.steps.Given as goal

abbrev pub invariant-loop-n : goal.invariant-loop-n
invariant-loop-n l =
    (length l.m ≡ length l.initial.m) × (length l.k ≡ length l.initial.k) × (steps_of (l.b - l.n) l.n l.t (state_of l.regs l.marks l.flags l.control) l.m (bits l.k) ≡ steps_of l.b 0 l.t (state_of l.initial.regs l.initial.marks l.initial.flags l.initial.control) l.initial.m (bits l.initial.k)) × (length l.regs ≡ 16) × (length l.marks ≡ 16)
