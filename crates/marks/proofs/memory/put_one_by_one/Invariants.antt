use mathlib.Core.Path.{◌≡◌}
use Rattle.marks.specs.Memory.{bits, put_marks}
use Rattle.marks.proofs.memory.put_one_by_one.Given as goal

abbrev pub invariant-loop-i : goal.invariant-loop-i
invariant-loop-i l = bits l.k ≡ put_marks l.i (bits l.initial.k) l.at l.m
