use Rattle.std.proofs.Common.{◌-◌, length}
use Rattle.manik_list.proofs.Laws.{Filled}
use Rattle.manik_list.proofs.parts.fill.Given as goal

abbrev pub invariant-loop-n : goal.invariant-loop-n
invariant-loop-n l = Filled l.image l.start l.end (length l.initial.out) l.out l.n l.at

abbrev pub decreases-loop-n : goal.decreases-loop-n
decreases-loop-n l = l.end - l.at
