use Rattle.std.proofs.Common.{◌-◌, ◌≤◌}
use Rattle.manik_list.proofs.parts.write_listing.Given as goal

abbrev pub invariant-loop-at : goal.invariant-loop-at
invariant-loop-at g l = l.at ≤ 65540

abbrev pub decreases-loop-at : goal.decreases-loop-at
decreases-loop-at g l = l.range.end - l.at
