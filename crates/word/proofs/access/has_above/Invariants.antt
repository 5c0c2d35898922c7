use Rattle.std.proofs.Common.{◌≡◌, ◌||◌, drop}
use Rattle.word.specs.Bytes.{any_above}
use Rattle.word.proofs.access.has_above.Given as goal

abbrev pub invariant-loop-x : goal.invariant-loop-x
invariant-loop-x l = (l.found || any_above l.limit (drop l.x-index l.k)) ≡ any_above l.limit l.k
