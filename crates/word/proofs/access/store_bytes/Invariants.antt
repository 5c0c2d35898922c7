use Rattle.std.proofs.Common.{◌≡◌, ◌-◌, ◌≤◌}
use Rattle.word.specs.Bytes.{store}
use Rattle.word.proofs.access.store_bytes.Given as goal

abbrev pub invariant-loop-i : goal.invariant-loop-i
invariant-loop-i l = (l.start ≤ l.i) × (store (l.i - l.start) l.m l.at l.x ≡ store l.n l.initial.m l.at l.v)
