use Rattle.marks.specs.Memory.{bits}
use Rattle.script.specs.Reader.{fed, feed_of}
use lib.ListN.{drop}
use mathlib.Core.Path.{◌≡◌}
use Rattle.script.proofs.feeding.feed.Given as goal

abbrev pub invariant-loop-b : goal.invariant-loop-b
invariant-loop-b l = feed_of (drop l.b-index l.part) (fed l.s l.line l.memory.bytes (bits l.memory.marks)) ≡ feed_of l.part (fed l.initial.s l.initial.line l.initial.memory.bytes (bits l.initial.memory.marks))
