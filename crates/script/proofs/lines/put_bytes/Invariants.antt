use Rattle.script.specs.Line.{pairs_of}
use lib.Seq.{sets}
use lib.ListN.{length, drop}
use mathlib.Core.Path.{◌≡◌}
use Prim.Native.Nat.{◌+◌, ◌*◌}
use Rattle.script.proofs.lines.put_bytes.Given as goal

abbrev pub invariant-loop-i : goal.invariant-loop-i
invariant-loop-i l = (length l.m ≡ length l.initial.m) × (sets l.m (l.a + l.i) (pairs_of (drop (2 * l.i) l.h)) ≡ sets l.initial.m l.a (pairs_of l.h))
