use mathlib.Core.Path.{◌≡◌}
use Rattle.expr.specs.Expr.{key_from, run_of}
use Rattle.expr.proofs.Names.{lead}
use lib.ListN.{drop}
use Prim.Native.Nat.{◌+◌, ◌≤◌, ◌<◌, ◌^◌}
use Rattle.expr.proofs.labels.lead.Given as goal

abbrev pub invariant-loop-i : goal.invariant-loop-i
invariant-loop-i l = (l.i ≤ 12) × (l.v < 37 ^ l.i) × (run_of l.s ≡ run_of (drop l.i l.s) + l.i) × (key_from l.v (lead l.s l.i) ≡ key_from 0 (lead l.s 0))
