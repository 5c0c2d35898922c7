use mathlib.Core.Path.{◌≡◌}
use Rattle.expr.specs.Expr.{run_of}
use lib.ListN.{drop}
use Prim.Native.Nat.{◌+◌}
use Rattle.expr.proofs.labels.run.Given as goal

abbrev pub invariant-loop-i : goal.invariant-loop-i
invariant-loop-i l = run_of l.s ≡ run_of (drop l.i l.s) + l.i
