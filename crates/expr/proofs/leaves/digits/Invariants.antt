use mathlib.Core.Path.{◌≡◌}
use Rattle.text.specs.Digits.{digits_read}
use Rattle.expr.specs.Expr.{counted}
use lib.ListN.{length, drop}
use Rattle.expr.proofs.leaves.digits.Given as goal

abbrev pub invariant-loop-c : goal.invariant-loop-c
invariant-loop-c l = counted (length l.w) (digits_read l.base l.v (drop l.c-index l.c-items)) ≡ counted (length l.w) (digits_read l.base 0 (drop l.from l.w))
