use mathlib.Core.Path.{◌≡◌}
use lib.ListN.{length, drop}
use Prim.Native.Nat.{◌-◌, ◌≤◌}
use Rattle.expr.specs.Expr.{is_sum}
use Rattle.expr.specs.Parts.{walk}
use Rattle.expr.proofs.form.is_sum.Given as goal

-- the turn's fields, in their order
abbrev pub invariant-loop-turn : goal.invariant-loop-turn
invariant-loop-turn l = (l.turn.1.1.1.0 ≤ length l.s) × (l.turn.1.1.0 ≤ l.turn.1.1.1.0) × (is_sum l.s ≡ walk l.turn.0 l.turn.1.0 l.turn.1.1.0 0 (drop l.turn.1.1.1.0 l.s))

abbrev pub decreases-loop-turn : goal.decreases-loop-turn
decreases-loop-turn l = length l.s - l.turn.1.1.1.0
