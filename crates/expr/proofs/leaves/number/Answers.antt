use mathlib.Core.Path.{sym, ◌∙◌}
use native.Mathlib.Omega.{arith}
use Rattle.expr.specs.Expr.{size_of}
use Rattle.expr.proofs.leaves.number.Goals.{then-is_empty-via-then-is_empty, then-is_empty-via-else-is_empty+then-has_leading_zero}
use Rattle.expr.proofs.leaves.number.Goals as goal

pub returns-then-is_empty : goal.returns-then-is_empty
unfolding size_of
returns-then-is_empty c = elim c.then-is_empty.branch [
  | then-is_empty-via-then-is_empty w ↦ (rw (← c.is_hex.ensures, c.if-is_hex.false, sym c.is_empty.ensures ∙ w.if-is_empty.true), omega arith)
  | then-is_empty-via-else-is_empty+then-has_leading_zero w ↦ (rw (← c.is_hex.ensures, c.if-is_hex.false, sym c.is_empty.ensures ∙ w.if-is_empty.false, ← w.has_leading_zero.ensures, w.if-has_leading_zero.true), omega arith)
]
