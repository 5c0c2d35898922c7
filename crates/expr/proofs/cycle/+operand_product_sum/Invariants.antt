use Rattle.std.proofs.Common.{ℕ, length, ◌-◌, ◌≡◌, ◌+◌, ◌*◌, ◌≤◌, drop}
use Rattle.expr.specs.declared.cycle.Level.{Level}
use Rattle.expr.specs.Expr.{labels_in, items_of, chain_of}
use Rattle.expr.specs.Parts.{joins_in, item_in}
use Rattle.expr.proofs.cycle.+operand_product_sum.Given as goal

abbrev height : Level → ℕ
height Level.Sum = 4
height Level.Product = 1

abbrev pub decreases-operand : goal.decreases-operand
decreases-operand l = 7 * (length l.s.now + l.more)

abbrev pub decreases-item : goal.decreases-item
decreases-item l = 7 * (length l.s.now + l.more) + height l.level

abbrev pub decreases-items : goal.decreases-items
decreases-items l = 7 * (length l.s.now + l.more) + height l.level + 1

abbrev pub decreases-product : goal.decreases-product
decreases-product l = 7 * (length l.s.now + l.more) + 3

abbrev pub decreases-sum : goal.decreases-sum
decreases-sum l = 7 * (length l.s.now + l.more) + 6

abbrev pub invariant-items-loop-level : goal.invariant-items-loop-level
invariant-items-loop-level l = (l.at ≤ length l.s) × (items_of (joins_in l.level) (item_in l.level (labels_in l.labels) l.more) l.s ≡ chain_of (joins_in l.level) (item_in l.level (labels_in l.labels) l.more) l.v l.at 0 (drop l.at l.s))

abbrev pub decreases-items-loop-level : goal.decreases-items-loop-level
decreases-items-loop-level l = length l.s - l.at
