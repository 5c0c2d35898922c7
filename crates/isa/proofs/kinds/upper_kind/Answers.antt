use native.Mathlib.Omega.{arith}
use Prim.Native.Nat.{◌-◌, ◌≤◌}
use Rattle.isa.specs.Codes.{test_row}
use Rattle.isa.proofs.Rows.{past}
use borrow.Author.Tests.{le-ltb}
use Rattle.isa.proofs.kinds.upper_kind.Goals as goal

pub returns-in_default : goal.returns-in_default
returns-in_default c =
    let k = c.args.k in
    let h : 32 ≤ k = omega arith in
    rw (le-ltb k 16 (omega arith)) (past test_row (k - 16) (omega arith))
