use Prim.Native.Nat.{◌/◌, ◌<◌}
use Rattle.std.proofs.Common.{arith, rules, tests}
use lib.ListN.{get_or}
use mathlib.Core.Path.{sym}
use Rattle.marks.proofs.Places.{past_none, end_field}
use Rattle.marks.proofs.memory.has_bad_mark.Goals as goal

pub returns-then-j-k : goal.returns-then-j-k
returns-then-j-k c =
    let a = c.args in
    let l : get_or a.k.now (a.n / 8) 0 < 256 = omega (arith, c.type_inv.k (a.n / 8)) in
    sym (end_field a.n a.k.now l)

pub returns-else-j-k : goal.returns-else-j-k
returns-else-j-k c = rw (past_none _ _ _ c.if-j-k.false) (search (rules, tests))
