use Prim.Native.Nat.{◌+◌, ◌<◌, ◌≤◌}
use native.Mathlib.Omega.{arith}
use borrow.Author.Tests.{lt-ltb, le-ltb}
use Rattle.asm.specs.Assemble.{room_check}
use Rattle.asm.proofs.lines.room_check.Goals as goal

pub returns-then-end-at : goal.returns-then-end-at
unfolding room_check
returns-then-end-at c =
    let h = c.requires in
    let k : c.args.end < c.args.at + c.args.n = omega arith in
    rw (lt-ltb _ _ k)

pub returns : goal.returns
unfolding room_check
returns c =
    let h = c.requires in
    let k : c.args.at + c.args.n ≤ c.args.end = omega arith in
    rw (le-ltb _ _ k)
