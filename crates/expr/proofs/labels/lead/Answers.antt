use native.Mathlib.Omega.{arith}
use mathlib.Core.Path.{sym, ◌∙◌}
use Rattle.expr.proofs.Names.{rank_of_lem, lead_on, lead_stop, lead_end, rank_some, rank_none, run_more, run_here, run_end, key_more, key_fits, led_here, led_long}
use lib.ListN.{length, get_or}
use Prim.Native.Nat.{◌+◌}
use Rattle.expr.proofs.labels.lead.Goals as goal

pub returns-in_default : goal.returns-in_default
returns-in_default c =
    let s = c.args.s.now in
    let n = rank_none (get_or s c.loop-i.i 0) c.rank.result c.rank.ensures c.in_default.is in
    led_here s c.loop-i.v c.loop-i.i (run_here s c.loop-i.i c.loop-i.invariant.2 c.loop-i-test.true n) (sym (lead_stop s c.loop-i.i c.loop-i-test.true n c.loop-i.v) ∙ c.loop-i.invariant.3) c.loop-i.invariant.0

pub returns-then-i-eq12 : goal.returns-then-i-eq12
returns-then-i-eq12 c =
    let s = c.args.s.now in
    let n = rank_some (get_or s c.loop-i.i 0) c.rank.result c.rank.ensures c.in-Some.r c.in-Some.is in
    let z = run_more s c.loop-i.i c.loop-i.invariant.2 c.loop-i-test.true n.0 in
    led_long s c.loop-i.i (omega arith) (omega arith)

pub overflow_mul-v : goal.overflow_mul-v
overflow_mul-v c =
    let h = key_more c.loop-i.v c.loop-i.i 0 c.loop-i.invariant.1 (omega arith) in
    let k = key_fits _ (c.loop-i.i + 1) h (omega arith) in
    omega arith

pub overflow_add-v : goal.overflow_add-v
overflow_add-v c =
    let n = rank_some (get_or c.args.s.now c.loop-i.i 0) c.rank.result c.rank.ensures c.in-Some.r c.in-Some.is in
    let r = rank_of_lem (get_or c.args.s.now c.loop-i.i 0) n.0 in
    let h = key_more c.loop-i.v c.loop-i.i c.in-Some.r c.loop-i.invariant.1 (omega (arith, n.1)) in
    let k = key_fits _ (c.loop-i.i + 1) h (omega arith) in
    omega arith

pub loop-i-preserved : goal.loop-i-preserved
loop-i-preserved c =
    let s = c.args.s.now in
    let n = rank_some (get_or s c.loop-i.i 0) c.rank.result c.rank.ensures c.in-Some.r c.in-Some.is in
    let r = rank_of_lem (get_or s c.loop-i.i 0) n.0 in (
      omega arith,
      key_more _ _ _ c.loop-i.invariant.1 (omega (arith, n.1)),
      run_more _ _ c.loop-i.invariant.2 c.loop-i-test.true n.0,
      sym (lead_on _ _ c.loop-i-test.true n.0 _ _ n.1) ∙ c.loop-i.invariant.3,
    )

pub returns : goal.returns
returns c =
    let s = c.args.s.now in
    let z = run_end s c.loop-i.i c.loop-i.invariant.2 c.loop-i-test.false in
    led_here s c.loop-i.v (length s) (omega arith) (sym (lead_end s c.loop-i.i c.loop-i-test.false c.loop-i.v) ∙ c.loop-i.invariant.3) (omega arith)
