use Rattle.std.proofs.Common.{◌≡◌, ◌+◌, ◌-◌, sym, ◌∙◌, arith, le-leb}
use Rattle.word.proofs.Memory.{store_none, store_more}
use Rattle.word.proofs.access.store_bytes.Goals as goal

pub loop-i-preserved : goal.loop-i-preserved
loop-i-preserved c =
    let e : c.loop-i.i - 1 - c.args.at ≡ c.loop-i.i - c.args.at - 1 = omega arith in
    let p : c.args.at + (c.loop-i.i - c.args.at - 1) ≡ c.loop-i.i - 1 = omega arith in
    (omega arith, rw e (rw p at (sym (store_more (c.loop-i.i - c.args.at) c.loop-i.m c.args.at c.loop-i.x (omega arith))) ∙ c.loop-i.invariant.1))

pub returns : goal.returns
returns c = rw (le-leb _ _ c.if-m-end.false) (sym (store_none _ _ _ _ (omega arith)) ∙ c.loop-i.invariant.1)
