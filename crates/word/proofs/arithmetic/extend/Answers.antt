use Rattle.std.proofs.Common.{◌≡◌, sym, ◌∙◌, arith}
use Rattle.word.proofs.Numbers.{extend_all, extend_far}
use Rattle.word.proofs.arithmetic.extend.Goals as goal

pub returns-then-w-gt31 : goal.returns-then-w-gt31
returns-then-w-gt31 c = extend_all c.args.w c.args.n c.if-w-gt31.true c.ranges.n.fits

pub returns : goal.returns
returns c =
    let q : c.power-2.result ≡ c.power.result = c.power-2.ensures ∙ sym c.power.ensures in
    rw q
    (extend_far c.args.w c.args.n c.power-k.result c.power.result (omega arith) c.power-k.ensures
    c.power.ensures c.if-low-k.false)
