use Rattle.word.proofs.Numbers.{signs_are}
use Rattle.std.proofs.Common.{◌/◌, ◌^◌, le-ltb}
use Rattle.word.proofs.arithmetic.asr.Goals as goal

pub returns-then-negative-2 : goal.returns-then-negative-2
returns-then-negative-2 c = rw (le-ltb _ _ c.if-n-gt31.false, ← c.is_on-negative.ensures, c.if-negative-2.true) (signs_are (c.args.x / 2 ^ c.args.n) c.args.n c.if-n-gt31.false)
