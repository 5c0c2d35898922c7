use Rattle.std.proofs.Common.{sym, ◌∙◌}
use Rattle.std.proofs.Math.Bool.{or_assoc, or-false}
use Rattle.std.proofs.lemmas.List.{at_drop_more, at_drop_all}
use Rattle.word.specs.Bytes.{any_above}
use Rattle.word.proofs.access.has_above.Goals as goal

pub loop-x-preserved : goal.loop-x-preserved
unfolding any_above
loop-x-preserved c = rw (or_assoc, ← at_drop_more (any_above c.args.limit) c.args.k.now c.loop-x.x-index 0 c.loop-x-test.true) c.loop-x.invariant

pub returns : goal.returns
unfolding any_above
returns c = sym (or-false _) ∙ rw (at_drop_all (any_above c.args.limit) c.args.k.now c.loop-x.x-index c.loop-x-test.false) at c.loop-x.invariant
