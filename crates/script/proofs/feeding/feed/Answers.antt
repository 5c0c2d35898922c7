use Rattle.script.proofs.Laws.{feed_more, feed_none}
use mathlib.Core.Path.{sym, ◌∙◌}
use Rattle.script.proofs.feeding.feed.Goals as goal

pub loop-b-preserved : goal.loop-b-preserved
loop-b-preserved c = rw c.take_byte-s.ensures (sym (feed_more _ _ _ c.loop-b-test.true) ∙ c.loop-b.invariant)

pub returns : goal.returns
returns c = sym (feed_none _ _ _ c.loop-b-test.false) ∙ c.loop-b.invariant
