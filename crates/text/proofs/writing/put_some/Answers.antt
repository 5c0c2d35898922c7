use Rattle.text.proofs.Pages.{write_more, write_none}
use mathlib.Core.Path.{sym, ◌∙◌}
use Rattle.text.proofs.writing.put_some.Goals as goal

pub loop-b-preserved : goal.loop-b-preserved
loop-b-preserved c = rw c.put-at.ensures (sym (write_more _ _ _ c.loop-b-test.true) ∙ c.loop-b.invariant)

pub returns : goal.returns
returns c = sym (write_none _ _ _ c.loop-b-test.false) ∙ c.loop-b.invariant
