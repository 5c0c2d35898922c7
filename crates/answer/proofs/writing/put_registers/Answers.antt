use Rattle.answer.proofs.Laws.{registers_more, registers_none}
use mathlib.Core.Path.{sym, ◌∙◌}
use Rattle.answer.proofs.writing.put_registers.Goals as goal

pub loop-i-preserved : goal.loop-i-preserved
loop-i-preserved c = rw c.put_register-at.ensures (sym (registers_more _ _ _ _ c.loop-i-test.true) ∙ c.loop-i.invariant)

pub returns : goal.returns
returns c = sym (registers_none _ _ _ _ c.loop-i-test.false) ∙ c.loop-i.invariant
