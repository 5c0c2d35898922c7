use Rattle.text.proofs.Laws.{number_on, number_stop, number_none, digit_more}
use mathlib.Core.Path.{sym, ◌∙◌}
use native.Mathlib.Omega.{arith}
use Rattle.text.proofs.number.Goals as goal

pub returns-then-base-d : goal.returns-then-base-d
returns-then-base-d c = sym (number_stop _ _ c.loop-c-test.true _ _ _ c.value-d.ensures.0 c.if-base-d.true) ∙ c.loop-c.invariant.1

pub loop-c-preserved : goal.loop-c-preserved
loop-c-preserved c = (
  digit_more c.args.base c.loop-c.c-index c.loop-c.v c.value-d.result (omega arith) (omega arith) c.if-base-d.false,
  sym (number_on _ _ c.loop-c-test.true _ _ _ c.value-d.ensures.0 c.if-base-d.false) ∙ c.loop-c.invariant.1,
)

pub returns : goal.returns
returns c = sym (number_none _ _ c.loop-c-test.false _ _) ∙ c.loop-c.invariant.1
