use mathlib.Core.Path.{sym, ◌∙◌}
use Rattle.expr.proofs.Walk.{walk_after}
use Rattle.expr.proofs.form.step.Goals as goal

pub returns-else-turn-clause-told : goal.returns-else-turn-clause-told
returns-else-turn-clause-told c = rw c.if-turn.false (c.after.ensures.told ∙ sym (walk_after _ _ _))
