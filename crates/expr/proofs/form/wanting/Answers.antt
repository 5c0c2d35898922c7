use Rattle.expr.specs.Parts.{told_by}
use Rattle.expr.proofs.Walk.{step_open, step_minus, step_nothing, step_leaf, not_minus}
use borrow.Author.Tests.{eq-eqb}
use Rattle.expr.proofs.form.wanting.Goals as goal

pub returns-then-c-eq40-clause-told : goal.returns-then-c-eq40-clause-told
unfolding told_by
returns-then-c-eq40-clause-told c = step_open _ _ c.requires _ _ c.if-c-eq40.true

pub returns-then-c-eq45-clause-told : goal.returns-then-c-eq45-clause-told
unfolding told_by
returns-then-c-eq45-clause-told c = step_minus _ _ c.requires _ _ c.if-c-eq40.false (rw (c.if-turn.true, eq-eqb _ _ c.if-c-eq45.true))

pub returns-then-n-eq0-clause-told : goal.returns-then-n-eq0-clause-told
unfolding told_by
returns-then-n-eq0-clause-told c = step_nothing _ _ c.requires _ _ c.if-c-eq40.false (not_minus _ _ c.else-turn.either) _ c.leaf_size-n.ensures.0 c.if-n-eq0.true

pub returns-clause-told : goal.returns-clause-told
unfolding told_by
returns-clause-told c = step_leaf _ _ c.requires _ _ c.if-c-eq40.false (not_minus _ _ c.else-turn.either) _ c.leaf_size-n.ensures.0 c.if-n-eq0.false
