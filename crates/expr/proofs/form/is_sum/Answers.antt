use native.Mathlib.Omega.{arith}
use mathlib.Core.Path.{sym, ◌∙◌}
use Rattle.expr.specs.Parts.{told_by}
use Rattle.expr.proofs.Walk.{walk_end, sum_walk}
use Rattle.expr.proofs.form.is_sum.Goals as goal

pub loop-turn-init : goal.loop-turn-init
loop-turn-init c = (omega arith, omega arith, sum_walk _)

pub loop-turn-smaller : goal.loop-turn-smaller
loop-turn-smaller c = let h = c.in-Some.ensures.further in omega arith

pub loop-turn-preserved : goal.loop-turn-preserved
unfolding told_by
loop-turn-preserved c = let h = c.in-Some.ensures.further in (h.1, c.in-Some.next.within, c.loop-turn.invariant.2 ∙ sym c.in-Some.ensures.told)

pub invariant_of-turn : goal.invariant_of-turn
invariant_of-turn c = record { within = c.loop-turn.invariant.1 }

pub returns-in_default : goal.returns-in_default
unfolding told_by
returns-in_default c = c.in_default.ensures.told ∙ sym c.loop-turn.invariant.2

pub returns-then-not-turn : goal.returns-then-not-turn
returns-then-not-turn c = sym (c.loop-turn.invariant.2 ∙ walk_end _ _ c.loop-turn-test.false _ _ _ ∙ rw c.if-not-turn.true)

pub returns-else-not-turn : goal.returns-else-not-turn
returns-else-not-turn c = rw c.if-not-turn.false (sym (c.loop-turn.invariant.2 ∙ walk_end _ _ c.loop-turn-test.false _ _ _ ∙ rw c.if-not-turn.false))
