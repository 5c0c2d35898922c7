use lib.ListN.{get_or}
use native.Mathlib.Omega.{arith}
use mathlib.Core.Bool.{false}
use Rattle.expr.specs.Parts.{told_by}
use Rattle.expr.proofs.Walk.{step_join, step_other, step_close, joins_times, joins_adds, joins_not, not_closing}
use Rattle.expr.proofs.form.after.Goals.{then-c-eq42-via-then-c-eq42, then-c-eq42-via-else-c-eq42+then-is_adding}
use Rattle.expr.proofs.form.after.Goals as goal

pub returns-then-c-eq42-clause-told : goal.returns-then-c-eq42-clause-told
unfolding told_by
returns-then-c-eq42-clause-told c = elim c.then-c-eq42.branch [
  | then-c-eq42-via-then-c-eq42 w ↦ step_join _ _ c.requires false _ (joins_times _ w.if-c-eq42.true)
  | then-c-eq42-via-else-c-eq42+then-is_adding w ↦ step_join _ _ c.requires false _ (joins_adds (get_or c.args.s.now c.args.turn.at 0) _ w.is_adding.ensures w.if-is_adding.true)
]

pub returns-then-depth-gt0-clause-told : goal.returns-then-depth-gt0-clause-told
unfolding told_by
returns-then-depth-gt0-clause-told c = step_close _ _ c.requires false _ c.if-c-eq41.true (λ z. omega (arith, c.if-depth-gt0.true))

pub returns-clause-told : goal.returns-clause-told
unfolding told_by
returns-clause-told c =
    step_other _ _ c.requires false _ (joins_not (get_or c.args.s.now c.args.turn.at 0) _ c.is_adding.ensures c.if-is_adding.false c.if-c-eq42.false) (not_closing (get_or c.args.s.now c.args.turn.at 0) _ c.else-c-eq41.either)
