use mathlib.Core.Path.{sym, ap, ◌∙◌}
use Rattle.expr.specs.Expr.{is_letter}
use Rattle.expr.proofs.Names.{named_whole, named_other, named_part, named_long}
use Rattle.expr.proofs.labels.label.Goals.{else-n-s-via-then-n-s+else-is_letter, else-n-s-via-else-n-s}
use Rattle.expr.proofs.labels.label.Goals as goal

pub returns-in_default : goal.returns-in_default
returns-in_default c = named_long c.args.s.now (sym c.lead.ensures ∙ c.in_default.is)

pub returns-then-is_letter : goal.returns-then-is_letter
returns-then-is_letter c =
    named_whole c.args.s.now c.in-Some.v c.in-Some.n (sym c.lead.ensures ∙ c.in-Some.is) c.if-n-s.true (ap is_letter (sym c.byte.ensures) ∙ sym c.is_letter.ensures ∙ c.if-is_letter.true)

pub returns-else-n-s : goal.returns-else-n-s
returns-else-n-s c = elim c.else-n-s.branch [
  | else-n-s-via-then-n-s+else-is_letter w ↦ named_other c.args.s.now (ap is_letter (sym w.byte.ensures) ∙ sym w.is_letter.ensures ∙ w.if-is_letter.false)
  | else-n-s-via-else-n-s w ↦ named_part c.args.s.now c.in-Some.v c.in-Some.n (sym c.lead.ensures ∙ c.in-Some.is) w.if-n-s.false
]
