use mathlib.Core.Path.{sym, ◌∙◌}
use Rattle.marks.proofs.Places.{puts_off, clear_none}
use Rattle.marks.proofs.memory.put_marks.Goals as goal

pub returns-then-is_clear : goal.returns-then-is_clear
returns-then-is_clear c =
    rw c.if-not-m.true
    (sym (puts_off _ _ _ (clear_none _ _ _ (sym c.is_clear.ensures ∙ c.if-is_clear.true))))
