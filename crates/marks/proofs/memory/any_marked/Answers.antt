use mathlib.Core.Path.{sym, ◌∙◌}
use Rattle.marks.proofs.Places.{clear_none}
use Rattle.marks.proofs.memory.any_marked.Goals as goal

pub returns-then-is_clear : goal.returns-then-is_clear
returns-then-is_clear c = sym (clear_none _ _ _ (sym c.is_clear.ensures ∙ c.if-is_clear.true))
