use Rattle.std.proofs.Common.{◌≡◌, true, eqb, sym, ◌∙◌}
use Rattle.std.proofs.lemmas.Bool.{false≢true}
use borrow.Author.Tests.{ne_eqb}
use Rattle.word.specs.Bits.{field_of}
use Rattle.machine.proofs.Laws.{calm}
use Rattle.machine.proofs.choice.is_calm.Goals.{then-t-eq0, else-t-eq0}
use Rattle.machine.proofs.choice.is_calm.Goals as goal

pub returns-then-field-eq0 : goal.returns-then-field-eq0
returns-then-field-eq0 c = λ e. elim c.if-t-eq0.branch [
  | then-t-eq0 w ↦ calm _ _ w.if-t-eq0.true (let f : eqb (field_of c.args.c.hwdbg 2 2) 0 ≡ true = rw (← w.field.ensures) (sym w.value-is ∙ c.if-field-eq0.true) in rw (f, e))
  | else-t-eq0 w ↦ absurd (false≢true (sym (ne_eqb _ _ w.if-t-eq0.false) ∙ sym w.value-is ∙ c.if-field-eq0.true))
]

pub returns-else-field-eq0 : goal.returns-else-field-eq0
returns-else-field-eq0 c = λ e. absurd (false≢true (sym c.if-field-eq0.false ∙ e))
