use Rattle.std.proofs.Common.{◌<◌, length, sym, ◌∙◌}
use Rattle.forms.specs.Parts.{slots}
use Rattle.forms.proofs.Laws.{entered_on, entered_end}
use Rattle.forms.proofs.Mnemonics.{all_names, few_letters}
use Rattle.forms.proofs.shapes.table.Goals as goal

pub loop-place-init : goal.loop-place-init
unfolding slots
loop-place-init c = (c.numbers-names.ensures, rw c.numbers-names.ensures)

pub put_entry-requires : goal.put_entry-requires
put_entry-requires c = (few_letters _ _ c.loop-place.invariant.0 c.loop-place-test.true, c.loop-place-test.true)

pub loop-place-preserved : goal.loop-place-preserved
loop-place-preserved c =
    let e = c.loop-place.invariant.0 in
    let n : c.loop-place.place < length c.numbers-names.result = rw (e, all_names) c.loop-place-test.true in
    (e, rw c.put_entry.ensures (sym (entered_on _ _ _ n) ∙ c.loop-place.invariant.1))

pub returns : goal.returns
returns c =
    let e = c.loop-place.invariant.0 in
    sym (entered_end _ _ _ (rw (e, all_names) c.loop-place-test.false)) ∙ c.loop-place.invariant.1
