use mathlib.Core.Path.{refl}
use Rattle.std.proofs.lemmas.Result.{err_from_is_err_and}
use Rattle.machine.specs.Parts.{half_act}
use Rattle.machine.proofs.step.half_step.Goals as goal

pub returns-in_err-i : goal.returns-in_err-i
unfolding half_act
returns-in_err-i c =
    let p = err_from_is_err_and c.from_residual.result c.from_residual.ensures.1 in
    rw (p.1, p.2, ← c.kind_of-kind.ensures, ← c.rest_at.ensures, c.in_err-i.was) (record { value = refl; m_after = refl; mk_after = refl })

pub returns : goal.returns
unfolding half_act
returns c =
    rw (← c.kind_of-kind.ensures, ← c.rest_at.ensures, c.in_ok-i.was)
    (rw c.act_on-a.ensures at c.act_step.ensures)
