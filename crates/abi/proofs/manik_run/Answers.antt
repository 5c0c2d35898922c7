use mathlib.Core.Path.{refl, sym, ◌∙◌}
use Rattle.abi.proofs.Parts.{in_shape}
use borrow.Author.Tests.{eq-eqb}
use Rattle.abi.specs.Call.{called}
use Rattle.abi.proofs.manik_run.Goals as goal

pub returns-then-is_shaped : goal.returns-then-is_shaped
unfolding called
returns-then-is_shaped c =
    let run = c.run-ended.ensures in
    let shape = sym c.is_shaped.ensures ∙ c.if-is_shaped.true in
    rw (c.number.ensures, c.put_state.ensures, eq-eqb _ _ (in_shape _ shape).long, run.value, run.m_after, run.k_after, c.state_at.ensures, shape)
    (record { value = refl; steps_after = refl; state_after = refl; mem_after = refl; marks_after = refl })

pub returns : goal.returns
unfolding called
returns c = rw (← c.is_shaped.ensures, c.if-is_shaped.false) (record { value = refl; steps_after = refl; state_after = refl; mem_after = refl; marks_after = refl })
