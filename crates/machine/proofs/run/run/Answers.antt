use mathlib.Core.Path.{refl, sym, ◌∙◌}
use native.Mathlib.Omega.{arith}
use Rattle.marks.specs.Memory.{bits}
use Rattle.machine.specs.Run.{run_of}
use Rattle.machine.proofs.Laws.{long_tape}
use Rattle.machine.proofs.run.run.Goals as goal

pub steps-requires : goal.steps-requires
steps-requires c =
    let a = c.args in
    omega (arith, long_tape a.b a.t.now a.s a.m.now (bits a.k.now) (sym c.judge_all.ensures ∙ c.in-Ok.is))

pub returns-in-Err : goal.returns-in-Err
unfolding run_of
returns-in-Err c = rw (← c.judge_all.ensures, c.in-Err.is, c.end_at.ensures) (record { value = refl; m_after = refl; k_after = refl })

pub returns-in-Ok : goal.returns-in-Ok
unfolding run_of
returns-in-Ok c = rw (← c.judge_all.ensures, c.in-Ok.is) c.steps.ensures
