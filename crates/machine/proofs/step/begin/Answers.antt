use Rattle.machine.specs.Parts.{begun_of}
use Rattle.machine.proofs.step.begin.Goals as goal

pub returns-in-Enter : goal.returns-in-Enter
unfolding begun_of
returns-in-Enter c = rw (c.enter.ensures, ← c.choose.ensures, c.in-Enter.is)

pub returns-in-Err : goal.returns-in-Err
unfolding begun_of
returns-in-Err c = rw (← c.choose.ensures, c.in-Instruction.is, ← c.first_half.ensures, c.in-Err.is)

pub returns-in-Ok : goal.returns-in-Ok
unfolding begun_of
returns-in-Ok c = rw (← c.choose.ensures, c.in-Instruction.is, ← c.first_half.ensures, c.in-Ok.is)
