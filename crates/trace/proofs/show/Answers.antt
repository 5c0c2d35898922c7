use Rattle.machine.specs.Step.{step_of}
use Rattle.trace.proofs.show.Goals as goal

pub returns-in-Enter : goal.returns-in-Enter
unfolding step_of
returns-in-Enter c = rw (c.entry_line.ensures, ← c.choose.ensures, c.in-Enter.is)

pub returns-in-Instruction : goal.returns-in-Instruction
unfolding step_of
returns-in-Instruction c = rw (c.show_fetch.ensures, ← c.choose.ensures, c.in-Instruction.is)
