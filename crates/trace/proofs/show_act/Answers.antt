use Rattle.machine.specs.Step.{line_of}
use Rattle.trace.proofs.show_act.Goals as goal

pub returns-in-Does : goal.returns-in-Does
unfolding line_of
returns-in-Does c = rw (c.entry_line.ensures, c.data_of.ensures, c.entry_of.ensures, c.in-Does.is)
