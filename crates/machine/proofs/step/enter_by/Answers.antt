use Rattle.cpu.specs.Entries.{entered}
use Rattle.machine.proofs.step.enter_by.Goals as goal

pub returns-in-Nowhere : goal.returns-in-Nowhere
unfolding entered
returns-in-Nowhere c = rw c.in-Nowhere.is
