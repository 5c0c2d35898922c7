use Rattle.cpu.specs.Cycles.{entry_cost}
use Rattle.machine.proofs.step.cost_by.Goals as goal

pub returns-in-Nowhere : goal.returns-in-Nowhere
unfolding entry_cost
returns-in-Nowhere c = rw c.in-Nowhere.is

pub returns-in-Raises : goal.returns-in-Raises
unfolding entry_cost
returns-in-Raises c = rw c.in-Raises.is
