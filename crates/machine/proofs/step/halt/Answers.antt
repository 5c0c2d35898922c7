use Rattle.cpu.specs.Cycles.{entry_cost}
use Rattle.machine.proofs.step.halt.Goals as goal

pub returns-in-FetchOutside : goal.returns-in-FetchOutside
unfolding entry_cost
returns-in-FetchOutside c = rw (c.pass.ensures, c.fetch_error.ensures, c.is_on-te.ensures, c.in-FetchOutside.is)

pub returns-in-DataOutside : goal.returns-in-DataOutside
unfolding entry_cost
returns-in-DataOutside c = rw (c.pass-in-DataOutside.ensures, c.data_error.ensures, c.is_on-te.ensures, c.in-DataOutside.is)
