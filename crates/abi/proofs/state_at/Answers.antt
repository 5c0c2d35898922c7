use Rattle.abi.specs.Record.{state_at}
use Rattle.abi.proofs.state_at.Goals as goal

pub returns : goal.returns
unfolding state_at
returns c = rw (c.control_at.ensures, c.at-2.ensures, c.at.ensures, c.sixteen_at-2.ensures, c.sixteen_at.ensures)
