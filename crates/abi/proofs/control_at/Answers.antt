use Rattle.abi.specs.Record.{control_at}
use Rattle.abi.proofs.control_at.Goals as goal

pub returns : goal.returns
unfolding control_at
returns c = rw (c.at-14.ensures, c.at-13.ensures, c.at-12.ensures, c.at-11.ensures, c.at-10.ensures, c.at-9.ensures, c.at-8.ensures, c.at-7.ensures, c.at-6.ensures, c.at-5.ensures, c.at-4.ensures, c.at-3.ensures, c.at-2.ensures, c.at.ensures)
