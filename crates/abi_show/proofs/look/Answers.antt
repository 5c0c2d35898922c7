use Rattle.abi_show.specs.Show.{look_of}
use Rattle.abi_show.proofs.look.Goals as goal

pub returns-in-Err : goal.returns-in-Err
unfolding look_of
returns-in-Err c = rw (← c.judge_all.ensures, c.in-Err.is)

pub returns-in-Ok : goal.returns-in-Ok
unfolding look_of
returns-in-Ok c = rw (c.show.ensures, c.from.ensures, ← c.judge_all.ensures, c.in-Ok.is)
