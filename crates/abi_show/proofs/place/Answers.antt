use Rattle.abi_show.specs.Show.{placed}
use Rattle.abi_show.specs.Show.{written_to}
use Rattle.abi_show.proofs.place.Goals as goal

pub returns : goal.returns
unfolding written_to placed
returns c = rw c.store.ensures
