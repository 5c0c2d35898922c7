use Rattle.std.proofs.Common.{arith}
use Rattle.std.proofs.lemmas.Grind.{common_steps}
use Rattle.abi.specs.Record.{shaped}
use Rattle.abi.proofs.is_shaped.Goals as goal

pub returns-then-r-eq160 : goal.returns-then-r-eq160
unfolding shaped
returns-then-r-eq160 c = grind (arith, common_steps)

pub returns-else-r-eq160 : goal.returns-else-r-eq160
unfolding shaped
returns-else-r-eq160 c = grind (arith, common_steps)
