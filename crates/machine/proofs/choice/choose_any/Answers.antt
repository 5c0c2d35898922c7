use Rattle.std.proofs.Common.{arith}
use Rattle.std.proofs.lemmas.Grind.{common_steps}
use Rattle.machine.specs.Step.{chosen}
use Rattle.machine.proofs.choice.choose_any.Goals as goal

pub returns-then-is_on : goal.returns-then-is_on
unfolding chosen
returns-then-is_on c = grind (arith, common_steps)

pub returns-then-is_open : goal.returns-then-is_open
unfolding chosen
returns-then-is_open c = grind (arith, common_steps)

pub returns : goal.returns
unfolding chosen
returns c = grind (arith, common_steps)
