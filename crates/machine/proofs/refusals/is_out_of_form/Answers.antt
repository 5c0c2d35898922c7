use Rattle.std.proofs.Common.{arith}
use Rattle.std.proofs.lemmas.Grind.{common_steps}
use Rattle.machine.specs.State.{out_of_form}
use Rattle.machine.proofs.refusals.is_out_of_form.Goals as goal

pub returns-then-c : goal.returns-then-c
unfolding out_of_form
returns-then-c c = grind (arith, common_steps)

pub returns-else-c : goal.returns-else-c
unfolding out_of_form
returns-else-c c = grind (arith, common_steps)

pub returns-then-c-gt511 : goal.returns-then-c-gt511
unfolding out_of_form
returns-then-c-gt511 c = grind (arith, common_steps)
