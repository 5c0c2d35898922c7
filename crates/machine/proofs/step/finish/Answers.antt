use Rattle.std.proofs.Common.{arith}
use Rattle.std.proofs.lemmas.Grind.{common_steps}
use Rattle.machine.specs.Step.{done_of}
use Rattle.machine.proofs.step.finish.Goals as goal

pub returns : goal.returns
unfolding done_of
returns c = grind (arith, common_steps)
