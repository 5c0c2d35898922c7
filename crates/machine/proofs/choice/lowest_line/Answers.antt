use Rattle.machine.proofs.Lines.{count_is_lowest}
use Rattle.machine.specs.Step.{lowest}
use Rattle.machine.proofs.choice.lowest_line.Goals as goal

pub returns-then-t-eq0 : goal.returns-then-t-eq0
unfolding lowest
returns-then-t-eq0 c = rw c.if-t-eq0.true

pub returns : goal.returns
returns c = count_is_lowest _ _
