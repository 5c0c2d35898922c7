-- A run that goes on where another left it.
-- Assumes nothing.
use Rattle.std.specs.Prelude.{ℕ, cond, List, eqb}
use Rattle.instruction.specs.Reply.{number_of}
use Rattle.machine.specs.Run.{Final, steps_of}

-- b more steps from what f left, if its budget was used up; a run that stopped stays as it is
unfoldable pub resume : ℕ → List ℕ → Final → Final
resume b t f =
    cond (eqb (number_of f.ended.reply) 10)
    (steps_of b f.ended.steps t f.ended.state f.mem f.marks)
    f
