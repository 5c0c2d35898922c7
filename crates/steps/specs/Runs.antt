-- How a run ends (document 01, "Replies of a run"): the budget is used up, or a step stops.
-- Assumes nothing.
use Rattle.std.specs.Prelude.{ℕ, ◌<◌, ◌≡◌, List, get_or}
use Rattle.instruction.specs.Reply.{number_of}
use Rattle.machine.specs.Step.{stopped, step_of}
use Rattle.machine.specs.Run.{Final}

-- a run that is not refused, with budget b and tape t: "10 before each step", after as many steps as the budget has; or the step after fewer of them stops, from
-- what they left, and its reply is the run's
pub data Counts (b : ℕ) (t : List ℕ) (f : Final) : Type 0 where
  used_up : number_of f.ended.reply ≡ 10 → f.ended.steps ≡ b → Counts b t f
  stops : f.ended.steps < b → step_of (get_or t f.ended.steps 0) f.ended.state f.mem f.marks ≡ stopped f.ended.reply → Counts b t f
