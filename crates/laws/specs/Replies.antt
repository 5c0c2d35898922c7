-- The replies that a run can give, by document 01's numbers: "Replies 11 and 15 are no longer given" (document 02, ticket 5).
-- Assumes nothing.
use Rattle.std.specs.Prelude.{ℕ, ◌≤◌}

-- a step that can't be done: "instruction fetch from a marked byte", "bits that are no instruction", "a marked operand where none may be"
pub data Stops : ℕ → Type 0 where
  fetch_marked : Stops 12
  no_instruction : Stops 13
  marked_operand : Stops 14

pub data Replies : ℕ → Type 0 where
  refused : {n : ℕ} → 1 ≤ n → n ≤ 6 → Replies n
  used_up : Replies 10
  stops : {n : ℕ} → Stops n → Replies n
