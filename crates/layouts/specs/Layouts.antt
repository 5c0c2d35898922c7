-- The same marks in two slices, of whatever layouts, and steps and runs that agree but for the layout of the marks (document 02, ticket 7).
-- Assumes nothing.
use Rattle.std.specs.Prelude.{ℕ, zero, suc, ◌<◌, ◌≡◌, false, List, length}
use Rattle.marks.specs.Memory.{Marks, mark_at, mark_put, bad_room, bad_mark}
use Rattle.instruction.specs.declared.Reply.{Reply}
use Rattle.machine.specs.Step.{Stepped, stopped, completed}
use Rattle.machine.specs.Run.{Final}
use Rattle.machine.specs.declared.Done.{Done}
use Rattle.machine.specs.declared.Line.{Line}

-- "well-formed marks" of a memory of n bytes: neither refusal 2 nor refusal 3
pub record Formed (n : ℕ) (k : Marks) : Type 0 where
  pub room : bad_room n k ≡ false
  pub rest : bad_mark n k ≡ false

-- "the same well-formed marks", over the position
pub record SameMarks (n : ℕ) (k j : Marks) : Type 0 where
  pub left : Formed n k
  pub right : Formed n j
  pub equal : (i : ℕ) → i < n → mark_at k i ≡ mark_at j i

-- slice z with the n positions made as they are in k
unfoldable pub copied : ℕ → Marks → Marks → Marks
copied zero k z = z
copied (suc n) k z = mark_put (copied n k z) n (mark_at k n)

-- "equal reply, state, memory and marks at each step", and the same line
pub data SameStep : Stepped → Stepped → Type 0 where
  stops : (r : Reply) → SameStep (stopped r) (stopped r)
  goes : (d : Done) (m : List ℕ) {k j : Marks} (x : Line) → SameMarks (length m) k j → SameStep (completed d m k x) (completed d m j x)

-- the ends of two runs
pub record SameEnd (f g : Final) : Type 0 where
  pub ended : f.ended ≡ g.ended
  pub mem : f.mem ≡ g.mem
  pub marks : SameMarks (length f.mem) f.marks g.marks
