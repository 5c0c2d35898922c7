-- Document 01's numbers of the replies ("Replies of a run"); "Replies 11 and 15 are no longer given" (document 02, ticket 5).
-- Assumes nothing.
use Rattle.std.specs.Prelude.{ℕ}
use Rattle.instruction.specs.declared.Reply.{Reply}

abbrev pub number_of : Reply → ℕ
number_of Reply.MemoryLength = 1
number_of Reply.MarkLength = 2
number_of Reply.MarkPastEnd = 3
number_of Reply.Form = 4
number_of Reply.TapeLength = 5
number_of Reply.TapeByte = 6
number_of Reply.Budget = 10
number_of Reply.FetchMarked = 12
number_of Reply.NoInstruction = 13
number_of Reply.MarkedOperand = 14
