-- What is written (document 01, "The program").
-- Assumes nothing.
use Rattle.std.specs.Prelude.{ℕ, zero, suc, ◌+◌, ◌/◌, Bool, true, false, cond, List, [], ◌∷◌, ◌++◌, ltb, eqb, get_or, take, drop}
use Rattle.text.specs.Digits.{hex_text, decimal_text}
use Rattle.marks.specs.Memory.{Marks, bits, bytes}
use Rattle.instruction.specs.Reply.{number_of}
use Rattle.machine.specs.State.{fresh_state}
use Rattle.machine.specs.Run.{Final, run_of}
use Rattle.machine.specs.declared.Ended.{Ended}
use Rattle.machine.specs.declared.State.{State}
use Rattle.script.specs.Line.{blank}
use Rattle.script.specs.declared.Phase.{Phase}
use Rattle.script.specs.declared.Reader.{Reader}

-- "`bad`, a tab and the line number"
unfoldable pub bad_text : ℕ → List ℕ
bad_text n = (98 ∷ 97 ∷ 100 ∷ 9 ∷ []) ++ (decimal_text n ++ (10 ∷ []))

-- `end`, the reply and the steps
unfoldable pub end_text : ℕ → ℕ → List ℕ
end_text r n = (101 ∷ 110 ∷ 100 ∷ 9 ∷ []) ++ (decimal_text r ++ ((9 ∷ []) ++ (decimal_text n ++ (10 ∷ []))))

-- `pc`, eight digits
unfoldable pub pc_text : ℕ → List ℕ
pc_text x = (112 ∷ 99 ∷ 9 ∷ []) ++ (hex_text x ++ (10 ∷ []))

abbrev pub stars : List ℕ
stars = 42 ∷ 42 ∷ 42 ∷ 42 ∷ 42 ∷ 42 ∷ 42 ∷ 42 ∷ []

unfoldable pub register_line : ℕ → List ℕ → List ℕ
register_line i t = (114 ∷ []) ++ (decimal_text i ++ ((9 ∷ []) ++ (t ++ (10 ∷ []))))

-- "each register that is marked or not zero; a marked one as eight stars"
unfoldable pub register_text : ℕ → ℕ → Bool → List ℕ
register_text i v true = register_line i stars
register_text i v false = cond (eqb v 0) [] (register_line i (hex_text v))

-- register i and the n - 1 after it
unfoldable pub registers_text : ℕ → ℕ → List ℕ → List Bool → List ℕ
registers_text zero i regs marks = []
registers_text (suc n) i regs marks = register_text i (get_or regs i 0) (get_or marks i false) ++ registers_text n (i + 1) regs marks

unfoldable pub state_text : State → List ℕ
state_text s = pc_text s.control.pc ++ registers_text 16 0 s.regs s.marks

-- "A refusal gives only the `end` line": replies 1 to 6
unfoldable pub ended_text : Ended → List ℕ
ended_text e = end_text (number_of e.reply) e.steps ++ cond (ltb (number_of e.reply) 10) [] (state_text e.state)

-- the marks of memory's first n bytes, which a run on these is lent: the first bytes of the room for marks, as many as refusal 2 asks for (`bad_room`)
abbrev pub lent_of : ℕ → Marks → Marks
lent_of n (bits k) = bits (take ((n + 7) / 8) k)
lent_of n (bytes k) = bytes (take n k)

-- the slice that holds marks
abbrev pub slice_of : Marks → List ℕ
slice_of (bits k) = k
slice_of (bytes k) = k

-- the room k after the run, which made j of what it was lent; the rest is kept
abbrev pub room_after : ℕ → Marks → Marks → Marks
room_after n j (bits k) = bits (slice_of j ++ drop ((n + 7) / 8) k)
room_after n j (bytes k) = bytes (slice_of j ++ drop n k)

-- "The state is fresh and the tape all zero"; memory is the first n bytes of its room, b is the budget
abbrev pub ran_of : ℕ → ℕ → List ℕ → Marks → Final
ran_of n b m k = run_of b blank fresh_state (take n m) (lent_of n k)

-- The text, and memory and marks after it. A line is unfinished where a byte of it came, and then it is bad; so is an end of input before `run`.
pub record Answered : Type 0 where
  pub text : List ℕ
  pub mem : List ℕ
  pub marks : Marks

abbrev pub badly : ℕ → List ℕ → Marks → Answered
badly n m k = record { text = bad_text n; mem = m; marks = k }

abbrev pub ran_text : ℕ → ℕ → List ℕ → Marks → Answered
ran_text n b m k =
    record { text = ended_text (ran_of n b m k).ended; mem = (ran_of n b m k).mem ++ drop n m; marks = room_after n (ran_of n b m k).marks k }

unfoldable pub answered : Phase → Bool → ℕ → List ℕ → Marks → Answered
answered Phase.First e i m k = badly i m k
answered (Phase.Body n) e i m k = badly i m k
answered (Phase.Done n b) true i m k = ran_text n b m k
answered (Phase.Done n b) false i m k = badly i m k
answered Phase.Bad e i m k = badly i m k

abbrev pub answer_by : Reader → List ℕ → Marks → Answered
answer_by r m k = answered r.phase (eqb r.used 0) r.number m k
