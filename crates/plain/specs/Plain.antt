-- The machine without marks: "a second definition by the same rules, with no mark in its state or its steps" (document 01, "Holding the statements to the
-- machine"). It has a state, a fetch, a step, refusals and a run of its own. Shared with the machine with marks are rules that neither read nor make a mark: the decoder
-- (decode_of, half_at), the choice of a step (chosen), entries, their cost and the timer's fall (entered, entry_by, entry_cost, passed), what an instruction does to values (exec, sources_of), where it
-- reaches (reach_of, outside, loaded_from, stored_to), and the tests of refusals 1, 4 and 6 (bad_length, out_of_form, any_above). What marks add is not here: no mark slice, no
-- marks of registers and flags, and of the replies none of 2, 3, 12 and 14.
-- Assumes nothing.
use Rattle.std.specs.Prelude.{ℕ, zero, suc, ◌+◌, cond, not, ◌&&◌, List, ltb, length, get_or, set, take, Err, None, Ok, Option, Result as Fallible, Some}
use Rattle.word.specs.Addresses.{is_odd}
use Rattle.word.specs.Bits.{on}
use Rattle.word.specs.Bytes.{inside, any_above}
use Rattle.word.specs.declared.ByteAddr.{ByteAddr}
use Rattle.isa.specs.Decode.{decode_of}
use Rattle.isa.specs.declared.Decoded.{Decoded}
use Rattle.isa.specs.declared.Instr.{Instr}
use Rattle.cpu.specs.Control.{pc_of}
use Rattle.cpu.specs.Entries.{entered, passed}
use Rattle.cpu.specs.Cycles.{entry_cost}
use Rattle.cpu.specs.Exec.{onward, moves, costing, exec, sources_of}
use Rattle.cpu.specs.declared.Control.{Control}
use Rattle.cpu.specs.declared.Effect.{Effect}
use Rattle.cpu.specs.declared.Entry.{Entry}
use Rattle.instruction.specs.Fetch.{half_at, after_half}
use Rattle.instruction.specs.Act.{reach_of, outside, loaded_from}
use Rattle.instruction.specs.declared.Reply.{Reply}
use Rattle.instruction.specs.declared.Halt.{Halt}
use Rattle.instruction.specs.declared.Reach.{Reach}
use Rattle.machine.specs.State.{out_of_form}
use Rattle.machine.specs.Step.{chosen, stored_to, entry_by}
use Rattle.machine.specs.Run.{bad_length}
use Rattle.machine.specs.declared.Event.{Event}

-- The state: "sixteen registers of 32 bits", and the control part, which is the program counter, PSW, SFR 1 to 10 and "timer pending". Memory stands beside it.
pub record Core : Type 0 where
  pub regs : List ℕ
  pub control : Control

-- a register's value
abbrev pub value_of : Core → ℕ → ℕ
value_of s i = get_or s.regs i 0

-- ---- the fetch: "first half outside, .., not an instruction, second half outside, .."

abbrev pub reached : ByteAddr → List ℕ → Fallible Instr Halt → Fallible Instr Halt
reached a m x = cond (not (inside m a 2)) (Err Halt.FetchOutside) x

abbrev pub decoded : Option Decoded → ByteAddr → List ℕ → Fallible Instr Halt
decoded (Some (Decoded.Short i)) b m = Ok i
decoded (Some (Decoded.Long i)) b m = reached b m (Ok i)
decoded None b m = Err Halt.NoInstruction

-- "A program counter found odd inside a run answers 13, before all these"
unfoldable pub fetch : ByteAddr → List ℕ → Fallible Instr Halt
fetch a m =
    cond (is_odd a) (Err Halt.NoInstruction)
    (reached a m (decoded (decode_of (half_at m a) (half_at m (after_half a))) (after_half a) m))

-- ---- one step

-- "the stopping step changes nothing", so a stop has a reply alone; a completed step has the state and the memory after it
pub data Outcome : Type 0 where
  stopped : Reply → Outcome
  completed : Core → List ℕ → Outcome

-- the state after an effect e that reaches r: the register that it writes (no_reg: none), the entry that it makes, and the timer's fall, "if TE was 1 at its
-- start" and TIMER was not written
unfoldable pub changed : Core → Effect → Reach → Core
changed s e r =
    record {
      regs = set s.regs e.reg e.value;
      control =
          passed (on s.control.psw 4 && not e.wrote) (e.cost + entry_cost (entry_by r e.control)) (entered (entry_by r e.control) e.control);
    }

-- an entry, made on control part c, which reaches no register and no memory, with its cost and the timer's fall
abbrev pub enters : Entry → Control → Core → List ℕ → Outcome
enters e c s m = completed (changed s (costing (entry_cost e) (moves (entered e c))) Reach.Nowhere) m

-- what comes of an instruction that is not done: a bus error's entry, at the instruction's own address or at the next one (document 02, ticket 5), or a stop
abbrev pub halts : Halt → Core → List ℕ → Outcome
halts Halt.FetchOutside s m = enters Entry.FetchError s.control s m
halts Halt.FetchMarked s m = stopped Reply.FetchMarked
halts Halt.NoInstruction s m = stopped Reply.NoInstruction
halts Halt.MarkedOperand s m = stopped Reply.MarkedOperand
halts Halt.DataOutside s m = enters Entry.DataError (onward 2 s.control) s m

-- an instruction whose operands have the values x and y, and which reaches memory at r: a bus error, or all that it does
unfoldable pub act : Instr → ℕ → ℕ → Reach → Core → List ℕ → Outcome
act i x y r s m =
    cond (outside r m) (halts Halt.DataOutside s m)
    (completed (changed s (exec i x y (loaded_from r m) s.control) r) (stored_to r x m))

-- its operands are read first
unfoldable pub perform : Instr → Core → List ℕ → Outcome
perform i s m =
    act i
    (value_of s (sources_of i).first)
    (value_of s (sources_of i).second)
    (reach_of i (value_of s (sources_of i).second) s.control)
    s
    m

abbrev pub on_fetched : Fallible Instr Halt → Core → List ℕ → Outcome
on_fetched (Err h) s m = halts h s m
on_fetched (Ok i) s m = perform i s m

-- what is chosen: an entry or an instruction (document 01, "One step", 1 to 3)
abbrev pub on_event : Event → Core → List ℕ → Outcome
on_event (Event.Enter e) s m = enters e s.control s m
on_event Event.Instruction s m = on_fetched (fetch (pc_of s.control) m) s m

-- t is the tape's byte of this step
unfoldable pub step : ℕ → Core → List ℕ → Outcome
step t s m = on_event (chosen t s.control) s m

-- ---- the run

-- what a run returns
pub record Result : Type 0 where
  pub reply : Reply
  pub steps : ℕ
  pub core : Core
  pub mem : List ℕ

abbrev pub result : Reply → ℕ → Core → List ℕ → Result
result r n s m = record { reply = r; steps = n; core = s; mem = m }

-- refusals 1, 4, 5 and 6, in this order; b is the budget, t the tape
unfoldable pub refusal : ℕ → List ℕ → Core → List ℕ → Fallible Unit Reply
refusal b t s m =
    cond (bad_length (length m)) (Err Reply.MemoryLength)
    (cond (out_of_form s.control) (Err Reply.Form)
    (cond (ltb (length t) b) (Err Reply.TapeLength)
    (cond (any_above 63 (take b t)) (Err Reply.TapeByte)
    (Ok tt))))

-- n steps are completed, in state s and memory m, and the next one has this outcome
unfoldable pub go_on : (Core → List ℕ → Result) → ℕ → Core → List ℕ → Outcome → Result
go_on further n s m (stopped r) = result r n s m
go_on further n s m (completed u l) = further u l

-- b more steps may be made; "10 before each step"
unfoldable pub steps_from : ℕ → ℕ → List ℕ → Core → List ℕ → Result
steps_from zero n t s m = result Reply.Budget n s m
steps_from (suc b) n t s m = go_on (steps_from b (n + 1) t) n s m (step (get_or t n 0) s m)

-- "Replies 1 to 6 return steps 0 and leave state, memory .. as given"
abbrev pub unless_refused : Fallible Unit Reply → ℕ → List ℕ → Core → List ℕ → Result
unless_refused (Err r) b t s m = result r 0 s m
unless_refused (Ok _) b t s m = steps_from b 0 t s m

unfoldable pub run : ℕ → List ℕ → Core → List ℕ → Result
run b t s m = unless_refused (refusal b t s m) b t s m
