-- One step of the machine with marks (document 01, "One step"), and the line that it shows.
-- Assumes nothing.
use Rattle.std.specs.Prelude.{ℕ, zero, suc, ◌+◌, Bool, false, cond, not, ◌&&◌, List, ltb, set, Err, None, Ok, Option, Result, Some}
use Rattle.word.specs.Bits.{on}
use Rattle.word.specs.Bytes.{store_of}
use Rattle.cpu.specs.Control.{pc_of}
use Rattle.cpu.specs.Entries.{entered, is_break, watch_entry, passed}
use Rattle.cpu.specs.Cycles.{entry_cost}
use Rattle.cpu.specs.Exec.{no_reg, onward, sources_of}
use Rattle.cpu.specs.declared.Control.{Control}
use Rattle.cpu.specs.declared.Effect.{Effect}
use Rattle.cpu.specs.declared.Entry.{Entry}
use Rattle.isa.specs.declared.Instr.{Instr}
use Rattle.marks.specs.Memory.{Marks, mark_all}
use Rattle.marks.specs.declared.Flags.{Flags}
use Rattle.marks.specs.declared.Taint.{Taint}
use Rattle.instruction.specs.Fetch.{fetch_of}
use Rattle.instruction.specs.Act.{reach_of, act_of}
use Rattle.instruction.specs.declared.Val.{Val}
use Rattle.instruction.specs.declared.Reply.{Reply}
use Rattle.instruction.specs.declared.Halt.{Halt}
use Rattle.instruction.specs.declared.Act.{Act}
use Rattle.instruction.specs.declared.Reach.{Reach}
use Rattle.machine.specs.State.{value_at}
use Rattle.machine.specs.declared.State.{State}
use Rattle.machine.specs.declared.Event.{Event}
use Rattle.machine.specs.declared.Done.{Done}
use Rattle.machine.specs.declared.Line.{Line}
use Rattle.word.specs.declared.ByteAddr.{ByteAddr}

-- ---- the choice

-- of line i and the n - 1 after it, "the lowest line i that is high and has enable bit 20+i set"; i + n where there is none
unfoldable pub lowest : ℕ → ℕ → ℕ → ℕ → ℕ
lowest zero i t p = i
lowest (suc n) i t p = cond (on t i && on p (20 + i)) i (lowest n (i + 1) t p)

-- "Otherwise, if BP0 or BP1 is enabled .. debug entry, before the instruction"; BP is bit 0 of a hit
abbrev pub or_break : Control → Event
or_break c = cond (is_break c) (Event.Enter (Entry.Debug 1)) Event.Instruction

abbrev pub line_or : ℕ → Control → Event
line_or i c = cond (ltb i 6) (Event.Enter (Entry.External i)) (or_break c)

-- "If IE (bit 5) is 1 and IP (bit 3) is 0: a pending timer with TE (bit 4) set is entered; otherwise the lowest line .."; t is the tape's byte
unfoldable pub chosen : ℕ → Control → Event
chosen t c =
    cond (on c.psw 5 && not (on c.psw 3))
    (cond (c.pending && on c.psw 4) (Event.Enter Entry.Timer) (line_or (lowest 6 0 t c.psw) c))
    (or_break c)

-- ---- what an instruction reaches

abbrev pub stored_to : Reach → ℕ → List ℕ → List ℕ
stored_to Reach.Nowhere v m = m
stored_to (Reach.Reads w a) v m = m
stored_to (Reach.Writes w a) v m = store_of w m a v
stored_to (Reach.Raises n) v m = m

abbrev pub marked_to : Reach → Bool → Marks → Marks
marked_to Reach.Nowhere b k = k
marked_to (Reach.Reads w a) b k = k
marked_to (Reach.Writes w a) b k = mark_all w k a b
marked_to (Reach.Raises n) b k = k

-- The entry that an instruction makes, with c the control part after it: a swint's own, or "If it is a load or store (ldrpc too) and an enabled WP0 or
-- WP1 .. equals the address after alignment: debug entry, after it, in the same step"
abbrev pub entry_by : Reach → Control → Entry
entry_by Reach.Nowhere c = Entry.Nothing
entry_by (Reach.Reads w a) c = watch_entry a c
entry_by (Reach.Writes w a) c = watch_entry a c
entry_by (Reach.Raises n) c = Entry.Swint n

-- the address that its line shows
abbrev pub data_of : Reach → Option ByteAddr
data_of Reach.Nowhere = None
data_of (Reach.Reads w a) = Some a
data_of (Reach.Writes w a) = Some a
data_of (Reach.Raises n) = None

-- ---- a step stops, or is completed: with what it makes of the registers and the control part, of memory and of its marks, and with the line that it shows

pub data Stepped : Type 0 where
  stopped : Reply → Stepped
  completed : Done → List ℕ → Marks → Line → Stepped

-- an entry, its cost and the timer's fall by it; it changes no register
unfoldable pub entry_done : Entry → Flags → Control → Done
entry_done e f c =
    record {
      control = passed (on c.psw 4) (entry_cost e) (entered e c);
      flags = f;
      reg = no_reg;
      value = 0;
      mark = false;
    }

abbrev pub entry_step : Entry → Flags → Control → List ℕ → Marks → Stepped
entry_step e f c m k = completed (entry_done e f c) m k (record { pc = pc_of c; entry = e; address = None })

-- What comes of an instruction that is not done, one line for each reason: a stop, or a bus error, which is an entry (document 02, ticket 5). "On a fetch, ..
-- IPC is the instruction's own address; on data, .. IPC is the next instruction, and no register, byte or watchpoint hit changes". a is the data address
abbrev pub halt_step : Halt → Option ByteAddr → Flags → Control → List ℕ → Marks → Stepped
halt_step Halt.FetchOutside a f c m k = entry_step Entry.FetchError f c m k
halt_step Halt.FetchMarked a f c m k = stopped Reply.FetchMarked
halt_step Halt.NoInstruction a f c m k = stopped Reply.NoInstruction
halt_step Halt.MarkedOperand a f c m k = stopped Reply.MarkedOperand
halt_step Halt.DataOutside a f c m k =
    completed (entry_done Entry.DataError f (onward 2 c)) m k (record { pc = pc_of c; entry = Entry.DataError; address = a })

-- an instruction from control part c on: the entry that it makes, the cost of both, and the timer's fall by TE at the step's start
unfoldable pub done_of : Control → Effect → Taint → Reach → Done
done_of c e t r =
    record {
      control =
          passed (on c.psw 4 && not e.wrote) (e.cost + entry_cost (entry_by r e.control)) (entered (entry_by r e.control) e.control);
      flags = t.flags;
      reg = e.reg;
      value = e.value;
      mark = t.reg;
    }

unfoldable pub line_of : Control → Effect → Reach → Line
line_of c e r = record { pc = pc_of c; entry = entry_by r e.control; address = data_of r }

-- a is the data address, x what it may store
abbrev pub act_step : Act → Option ByteAddr → Val → Flags → Control → List ℕ → Marks → Stepped
act_step (Act.Halted h) a x f c m k = halt_step h a f c m k
act_step (Act.Does e t r) a x f c m k = completed (done_of c e t r) (stored_to r x.value m) (marked_to r x.mark k) (line_of c e r)

-- ---- the step

unfoldable pub instr_step : Instr → State → List ℕ → Marks → Stepped
instr_step i s m k =
    act_step
    (act_of i (value_at s (sources_of i).first) (value_at s (sources_of i).second) s.flags s.control m k)
    (data_of (reach_of i (value_at s (sources_of i).second).value s.control))
    (value_at s (sources_of i).first)
    s.flags
    s.control
    m
    k

abbrev pub fetch_step : Result Instr Halt → State → List ℕ → Marks → Stepped
fetch_step (Err h) s m k = halt_step h None s.flags s.control m k
fetch_step (Ok i) s m k = instr_step i s m k

abbrev pub event_step : Event → State → List ℕ → Marks → Stepped
event_step (Event.Enter e) s m k = entry_step e s.flags s.control m k
event_step Event.Instruction s m k = fetch_step (fetch_of (pc_of s.control) m k) s m k

unfoldable pub step_of : ℕ → State → List ℕ → Marks → Stepped
step_of t s m k = event_step (chosen t s.control) s m k

-- the state after a completed step
unfoldable pub after : Done → State → State
after d s =
    record { regs = set s.regs d.reg d.value; marks = set s.marks d.reg d.mark; flags = d.flags; control = d.control }
