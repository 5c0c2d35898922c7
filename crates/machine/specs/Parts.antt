-- Parts that only the contracts of this crate's helpers cite. None is needed to say what the machine does; proofs/Laws.antt ties them to step_of.
-- Assumes nothing.
use Rattle.std.specs.Prelude.{ℕ, ◌+◌, ◌*◌, ◌/◌, ◌%◌, Bool, false, List, Err, None, Ok, Option, Result}
use Rattle.word.specs.Bits.{on}
use Rattle.isa.specs.Codes.{kind_of}
use Rattle.cpu.specs.Control.{pc_of}
use Rattle.cpu.specs.Entries.{entered, passed}
use Rattle.cpu.specs.Cycles.{entry_cost}
use Rattle.cpu.specs.Exec.{no_reg, onward}
use Rattle.cpu.specs.declared.Control.{Control}
use Rattle.cpu.specs.declared.Entry.{Entry}
use Rattle.marks.specs.declared.Flags.{Flags}
use Rattle.marks.specs.Memory.{Marks}
use Rattle.instruction.specs.Act.{reach_of, act_of}
use Rattle.instruction.specs.declared.Val.{Val}
use Rattle.instruction.specs.Parts.{first_half, rest_by}
use Rattle.instruction.specs.declared.Reply.{Reply}
use Rattle.instruction.specs.declared.Halt.{Halt}
use Rattle.instruction.specs.declared.Act.{Act}
use Rattle.machine.specs.Step.{Stepped, stopped, completed, chosen, stored_to, marked_to, data_of, done_of, act_step}
use Rattle.machine.specs.declared.State.{State}
use Rattle.machine.specs.declared.Event.{Event}
use Rattle.machine.specs.declared.Begun.{Begun}
use Rattle.machine.specs.declared.Done.{Done}
use Rattle.word.specs.declared.ByteAddr.{ByteAddr}
use Rattle.cpu.specs.declared.Effect.{Effect}
use Rattle.marks.specs.declared.Taint.{Taint}
use Rattle.instruction.specs.declared.Reach.{Reach}
use Rattle.isa.specs.declared.Instr.{Instr}

abbrev pub state_of : List ℕ → List Bool → Flags → Control → State
state_of regs marks f c = record { regs = regs; marks = marks; flags = f; control = c }

-- ---- a step's parts: whether it stops or what it makes, and the memory and the marks after it, m and k where it stops

pub data Went : Type 0 where
  stops : Reply → Went
  goes : Done → Went

abbrev pub out_in : Stepped → Went
out_in (stopped r) = stops r
out_in (completed d m k x) = goes d

abbrev pub mem_in : List ℕ → Stepped → List ℕ
mem_in m (stopped r) = m
mem_in m (completed d l j x) = l

abbrev pub marks_in : Marks → Stepped → Marks
marks_in k (stopped r) = k
marks_in k (completed d l j x) = j

-- ---- what comes of an instruction that is not done, without the line that it shows

abbrev pub enters : Entry → Control → Control → Result Control Reply
enters e c n = Ok (passed (on c.psw 4) (entry_cost e) (entered e n))

abbrev pub halted_to : Halt → Control → Result Control Reply
halted_to Halt.FetchOutside c = enters Entry.FetchError c c
halted_to Halt.FetchMarked c = Err Reply.FetchMarked
halted_to Halt.NoInstruction c = Err Reply.NoInstruction
halted_to Halt.MarkedOperand c = Err Reply.MarkedOperand
halted_to Halt.DataOutside c = enters Entry.DataError c (onward 2 c)

-- ---- a step in two parts: all that no register takes part in, and the instruction by its first half

abbrev pub begun_half : Result ℕ Halt → Begun
begun_half (Err h) = Begun.Halted h
begun_half (Ok h) = Begun.Half (h / 256) (h % 256)

abbrev pub begun_by : Event → Control → List ℕ → Marks → Begun
begun_by (Event.Enter e) c m k = Begun.Enter (passed (on c.psw 4) (entry_cost e) (entered e c))
begun_by Event.Instruction c m k = begun_half (first_half (pc_of c) m k)

unfoldable pub begun_of : ℕ → Control → List ℕ → Marks → Begun
begun_of t c m k = begun_by (chosen t c) c m k

-- what an instruction answers, and what it makes of memory and marks; x is what it may store
abbrev pub act_out : Act → Control → Result Done Halt
act_out (Act.Halted h) c = Err h
act_out (Act.Does e t r) c = Ok (done_of c e t r)

abbrev pub act_mem : Act → Val → List ℕ → List ℕ
act_mem (Act.Halted h) x m = m
act_mem (Act.Does e t r) x m = stored_to r x.value m

abbrev pub act_marks : Act → Val → Marks → Marks
act_marks (Act.Halted h) x k = k
act_marks (Act.Does e t r) x k = marked_to r x.mark k

-- what is fetched, done, and the data address that it reaches
abbrev pub fetched_act : Result Instr Halt → Val → Val → Flags → Control → List ℕ → Marks → Act
fetched_act (Err h) x y f c m k = Act.Halted h
fetched_act (Ok i) x y f c m k = act_of i x y f c m k

abbrev pub fetched_data : Result Instr Halt → Val → Control → Option ByteAddr
fetched_data (Err h) y c = None
fetched_data (Ok i) y c = data_of (reach_of i y.value c)

-- hi and lo are the first half's bytes, x and y are the registers whose numbers stand in lo's bits 7:4 and 3:0
abbrev pub half_fetched : ℕ → ℕ → Control → List ℕ → Marks → Result Instr Halt
half_fetched hi lo c m k = rest_by (kind_of hi) (hi * 256 + lo) (pc_of c) m k

unfoldable pub half_act : ℕ → ℕ → Val → Val → Flags → Control → List ℕ → Marks → Act
half_act hi lo x y f c m k = fetched_act (half_fetched hi lo c m k) x y f c m k

unfoldable pub half_step : ℕ → ℕ → Val → Val → Flags → Control → List ℕ → Marks → Stepped
half_step hi lo x y f c m k = act_step (half_act hi lo x y f c m k) (fetched_data (half_fetched hi lo c m k) y c) x f c m k

-- the rest of a step from its start on: the byte that names the registers x and y, what it answers, and what it makes of memory and marks
abbrev pub low_byte : Begun → ℕ
low_byte (Begun.Halted h) = 0
low_byte (Begun.Enter e) = 0
low_byte (Begun.Half hi lo) = lo

abbrev pub begun_out : Begun → Val → Val → Flags → Control → List ℕ → Marks → Result Done Halt
begun_out (Begun.Halted h) x y f c m k = Err h
begun_out (Begun.Enter e) x y f c m k = Ok (record { control = e; flags = f; reg = no_reg; value = 0; mark = false })
begun_out (Begun.Half hi lo) x y f c m k = act_out (half_act hi lo x y f c m k) c

abbrev pub begun_mem : Begun → Val → Val → Flags → Control → List ℕ → Marks → List ℕ
begun_mem (Begun.Halted h) x y f c m k = m
begun_mem (Begun.Enter e) x y f c m k = m
begun_mem (Begun.Half hi lo) x y f c m k = act_mem (half_act hi lo x y f c m k) x m

abbrev pub begun_marks : Begun → Val → Val → Flags → Control → List ℕ → Marks → Marks
begun_marks (Begun.Halted h) x y f c m k = k
begun_marks (Begun.Enter e) x y f c m k = k
begun_marks (Begun.Half hi lo) x y f c m k = act_marks (half_act hi lo x y f c m k) x k
