-- The machine over any rules of the marks: the step of crates/instruction/specs/Act.antt and crates/machine/specs/Step.antt with the rules as a parameter,
-- and rules that mark too little.
-- Assumes nothing.
use Rattle.std.specs.Prelude.{ℕ, zero, suc, ◌+◌, ◌/◌, Bool, false, cond, not, ◌&&◌, List, eqb, get_or, Err, None, Ok, Option, Result, Some}
use Rattle.word.specs.declared.ByteAddr.{ByteAddr}
use Rattle.word.specs.declared.Width.{Width}
use Rattle.isa.specs.Encode.{encode_of}
use Rattle.isa.specs.declared.Instr.{Instr}
use Rattle.isa.specs.declared.Encoded.{Encoded}
use Rattle.cpu.specs.Control.{pc_of, tf}
use Rattle.cpu.specs.Exec.{exec, sources_of}
use Rattle.cpu.specs.declared.Control.{Control}
use Rattle.marks.specs.Marks.{taint, blocked, with}
use Rattle.marks.specs.Memory.{Marks, mark_all}
use Rattle.marks.specs.declared.Flags.{Flags}
use Rattle.marks.specs.declared.Taint.{Taint}
use Rattle.instruction.specs.Fetch.{fetch_of}
use Rattle.instruction.specs.Act.{reach_of, outside, loaded_from, loaded_mark}
use Rattle.instruction.specs.declared.Val.{Val}
use Rattle.instruction.specs.declared.Reply.{Reply}
use Rattle.instruction.specs.declared.Halt.{Halt}
use Rattle.instruction.specs.declared.Reach.{Reach}
use Rattle.instruction.specs.declared.Act.{Act}
use Rattle.machine.specs.State.{value_at}
use Rattle.machine.specs.Step.{Stepped, completed, chosen, stored_to, data_of, entry_step, halt_step, done_of, line_of}
use Rattle.machine.specs.Run.{Final, final, judge, go_on}
use Rattle.machine.specs.declared.State.{State}
use Rattle.machine.specs.declared.Event.{Event}
use Rattle.wrong.specs.Models.{Model}

-- which operands stop an instruction, which results become marked, and what a store makes of memory's marks
pub record Rules : Type 0 where
  pub blocked : Instr → Bool → Flags → Bool
  pub taint : Instr → Bool → Bool → Bool → Bool → Flags → Taint
  pub stored : Width → Marks → ByteAddr → Bool → Marks

abbrev pub true_rules : Rules
true_rules = record { blocked = blocked; taint = taint; stored = mark_all }

abbrev pub unmarked : Flags
unmarked = record { tf = false; cy = false }

-- ---- act_of, marked_to and the step, with the rules q

unfoldable pub act_with : Rules → Instr → Val → Val → Flags → Control → List ℕ → Marks → Act
act_with q i x y f c m k =
    cond (q.blocked i y.mark f) (Act.Halted Halt.MarkedOperand)
    (cond (outside (reach_of i y.value c) m) (Act.Halted Halt.DataOutside)
    (Act.Does (exec i x.value y.value (loaded_from (reach_of i y.value c) m) c)
    (q.taint i x.mark y.mark (loaded_mark (reach_of i y.value c) k) (tf c) f)
    (reach_of i y.value c)))

abbrev pub marked_with : Rules → Reach → Bool → Marks → Marks
marked_with q Reach.Nowhere b k = k
marked_with q (Reach.Reads w a) b k = k
marked_with q (Reach.Writes w a) b k = q.stored w k a b
marked_with q (Reach.Raises n) b k = k

abbrev pub act_step_with : Rules → Act → Option ByteAddr → Val → Flags → Control → List ℕ → Marks → Stepped
act_step_with q (Act.Halted h) a x f c m k = halt_step h a f c m k
act_step_with q (Act.Does e t r) a x f c m k = completed (done_of c e t r) (stored_to r x.value m) (marked_with q r x.mark k) (line_of c e r)

unfoldable pub instr_step_with : Rules → Instr → State → List ℕ → Marks → Stepped
instr_step_with q i s m k =
    act_step_with q
    (act_with q i (value_at s (sources_of i).first) (value_at s (sources_of i).second) s.flags s.control m k)
    (data_of (reach_of i (value_at s (sources_of i).second).value s.control))
    (value_at s (sources_of i).first)
    s.flags
    s.control
    m
    k

abbrev pub fetch_step_with : Rules → Result Instr Halt → State → List ℕ → Marks → Stepped
fetch_step_with q (Err h) s m k = halt_step h None s.flags s.control m k
fetch_step_with q (Ok i) s m k = instr_step_with q i s m k

abbrev pub event_step_with : Rules → Event → State → List ℕ → Marks → Stepped
event_step_with q (Event.Enter e) s m k = entry_step e s.flags s.control m k
event_step_with q Event.Instruction s m k = fetch_step_with q (fetch_of (pc_of s.control) m k) s m k

unfoldable pub step_with : Rules → ℕ → State → List ℕ → Marks → Stepped
step_with q t s m k = event_step_with q (chosen t s.control) s m k

-- ---- the run

unfoldable pub steps_with : Rules → ℕ → ℕ → List ℕ → State → List ℕ → Marks → Final
steps_with q zero n t s m k = final Reply.Budget n s m k
steps_with q (suc b) n t s m k = go_on (steps_with q b (n + 1) t) n s m k (step_with q (get_or t n 0) s m k)

abbrev pub judged_with : Rules → Result Unit Reply → ℕ → List ℕ → State → List ℕ → Marks → Final
judged_with q (Err r) b t s m k = final r 0 s m k
judged_with q (Ok _) b t s m k = steps_with q b 0 t s m k

unfoldable pub run_with : Rules → Model
run_with q b t s m k = judged_with q (judge b t s m k) b t s m k

-- ---- rules that mark too little, each right but for one line

-- the first byte of its bits; 0, which is no instruction's, where it has none
abbrev pub byte_in : Option Encoded → ℕ
byte_in None = 0
byte_in (Some (Encoded.Half h)) = h / 256
byte_in (Some (Encoded.Pair h s)) = h / 256

unfoldable pub begins : ℕ → Instr → Bool
begins n i = eqb (byte_in (encode_of i)) n

-- mtsfr, 0x13, is not stopped by a marked register
abbrev pub mtsfr_goes : Rules
mtsfr_goes = record { blocked = λ i y f. blocked i (y && not (begins 0x13 i)) f; taint = taint; stored = mark_all }

-- lsl, 0x2c, is not stopped by a marked amount
abbrev pub shift_goes : Rules
shift_goes = record { blocked = λ i y f. blocked i (y && not (begins 0x2c i)) f; taint = taint; stored = mark_all }

-- sub, 0x20, leaves CY's mark as it was
abbrev pub sub_keeps_cy : Rules
sub_keeps_cy = record {
  blocked = blocked;
  taint = λ i x y l s f. cond (begins 0x20 i) (with (taint i x y l s f).reg f) (taint i x y l s f);
  stored = mark_all;
}

-- mov, 0x24, leaves its result unmarked
abbrev pub mov_unmarks : Rules
mov_unmarks = record {
  blocked = blocked;
  taint = λ i x y l s f. cond (begins 0x24 i) (with false (taint i x y l s f).flags) (taint i x y l s f);
  stored = mark_all;
}

-- a store leaves the marks of its bytes as they were
abbrev pub store_keeps_marks : Rules
store_keeps_marks = record { blocked = blocked; taint = taint; stored = λ w k a b. k }
