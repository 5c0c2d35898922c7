-- A step stops with 12, 13 or 14 and nothing else; so a run gives one of the replies listed in specs/Replies.antt.
-- Assumes nothing.
use Rattle.std.specs.Prelude.{Err, None, Ok, Option, Result}
use Prim.Native.Nat.{ℕ, zero, suc, ◌+◌}
use mathlib.Core.Bool.{Bool, true, false, cond}
use mathlib.Core.List.{List}
use lib.Dec.{ltb, lit≤}
use lib.ListN.{length, get_or, take}
use Rattle.word.specs.Bytes.{any_above}
use Rattle.cpu.specs.Control.{pc_of}
use Rattle.cpu.specs.Exec.{sources_of}
use Rattle.cpu.specs.declared.Control.{Control}
use Rattle.marks.specs.Memory.{Marks, bad_room, bad_mark}
use Rattle.marks.specs.declared.Flags.{Flags}
use Rattle.instruction.specs.Reply.{number_of}
use Rattle.instruction.specs.Fetch.{fetch_of}
use Rattle.instruction.specs.Act.{reach_of, act_of}
use Rattle.instruction.specs.declared.Val.{Val}
use Rattle.instruction.specs.declared.Halt.{Halt}
use Rattle.instruction.specs.declared.Act.{Act}
use Rattle.machine.specs.State.{value_at, out_of_form}
use Rattle.machine.specs.Step.{Stepped, stopped, completed, chosen, data_of, halt_step, act_step, instr_step, fetch_step, event_step, step_of, after}
use Rattle.machine.specs.Run.{Final, bad_length, judge, go_on, steps_of, judged, run_of}
use Rattle.machine.specs.declared.State.{State}
use Rattle.machine.specs.declared.Event.{Event}
use Rattle.laws.specs.Replies.{Stops, fetch_marked, no_instruction, marked_operand, Replies, refused, used_up, stops}
use Rattle.word.specs.declared.ByteAddr.{ByteAddr}
use Rattle.instruction.specs.declared.Reply.{Reply}
use Rattle.isa.specs.declared.Instr.{Instr}

abbrev pub StepStops : Stepped → Type 0
StepStops (stopped r) = Stops (number_of r)
StepStops (completed d m k x) = Unit {0}

halt_stops : (h : Halt) (a : Option ByteAddr) (f : Flags) (c : Control) (m : List ℕ) (k : Marks) → StepStops (halt_step h a f c m k)
halt_stops Halt.FetchOutside a f c m k = tt
halt_stops Halt.FetchMarked a f c m k = fetch_marked
halt_stops Halt.NoInstruction a f c m k = no_instruction
halt_stops Halt.MarkedOperand a f c m k = marked_operand
halt_stops Halt.DataOutside a f c m k = tt

act_stops : (q : Act) (a : Option ByteAddr) (x : Val) (f : Flags) (c : Control) (m : List ℕ) (k : Marks) → StepStops (act_step q a x f c m k)
act_stops (Act.Halted h) a x f c m k = halt_stops h a f c m k
act_stops (Act.Does e t r) a x f c m k = tt

fetched_stops : (x : Result Instr Halt) (s : State) (m : List ℕ) (k : Marks) → StepStops (fetch_step x s m k)
unfolding instr_step
fetched_stops (Err h) s m k = halt_stops h None s.flags s.control m k
fetched_stops (Ok i) s m k =
    act_stops (act_of i (value_at s (sources_of i).first) (value_at s (sources_of i).second) s.flags s.control m k)
    (data_of (reach_of i (value_at s (sources_of i).second).value s.control))
    (value_at s (sources_of i).first)
    s.flags
    s.control
    m
    k

event_stops : (v : Event) (s : State) (m : List ℕ) (k : Marks) → StepStops (event_step v s m k)
event_stops (Event.Enter e) s m k = tt
event_stops Event.Instruction s m k = fetched_stops (fetch_of (pc_of s.control) m k) s m k

pub step_stops : (t : ℕ) (s : State) (m : List ℕ) (k : Marks) → StepStops (step_of t s m k)
unfolding step_of
step_stops t s m k = event_stops (chosen t s.control) s m k

-- ---- a run

go_replies : (rest : State → List ℕ → Marks → Final) (n : ℕ) (s : State) (m : List ℕ) (k : Marks) (x : Stepped) → StepStops x
    → ((u : State) (l : List ℕ) (j : Marks) → Replies (number_of (rest u l j).ended.reply)) → Replies (number_of (go_on rest n s m k x).ended.reply)
unfolding go_on
go_replies rest n s m k (stopped r) p h = stops p
go_replies rest n s m k (completed d l j x) p h = h (after d s) l j

steps_reply : (b n : ℕ) (t : List ℕ) (s : State) (m : List ℕ) (k : Marks) → Replies (number_of (steps_of b n t s m k).ended.reply)
unfolding steps_of
steps_reply zero n t s m k = used_up
steps_reply (suc b) n t s m k =
    go_replies (steps_of b (n + 1) t) n s m k (step_of (get_or t n 0) s m k) (step_stops (get_or t n 0) s m k) (λ u l j. steps_reply b (n + 1) t u l j)

abbrev JudgedReplies : Result Unit Reply → Type 0
JudgedReplies (Err r) = Replies (number_of r)
JudgedReplies (Ok _) = Unit {0}

either : (c : Bool) (x y : Result Unit Reply) → JudgedReplies x → JudgedReplies y → JudgedReplies (cond c x y)
either true x y p q = p
either false x y p q = q

judge_replies : (b : ℕ) (t : List ℕ) (s : State) (m : List ℕ) (k : Marks) → JudgedReplies (judge b t s m k)
unfolding judge
judge_replies b t s m k =
    either (bad_length (length m)) _ _ (refused (lit≤ tt) (lit≤ tt))
    (either (bad_room (length m) k) _ _ (refused (lit≤ tt) (lit≤ tt))
    (either (bad_mark (length m) k) _ _ (refused (lit≤ tt) (lit≤ tt))
    (either (out_of_form s.control) _ _ (refused (lit≤ tt) (lit≤ tt))
    (either (ltb (length t) b) _ _ (refused (lit≤ tt) (lit≤ tt))
    (either (any_above 63 (take b t)) _ _ (refused (lit≤ tt) (lit≤ tt)) tt)))))

pub run_replies : (b : ℕ) (t : List ℕ) (s : State) (m : List ℕ) (k : Marks) → Replies (number_of (run_of b t s m k).ended.reply)
unfolding run_of
run_replies b t s m k = go (judge b t s m k) (judge_replies b t s m k)
  where
    go : (j : Result Unit Reply) → JudgedReplies j → Replies (number_of (judged j b t s m k).ended.reply)
    go (Err r) p = p
    go (Ok _) p = steps_reply b 0 t s m k
