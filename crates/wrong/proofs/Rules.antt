-- The machine over the true rules is the machine.
-- Assumes nothing.
use Rattle.std.specs.Prelude.{Err, Ok, Option, Result}
use Prim.Native.Nat.{ℕ, zero, suc, ◌+◌}
use mathlib.Core.Path.{◌≡◌, refl}
use mathlib.Core.Bool.{Bool}
use mathlib.Core.List.{List}
use Rattle.cpu.specs.declared.Control.{Control}
use Rattle.marks.specs.declared.Flags.{Flags}
use Rattle.marks.specs.Memory.{Marks}
use Rattle.instruction.specs.Act.{act_of}
use Rattle.instruction.specs.declared.Val.{Val}
use Rattle.instruction.specs.declared.Reach.{Reach}
use Rattle.instruction.specs.declared.Act.{Act}
use Rattle.machine.specs.Step.{Stepped, stopped, completed, marked_to, act_step, instr_step, fetch_step, event_step, step_of, after}
use Rattle.machine.specs.Run.{Final, judge, go_on, steps_of, judged, run_of}
use Rattle.machine.specs.declared.State.{State}
use Rattle.machine.specs.declared.Event.{Event}
use Rattle.wrong.specs.Rules.{true_rules, act_with, marked_with, act_step_with, instr_step_with, fetch_step_with, event_step_with, step_with, steps_with, judged_with, run_with}
use Rattle.word.specs.declared.ByteAddr.{ByteAddr}
use Rattle.instruction.specs.declared.Reply.{Reply}
use Rattle.isa.specs.declared.Instr.{Instr}
use Rattle.instruction.specs.declared.Halt.{Halt}

marked_true : (r : Reach) (b : Bool) (k : Marks) → marked_with true_rules r b k ≡ marked_to r b k
marked_true Reach.Nowhere b k = refl
marked_true (Reach.Reads w a) b k = refl
marked_true (Reach.Writes w a) b k = refl
marked_true (Reach.Raises n) b k = refl

act_true : (q : Act) (a : Option ByteAddr) (x : Val) (f : Flags) (c : Control) (m : List ℕ) (k : Marks) → act_step_with true_rules q a x f c m k ≡ act_step q a x f c m k
act_true (Act.Halted h) a x f c m k = refl
act_true (Act.Does e t r) a x f c m k = rw marked_true

fetch_true : (f : Result Instr Halt) (s : State) (m : List ℕ) (k : Marks) → fetch_step_with true_rules f s m k ≡ fetch_step f s m k
unfolding instr_step_with instr_step act_with act_of
fetch_true (Err h) s m k = refl
fetch_true (Ok i) s m k = rw act_true

event_true : (v : Event) (s : State) (m : List ℕ) (k : Marks) → event_step_with true_rules v s m k ≡ event_step v s m k
event_true (Event.Enter e) s m k = refl
event_true Event.Instruction s m k = rw fetch_true

go_true : (f g : State → List ℕ → Marks → Final) → ((s : State) (m : List ℕ) (k : Marks) → f s m k ≡ g s m k)
    → (n : ℕ) (s : State) (m : List ℕ) (k : Marks) (x : Stepped) → go_on f n s m k x ≡ go_on g n s m k x
unfolding go_on
go_true f g e n s m k (stopped r) = refl
go_true f g e n s m k (completed d l j x) = e (after d s) l j

steps_true : (b n : ℕ) (t : List ℕ) (s : State) (m : List ℕ) (k : Marks) → steps_with true_rules b n t s m k ≡ steps_of b n t s m k
unfolding steps_with steps_of step_with step_of
steps_true zero n t s m k = refl
steps_true (suc b) n t s m k = rw event_true (go_true _ _ (steps_true b (n + 1) t) n s m k _)

judged_true : (j : Result Unit Reply) (b : ℕ) (t : List ℕ) (s : State) (m : List ℕ) (k : Marks) → judged_with true_rules j b t s m k ≡ judged j b t s m k
judged_true (Err r) b t s m k = refl
judged_true (Ok _) b t s m k = steps_true b 0 t s m k

pub run_true : (b : ℕ) (t : List ℕ) (s : State) (m : List ℕ) (k : Marks) → run_with true_rules b t s m k ≡ run_of b t s m k
unfolding run_with run_of
run_true b t s m k = judged_true (judge b t s m k) b t s m k
