-- With nothing marked, each step and each run of the machine with marks is that of the machine without, beside the same marks.
-- Assumes nothing.
use Rattle.std.specs.Prelude.{Err, None, Ok, Option, Result as Fallible, Some}
use Prim.Native.Nat.{ℕ, zero, suc, ◌+◌}
use mathlib.Core.Path.{◌≡◌, refl, sym, ap₂, subst}
use mathlib.Core.Bool.{Bool, true, false, cond, ◌&&◌}
use mathlib.Core.List.{List}
use native.Mathlib.Omega.{arith}
use lib.ListN.{length, get_or, set, replicate}
use Rattle.word.specs.Bits.{on}
use Rattle.word.specs.declared.ByteAddr.{ByteAddr}
use Rattle.word.specs.declared.Width.{Width}
use Rattle.isa.specs.declared.Decoded.{Decoded}
use Rattle.isa.specs.declared.Instr.{Instr}
use Rattle.cpu.specs.Control.{pc_of, with_pc, tf}
use Rattle.cpu.specs.Entries.{entered}
use Rattle.cpu.specs.Cycles.{entry_cost}
use Rattle.cpu.specs.Exec.{onward, exec, sources_of}
use Rattle.cpu.specs.declared.Control.{Control}
use Rattle.cpu.specs.declared.Effect.{Effect}
use Rattle.cpu.specs.declared.Entry.{Entry}
use Rattle.marks.specs.Marks.{with}
use Rattle.marks.specs.Memory.{Marks, mark_at, bad_room}
use Rattle.marks.specs.declared.Flags.{Flags}
use Rattle.instruction.specs.Fetch.{guarded, found, fetch_of}
use Rattle.instruction.specs.Act.{reach_of, outside, loaded_from, act_of}
use Rattle.instruction.specs.declared.Val.{Val}
use Rattle.instruction.specs.Statements.{decoded_at}
use Rattle.instruction.specs.declared.Reply.{Reply}
use Rattle.instruction.specs.declared.Halt.{Halt}
use Rattle.instruction.specs.declared.Reach.{Reach}
use Rattle.instruction.specs.declared.Act.{Act}
use Rattle.machine.specs.State.{value_at}
use Rattle.machine.specs.Step.{Stepped, stopped as halted, completed as made, chosen, stored_to, entry_done, done_of, halt_step, act_step, instr_step, fetch_step, event_step, step_of, after}
use Rattle.machine.specs.Run.{Final, judge, go_on, steps_of, judged, run_of}
use Rattle.machine.specs.declared.State.{State}
use Rattle.machine.specs.declared.Event.{Event}
use Rattle.machine.specs.declared.Line.{Line}
use Rattle.plain.specs.Plain.{Core, reached, decoded, fetch, Outcome, stopped, completed, changed, enters, halts, act, perform, on_fetched, on_event, step, Result, refusal, steps_from, unless_refused, run, go_on as goOnPlain}
use Rattle.plain.specs.Clean.{Clean, core_of, beside}
use Rattle.plain.proofs.Marks.{none, reg_off, reg_kept, none_bad, marked_off, loaded_off, marked_kept, taint_off, blocked_off}

-- a state of the machine without marks, as one with marks of which none is set
abbrev unmarked : Core → State
unmarked s = record { regs = s.regs; marks = replicate 16 false; flags = none; control = s.control }

-- ---- one step

-- a step of the one machine and of the other, from state s, memory m and mark slice k: both stop alike, or come to the same state and memory
data Agree (s : Core) (k : Marks) : Stepped → Outcome → Type 0 where
  stops : (r : Reply) → Agree s k (halted r) (stopped r)
  goes : (c : Control) (r v : ℕ) (l : List ℕ) (x : Line)
      → Agree s k (made (record { control = c; flags = none; reg = r; value = v; mark = false }) l k x)
      (completed (record { regs = set s.regs r v; control = c }) l)

plus_zero : (n : ℕ) → n + 0 ≡ n
plus_zero n = omega arith

and_true : (b : Bool) → (b && true) ≡ b
and_true true = refl
and_true false = refl

module _ (k : Marks) (z : (i : ℕ) → mark_at k i ≡ false) where
  guarded_same : (a : ByteAddr) (m : List ℕ) (x : Fallible Instr Halt) → guarded a m k x ≡ reached a m x
  guarded_same a m x = rw (marked_off k z Width.Half a)

  found_same : (d : Option Decoded) (b : ByteAddr) (m : List ℕ) → found d b m k ≡ decoded d b m
  found_same (Some (Decoded.Short i)) b m = refl
  found_same (Some (Decoded.Long i)) b m = guarded_same b m (Ok i)
  found_same None b m = refl

  fetch_same : (a : ByteAddr) (m : List ℕ) → fetch_of a m k ≡ fetch a m
  unfolding fetch_of fetch
  fetch_same a m = rw (marked_off k z Width.Half a, found_same (decoded_at m a) _ m)

  -- an entry on a control part that has the same TE
  enters_same : (e : Entry) (c : Control) (s : Core) (m : List ℕ) (x : Line) → on c.psw 4 ≡ on s.control.psw 4
      → Agree s k (made (entry_done e none c) m k x) (enters e c s m)
  unfolding changed entry_done entered entry_cost
  enters_same e c s m x p = rw (p, and_true (on s.control.psw 4), plus_zero (entry_cost e)) (goes _ _ _ _ _)

  halts_same : (h : Halt) (a : Option ByteAddr) (s : Core) (m : List ℕ) → Agree s k (halt_step h a none s.control m k) (halts h s m)
  unfolding onward with_pc
  halts_same Halt.FetchOutside a s m = enters_same Entry.FetchError s.control s m _ refl
  halts_same Halt.FetchMarked a s m = stops Reply.FetchMarked
  halts_same Halt.NoInstruction a s m = stops Reply.NoInstruction
  halts_same Halt.MarkedOperand a s m = stops Reply.MarkedOperand
  halts_same Halt.DataOutside a s m = enters_same Entry.DataError (onward 2 s.control) s m _ refl

  does_same : (s : Core) (m : List ℕ) (u : Bool) (a : Option ByteAddr) (v : ℕ) (e : Effect) (r : Reach)
      → Agree s k
      (act_step (cond u (Act.Halted Halt.DataOutside) (Act.Does e (with false none) r)) a (record { value = v; mark = false }) none s.control m k)
      (cond u (halts Halt.DataOutside s m) (completed (changed s e r) (stored_to r v m)))
  unfolding done_of changed
  does_same s m true a v e r = halts_same Halt.DataOutside a s m
  does_same s m false a v e r = rw (marked_kept k z r) (goes _ _ _ _ _)

  act_same : (i : Instr) (a : Option ByteAddr) (x y : Val) (s : Core) (m : List ℕ) → x.mark ≡ false → y.mark ≡ false
      → Agree s k (act_step (act_of i x y none s.control m k) a x none s.control m k)
      (act i x.value y.value (reach_of i y.value s.control) s m)
  unfolding act_of act
  act_same i a x y s m p q =
      let r : Reach = reach_of i y.value s.control in
      rw (p, q, blocked_off i, loaded_off k z r, taint_off i (tf s.control))
      (does_same s m (outside r m) a x.value (exec i x.value y.value (loaded_from r m) s.control) r)

  fetched_same : (x : Fallible Instr Halt) (s : Core) (m : List ℕ) → Agree s k (fetch_step x (unmarked s) m k) (on_fetched x s m)
  unfolding instr_step perform
  fetched_same (Err h) s m = halts_same h None s m
  fetched_same (Ok i) s m =
      act_same i _ (value_at (unmarked s) (sources_of i).first) (value_at (unmarked s) (sources_of i).second) s m
      (reg_off (sources_of i).first)
      (reg_off (sources_of i).second)

  event_same : (v : Event) (s : Core) (m : List ℕ) → Agree s k (event_step v (unmarked s) m k) (on_event v s m)
  event_same (Event.Enter e) s m = enters_same e s.control s m _ refl
  event_same Event.Instruction s m = rw (fetch_same (pc_of s.control) m) (fetched_same (fetch (pc_of s.control) m) s m)

  step_same : (t : ℕ) (s : Core) (m : List ℕ) → Agree s k (step_of t (unmarked s) m k) (step t s m)
  unfolding step_of step
  step_same t s m = event_same (chosen t s.control) s m

  -- ---- a run

  goes_on : (n : ℕ) (s : Core) (m : List ℕ) (further : State → List ℕ → Marks → Final) (plainly : Core → List ℕ → Result)
      → ((u : Core) (l : List ℕ) → further (unmarked u) l k ≡ beside (plainly u l) (unmarked u) k) → (x : Stepped) (o : Outcome) → Agree s k x o
      → go_on further n (unmarked s) m k x ≡ beside (goOnPlain plainly n s m o) (unmarked s) k
  unfolding go_on goOnPlain after
  goes_on n s m further plainly h x o (stops r) = refl
  goes_on n s m further plainly h x o (goes c r v l y) = rw (reg_kept r) (h _ l)

  steps_same : (b n : ℕ) (t : List ℕ) (s : Core) (m : List ℕ) → steps_of b n t (unmarked s) m k ≡ beside (steps_from b n t s m) (unmarked s) k
  unfolding steps_of steps_from
  steps_same zero n t s m = refl
  steps_same (suc b) n t s m =
      goes_on n s m (steps_of b (n + 1) t) (steps_from b (n + 1) t) (λ u l. steps_same b (n + 1) t u l) _ _ (step_same (get_or t n 0) s m)

  judge_same : (b : ℕ) (t : List ℕ) (s : Core) (m : List ℕ) → bad_room (length m) k ≡ false → judge b t (unmarked s) m k ≡ refusal b t s m
  unfolding judge refusal
  judge_same b t s m e = rw (e, none_bad (length m) k z)

  judged_same : (j : Fallible Unit Reply) (b : ℕ) (t : List ℕ) (s : Core) (m : List ℕ)
      → judged j b t (unmarked s) m k ≡ beside (unless_refused j b t s m) (unmarked s) k
  judged_same (Err r) b t s m = refl
  judged_same (Ok _) b t s m = steps_same b 0 t s m

  unmarked_same : (b : ℕ) (t : List ℕ) (s : Core) (m : List ℕ) → bad_room (length m) k ≡ false
      → run_of b t (unmarked s) m k ≡ beside (run b t s m) (unmarked s) k
  unfolding run_of run
  unmarked_same b t s m e = rw (judge_same b t s m e) (judged_same (refusal b t s m) b t s m)

-- a state with clean marks is its core, unmarked
is_unmarked : (s : State) (m : List ℕ) (k : Marks) → Clean s m k → s ≡ unmarked (core_of s)
is_unmarked s m k c =
    ap₂ (λ (l : List Bool) (f : Flags). record { regs = s.regs; marks = l; flags = f; control = s.control }) c.regs
    (ap₂ (λ (t y : Bool). record { tf = t; cy = y }) c.tf c.cy)

pub run_same : (b : ℕ) (t : List ℕ) (s : State) (m : List ℕ) (k : Marks) → Clean s m k → run_of b t s m k ≡ beside (run b t (core_of s) m) s k
run_same b t s m k c =
    subst (λ (u : State). run_of b t u m k ≡ beside (run b t (core_of s) m) u k) (sym (is_unmarked s m k c))
    (unmarked_same k c.memory b t (core_of s) m c.room)
