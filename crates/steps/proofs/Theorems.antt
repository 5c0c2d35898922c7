-- Sentences of documents 01 and 02 on steps, refusals and runs, each as a theorem on the definitions in other words than theirs; read this file alone with specs/.
-- docs/SENTENCES.md has the sentences, and slips/ the wrong definitions that these theorems refuse.
-- Assumes nothing.
use Rattle.std.specs.Prelude.{Ok}
use Prim.Native.Nat.{ℕ, zero, suc, ◌<◌}
use mathlib.Core.Path.{◌≡◌, refl, subst}
use mathlib.Core.Bool.{true, false, cond}
use mathlib.Core.List.{List}
use lib.Dec.{eqb}
use lib.ListN.{length, get_or, get_or-replicate}
use Rattle.isa.specs.declared.Instr.{Instr}
use Rattle.cpu.specs.Control.{pc_of, sfr_of, fresh_control}
use Rattle.cpu.specs.declared.Control.{Control}
use Rattle.marks.specs.Memory.{Marks, bits}
use Rattle.instruction.specs.Reply.{number_of}
use Rattle.instruction.specs.Fetch.{fetch_of}
use Rattle.instruction.specs.declared.Reply.{Reply}
use Rattle.machine.specs.State.{fresh_state}
use Rattle.machine.specs.Step.{stopped, completed, chosen, step_of, after}
use Rattle.machine.specs.Run.{judge, run_of}
use Rattle.machine.specs.declared.State.{State}
use Rattle.machine.specs.declared.Event.{Event}
use Rattle.machine.specs.declared.Done.{Done}
use Rattle.machine.specs.declared.Line.{Line}
use Rattle.sentences.specs.Sources.{any_of, stop_from}
use Rattle.steps.specs.Choice.{Chooses}
use Rattle.steps.specs.Order.{Fetches}
use Rattle.steps.specs.Ways.{found_in, Way, Does, Stopped}
use Rattle.steps.specs.Refusals.{Fault, Lowest}
use Rattle.steps.specs.Runs.{Counts}
use Rattle.steps.proofs.Choice.{chooses}
use Rattle.steps.proofs.Order.{fetches}
use Rattle.steps.proofs.Ways.{HasWay, way, DoesIn, does, operand_stops}
use Rattle.steps.proofs.Refusals.{lowest}
use Rattle.steps.proofs.Runs.{value_after, mark_after, run_counts, run_repeats}

-- 1. What a step does first: a permitted timer, else the lowest line that is high and enabled, else a breakpoint, else an instruction.
pub choice_in_order : (t : ℕ) (c : Control) → Chooses t c (chosen t c)
choice_in_order = chooses

-- 2. The tests of a fetch, in their order.
pub fetch_in_order : (a : ℕ) (m : List ℕ) (k : Marks) → Fetches a m k (fetch_of (record { 0 = a }) m k)
fetch_in_order a m k = fetches (record { 0 = a }) m k

-- 3. A step completes in one of four ways, or stops with 12, 13 or 14, each for its reason ..
module _ (t : ℕ) (s : State) (m : List ℕ) (k : Marks) where
  pub completed_has_way : (d : Done) (l : List ℕ) (j : Marks) (x : Line) → step_of t s m k ≡ completed d l j x → Way t s m k
  completed_has_way d l j x e = subst (HasWay t s m k) e (way t s m k)

  pub stopped_has_reason : (r : Reply) → step_of t s m k ≡ stopped r → Stopped t s m k (number_of r)
  stopped_has_reason r e = subst (HasWay t s m k) e (way t s m k)

  -- .. with 14 for every instruction that has a marked operand where none may be ..
  pub marked_operand_stops : (i : Instr) → chosen t s.control ≡ Event.Instruction → fetch_of (pc_of s.control) m k ≡ Ok i
      → any_of (found_in i s m k) (stop_from i) ≡ true → step_of t s m k ≡ stopped Reply.MarkedOperand
  marked_operand_stops = operand_stops t s m k

  -- .. and what a completed step does and shows is told by its way: its line's program counter, entry and data address, its cost, the timer's fall, the register
  -- with its mark, TF's and CY's marks, memory and memory's marks.
  pub step_does : (w : Way t s m k) (d : Done) (l : List ℕ) (j : Marks) (x : Line) → step_of t s m k ≡ completed d l j x → Does w d l j x
  step_does w d l j x e = subst (DoesIn t s m k w) e (does t s m k w)

-- 4. The state after it: the register that it names has the new value and mark, every other is as before.
module _ (d : Done) (s : State) where
  pub values_after : (r : ℕ) → r < length s.regs → get_or (after d s).regs r 0 ≡ cond (eqb r d.reg) d.value (get_or s.regs r 0)
  values_after = value_after d s

  pub marks_after : (r : ℕ) → r < length s.marks → get_or (after d s).marks r false ≡ cond (eqb r d.reg) d.mark (get_or s.marks r false)
  marks_after = mark_after d s

  pub rest_after : ((after d s).flags ≡ d.flags) × ((after d s).control ≡ d.control)
  unfolding after
  rest_after = (refl, refl)

-- 5. Refusals 1 to 6: the reply is the lowest number whose fault holds, and none if there is none.
pub lowest_refusal : (b : ℕ) (t : List ℕ) (s : State) (m k : List ℕ) → Lowest (Fault b t s.control m k) (judge b t s m (bits k))
lowest_refusal = lowest

-- 6. A run that is not refused uses its budget up, with 10, or ends before the first step that stops; the result repeats the cycle count.
module _ (b : ℕ) (t : List ℕ) (s : State) (m : List ℕ) (k : Marks) where
  pub a_run_counts : judge b t s m k ≡ Ok tt → Counts b t (run_of b t s m k)
  a_run_counts = run_counts b t s m k

  pub a_run_repeats_cycles : (run_of b t s m k).ended.cycles ≡ (run_of b t s m k).ended.state.control.cycles
  a_run_repeats_cycles = run_repeats b t s m k

-- 7. "Fresh: all zero and unmarked, HWDBG 3": the eleven SFRs, the sixteen registers, and the rest.
pub fresh_sfrs : (sfr_of 6 fresh_control ≡ 3) × ((n : ℕ) → (n ≡ 6 → ⊥) → sfr_of n fresh_control ≡ 0)
fresh_sfrs = (refl, others)
  where
    others : (n : ℕ) → (n ≡ 6 → ⊥) → sfr_of n fresh_control ≡ 0
    others zero h = refl
    others (suc zero) h = refl
    others (suc (suc zero)) h = refl
    others (suc (suc (suc zero))) h = refl
    others (suc (suc (suc (suc zero)))) h = refl
    others (suc (suc (suc (suc (suc zero))))) h = refl
    others (suc (suc (suc (suc (suc (suc zero)))))) h = absurd (h refl)
    others (suc (suc (suc (suc (suc (suc (suc zero))))))) h = refl
    others (suc (suc (suc (suc (suc (suc (suc (suc zero)))))))) h = refl
    others (suc (suc (suc (suc (suc (suc (suc (suc (suc zero))))))))) h = refl
    others (suc (suc (suc (suc (suc (suc (suc (suc (suc (suc zero)))))))))) h = refl
    others (suc (suc (suc (suc (suc (suc (suc (suc (suc (suc (suc n))))))))))) h = refl

pub fresh_registers : (r : ℕ) → r < 16 → (get_or fresh_state.regs r 1 ≡ 0) × (get_or fresh_state.marks r true ≡ false)
fresh_registers r h = (get_or-replicate 16 r 0 1 h, get_or-replicate 16 r false true h)

pub fresh_rest : (fresh_state.control ≡ fresh_control) × (fresh_control.pc ≡ 0) × (fresh_control.pending ≡ false) × (fresh_control.cycles ≡ 0)
    × (fresh_state.flags.tf ≡ false) × (fresh_state.flags.cy ≡ false)
fresh_rest = (refl, refl, refl, refl, refl, refl)
