-- No run of the machine without marks answers 12 or 14; so none with clean marks does.
-- Assumes nothing.
use Rattle.std.specs.Prelude.{Err, None, Ok, Option, Result as Fallible, Some}
use Prim.Native.Nat.{ℕ, zero, suc, ◌+◌, ◌%◌}
use mathlib.Core.Path.{◌≡◌, refl, ap, ◌∙◌}
use mathlib.Core.Bool.{Bool, true, false, cond, not, ◌||◌}
use mathlib.Core.List.{List}
use lib.Dec.{ltb, eqb}
use lib.ListN.{length, get_or, take}
use Rattle.word.specs.Bytes.{inside, any_above}
use Rattle.word.specs.declared.ByteAddr.{ByteAddr}
use Rattle.isa.specs.declared.Decoded.{Decoded}
use Rattle.isa.specs.declared.Instr.{Instr}
use Rattle.cpu.specs.Control.{pc_of}
use Rattle.cpu.specs.Exec.{sources_of}
use Rattle.marks.specs.Memory.{Marks}
use Rattle.instruction.specs.Reply.{number_of}
use Rattle.instruction.specs.Fetch.{after_half}
use Rattle.instruction.specs.Act.{reach_of, outside}
use Rattle.instruction.specs.Statements.{decoded_at}
use Rattle.instruction.specs.declared.Reply.{Reply}
use Rattle.instruction.specs.declared.Halt.{Halt}
use Rattle.instruction.specs.declared.Reach.{Reach}
use Rattle.machine.specs.State.{out_of_form}
use Rattle.machine.specs.Step.{chosen}
use Rattle.machine.specs.Run.{Final, bad_length, run_of}
use Rattle.machine.specs.declared.State.{State}
use Rattle.machine.specs.declared.Event.{Event}
use Rattle.plain.specs.Plain.{Core, value_of, reached, decoded, fetch, Outcome, stopped, completed, act, perform, on_fetched, on_event, step, Result, refusal, go_on, steps_from, unless_refused, run}
use Rattle.plain.specs.Clean.{Clean, core_of}
use Rattle.plain.proofs.Same.{run_same}

-- the replies that marks make inside a run, by document 01's numbers
abbrev pub by_marks : Reply → Bool
by_marks r = eqb (number_of r) 12 || eqb (number_of r) 14

-- the same of what is not done, of a fetch, of a step, and of what the refusals leave; false where none stops
abbrev in_halt : Halt → Bool
in_halt Halt.FetchOutside = false
in_halt Halt.FetchMarked = true
in_halt Halt.NoInstruction = false
in_halt Halt.MarkedOperand = true
in_halt Halt.DataOutside = false

abbrev in_fetched : Fallible Instr Halt → Bool
in_fetched (Err h) = in_halt h
in_fetched (Ok i) = false

abbrev in_outcome : Outcome → Bool
in_outcome (stopped r) = by_marks r
in_outcome (completed s m) = false

abbrev in_judged : Fallible Unit Reply → Bool
in_judged (Err r) = by_marks r
in_judged (Ok _) = false

either : {A : Type 0} (f : A → Bool) (c : Bool) (x y : A) → f x ≡ false → f y ≡ false → f (cond c x y) ≡ false
either f true x y p q = p
either f false x y p q = q

reached_fine : (a : ByteAddr) (m : List ℕ) (x : Fallible Instr Halt) → in_fetched x ≡ false → in_fetched (reached a m x) ≡ false
reached_fine a m x e = either in_fetched (not (inside m a 2)) (Err Halt.FetchOutside) x refl e

decoded_fine : (d : Option Decoded) (b : ByteAddr) (m : List ℕ) → in_fetched (decoded d b m) ≡ false
decoded_fine (Some (Decoded.Short i)) b m = refl
decoded_fine (Some (Decoded.Long i)) b m = reached_fine b m (Ok i) refl
decoded_fine None b m = refl

fetch_fine : (a : ByteAddr) (m : List ℕ) → in_fetched (fetch a m) ≡ false
unfolding fetch
fetch_fine a m =
    either in_fetched (eqb (a.0 % 2) 1) _ _ refl
    (reached_fine a m (decoded (decoded_at m a) (after_half a) m) (decoded_fine (decoded_at m a) (after_half a) m))

act_fine : (i : Instr) (x y : ℕ) (r : Reach) (s : Core) (m : List ℕ) → in_outcome (act i x y r s m) ≡ false
unfolding act
act_fine i x y r s m = either in_outcome (outside r m) _ _ refl refl

fetched_fine : (x : Fallible Instr Halt) (s : Core) (m : List ℕ) → in_fetched x ≡ false → in_outcome (on_fetched x s m) ≡ false
unfolding perform
fetched_fine (Err Halt.FetchOutside) s m e = refl
fetched_fine (Err Halt.FetchMarked) s m e = e
fetched_fine (Err Halt.NoInstruction) s m e = refl
fetched_fine (Err Halt.MarkedOperand) s m e = e
fetched_fine (Err Halt.DataOutside) s m e = refl
fetched_fine (Ok i) s m e =
    let y : ℕ = value_of s (sources_of i).second in
    act_fine i (value_of s (sources_of i).first) y (reach_of i y s.control) s m

event_fine : (v : Event) (s : Core) (m : List ℕ) → in_outcome (on_event v s m) ≡ false
event_fine (Event.Enter e) s m = refl
event_fine Event.Instruction s m = fetched_fine (fetch (pc_of s.control) m) s m (fetch_fine (pc_of s.control) m)

step_fine : (t : ℕ) (s : Core) (m : List ℕ) → in_outcome (step t s m) ≡ false
unfolding step
step_fine t s m = event_fine (chosen t s.control) s m

goes_on : (further : Core → List ℕ → Result) (n : ℕ) (s : Core) (m : List ℕ) (o : Outcome) → in_outcome o ≡ false
    → ((u : Core) (l : List ℕ) → by_marks (further u l).reply ≡ false) → by_marks (go_on further n s m o).reply ≡ false
unfolding go_on
goes_on further n s m (stopped r) e h = e
goes_on further n s m (completed u l) e h = h u l

steps_fine : (b n : ℕ) (t : List ℕ) (s : Core) (m : List ℕ) → by_marks (steps_from b n t s m).reply ≡ false
unfolding steps_from
steps_fine zero n t s m = refl
steps_fine (suc b) n t s m =
    goes_on (steps_from b (n + 1) t) n s m (step (get_or t n 0) s m) (step_fine (get_or t n 0) s m) (λ u l. steps_fine b (n + 1) t u l)

refusal_fine : (b : ℕ) (t : List ℕ) (s : Core) (m : List ℕ) → in_judged (refusal b t s m) ≡ false
unfolding refusal
refusal_fine b t s m =
    either in_judged (bad_length (length m)) _ _ refl
    (either in_judged (out_of_form s.control) _ _ refl
    (either in_judged (ltb (length t) b) _ _ refl
    (either in_judged (any_above 63 (take b t)) _ _ refl refl)))

unless_fine : (j : Fallible Unit Reply) (b : ℕ) (t : List ℕ) (s : Core) (m : List ℕ) → in_judged j ≡ false → by_marks (unless_refused j b t s m).reply ≡ false
unless_fine (Err r) b t s m e = e
unless_fine (Ok _) b t s m e = steps_fine b 0 t s m

run_fine : (b : ℕ) (t : List ℕ) (s : Core) (m : List ℕ) → by_marks (run b t s m).reply ≡ false
unfolding run
run_fine b t s m = unless_fine (refusal b t s m) b t s m (refusal_fine b t s m)

pub clean_fine : (b : ℕ) (t : List ℕ) (s : State) (m : List ℕ) (k : Marks) → Clean s m k → by_marks (run_of b t s m k).ended.reply ≡ false
clean_fine b t s m k c = ap (λ (z : Final). by_marks z.ended.reply) (run_same b t s m k c) ∙ run_fine b t (core_of s) m
