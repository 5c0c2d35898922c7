-- Which statement lets a wrong model through; read this file alone with specs/. The proofs are in the files that it cites.
-- Demand 3's two-run part alone holds of models that are not the machine (2), so it is stated of run_of (crates/secrecy), and demand 2 says that the code is
-- run_of, which shuts them out (1). Rules that mark less than document 01's break the two-run part (3).
-- Assumes nothing.
use Prim.Native.Nat.{ℕ, min}
use mathlib.Core.Path.{◌≡◌, refl, ap}
use mathlib.Core.Bool.{true, false, true≢false}
use mathlib.Core.List.{List, [], ◌∷◌}
use native.Mathlib.Omega.{arith}
use Rattle.word.specs.Bits.{put}
use Rattle.word.specs.declared.Width.{Width}
use Rattle.isa.specs.Encode.{nibs_of, encode_of}
use Rattle.isa.specs.declared.AluOp.{AluOp}
use Rattle.isa.specs.declared.Instr.{Instr}
use Rattle.cpu.specs.Control.{with_pc, with_cycles}
use Rattle.marks.specs.Marks.{alu_mark, alu_flags, taint, alu_blocked, blocked}
use Rattle.marks.specs.Memory.{Marks, bits, mark_at, put_marks}
use Rattle.instruction.specs.declared.Reply.{Reply}
use Rattle.machine.specs.State.{fresh_state}
use Rattle.machine.specs.Run.{Final, run_of}
use Rattle.machine.specs.declared.State.{State}
use Rattle.secrecy.proofs.Theorems.{two_runs}
use Rattle.wrong.specs.Models.{refuses_at_once, stops_at_once, constant_reply, changes_nothing, first_step_only, invented_count, marks_everything}
use Rattle.wrong.specs.Statements.{IsRun, TwoRuns}
use Rattle.wrong.specs.Rules.{Rules, true_rules, run_with, unmarked, begins, mtsfr_goes, shift_goes, sub_keeps_cy, mov_unmarks, store_keeps_marks}
use Rattle.wrong.proofs.Runs.{zeros, no_marks, program, moved_0, moved_on, no_instruction, differs, one_reply}
use Rattle.secrecy.proofs.Control.{cycles_same}
use Rattle.wrong.proofs.Same.{unless_same, counted_same, steps_same, end_marked}
use Rattle.wrong.proofs.Rules.{run_true}
use Rattle.wrong.proofs.Leaks.{mtsfr_leaks, shift_leaks, sub_leaks, mov_leaks, store_leaks}

-- ---- 1. "Demand 2 shuts out all" of them: none is run_of

pub refuses_at_once_out : (r : Reply) → IsRun (refuses_at_once r) → ⊥
unfolding refuses_at_once
refuses_at_once_out r = one_reply (refuses_at_once r) r (λ b t s m k. refl)

pub stops_at_once_out : IsRun stops_at_once → ⊥
unfolding stops_at_once
stops_at_once_out = differs stops_at_once (λ f. f.ended.steps) 1 program (rw (moved_on.0, moved_0) (λ e. omega arith))

pub constant_reply_out : (r : Reply) → IsRun (constant_reply r) → ⊥
unfolding constant_reply
constant_reply_out r = one_reply (constant_reply r) r (λ b t s m k. refl)

pub changes_nothing_out : IsRun changes_nothing → ⊥
unfolding changes_nothing with_pc with_cycles
changes_nothing_out = differs changes_nothing (λ f. f.ended.state.control.pc) 1 program (rw moved_on.0 (λ e. omega arith))

pub first_step_only_out : IsRun first_step_only → ⊥
unfolding first_step_only with_pc with_cycles
first_step_only_out = differs first_step_only (λ f. f.ended.state.control.pc) 2 program (rw (moved_on.1, moved_on.0) (λ e. omega arith))

-- any count g that is not the run's on some input, and so the budget for the count
pub invented_count_out : (g : ℕ → List ℕ → State → List ℕ → Marks → ℕ) (b : ℕ) (t : List ℕ) (s : State) (m : List ℕ) (k : Marks)
    → (g b t s m k ≡ (run_of b t s m k).ended.steps → ⊥) → IsRun (invented_count g) → ⊥
unfolding IsRun invented_count
invented_count_out g b t s m k apart is = apart (ap (λ (f : Final). f.ended.steps) (is b t s m k))

pub budget_for_count_out : IsRun (invented_count (λ b t s m k. b)) → ⊥
budget_for_count_out = invented_count_out (λ b t s m k. b) 1 zeros fresh_state zeros no_marks (rw no_instruction (λ e. omega arith))

pub marks_everything_out : IsRun marks_everything → ⊥
unfolding marks_everything put_marks put
marks_everything_out = differs marks_everything (λ f. mark_at f.marks 0) 0 program (rw moved_0 true≢false)

-- ---- 2. "Demand 3's two-run part alone would let the first four through, and also a model that marks everything", as it lets run_of through

pub run_through : TwoRuns run_of
unfolding TwoRuns
run_through b t a c m n k s mem = (two_runs b t a c m n k s mem).0

pub refuses_at_once_through : (r : Reply) → TwoRuns (refuses_at_once r)
unfolding TwoRuns refuses_at_once
refuses_at_once_through r b t a c m n k s mem = record { reply = refl; steps = refl; cycles = cycles_same s.control; state = s; marks = refl; mem = mem }

pub stops_at_once_through : TwoRuns stops_at_once
unfolding TwoRuns stops_at_once
stops_at_once_through b t a c m n k s mem = unless_same (run_through b t a c m n k s mem) (run_through 0 t a c m n k s mem)

pub constant_reply_through : (r : Reply) → TwoRuns (constant_reply r)
unfolding TwoRuns constant_reply
constant_reply_through r b t a c m n k s mem =
    let x = run_through b t a c m n k s mem in
    record { reply = refl; steps = x.steps; cycles = cycles_same x.state.control; state = x.state; marks = x.marks; mem = x.mem }

pub changes_nothing_through : TwoRuns changes_nothing
unfolding TwoRuns changes_nothing
changes_nothing_through b t a c m n k s mem =
    let x = run_through b t a c m n k s mem in
    record { reply = x.reply; steps = x.steps; cycles = cycles_same s.control; state = s; marks = refl; mem = mem }

pub first_step_only_through : TwoRuns first_step_only
unfolding TwoRuns first_step_only
first_step_only_through b t a c m n k s mem =
    unless_same (run_through b t a c m n k s mem) (counted_same b (run_through (min 1 b) t a c m n k s mem))

-- an invented count passes where it is made of what both runs share
pub invented_count_through : (g : ℕ → List ℕ → ℕ) → TwoRuns (invented_count (λ b t s m k. g b t))
unfolding TwoRuns invented_count
invented_count_through g b t a c m n k s mem = steps_same (g b t) (run_through b t a c m n k s mem)

pub marks_everything_through : TwoRuns marks_everything
unfolding TwoRuns marks_everything
marks_everything_through b t a c m n k s mem = end_marked (run_through b t a c m n k s mem)

-- ---- 3. Rules that mark less than document 01's break the two-run part

-- the machine over any rules is the machine where the rules are document 01's
pub true_rules_are : IsRun (run_with true_rules)
unfolding IsRun
true_rules_are = run_true

-- Whatever the other rules are: mtsfr of a marked register and a shift by one must stop, sub of one must mark CY, the result of one must be marked (mov's, which is the
-- register itself), and a stored byte must take the register's mark
module _ (q : Rules) where
  pub mtsfr_must_stop : q.blocked (Instr.Mtsfr 5 1) true unmarked ≡ false → TwoRuns (run_with q) → ⊥
  mtsfr_must_stop = mtsfr_leaks q

  pub shift_must_stop : q.blocked (Instr.Alu AluOp.Lsl 0 1) true unmarked ≡ false → TwoRuns (run_with q) → ⊥
  shift_must_stop = shift_leaks q

  pub sub_must_mark : q.blocked (Instr.Alu AluOp.Sub 0 1) true unmarked ≡ false
      → (q.taint (Instr.Alu AluOp.Sub 0 1) false true false false unmarked).flags.cy ≡ false → TwoRuns (run_with q) → ⊥
  sub_must_mark = sub_leaks q

  pub result_must_mark : q.blocked (Instr.Alu AluOp.Mov 0 1) true unmarked ≡ false
      → (q.taint (Instr.Alu AluOp.Mov 0 1) false true false false unmarked).reg ≡ false → TwoRuns (run_with q) → ⊥
  result_must_mark = mov_leaks q

  pub store_must_mark : q.blocked (Instr.Store Width.Byte 1 3 0) false unmarked ≡ false
      → mark_at (q.stored Width.Byte (bits (0 ∷ [])) (record { 0 = 3 }) true) 3 ≡ false → TwoRuns (run_with q) → ⊥
  store_must_mark = store_leaks q

-- So each of the rules that are right but for one line leaks. The true rule is opened beside it: in its place, as must-fail/ has it, the fact is seen to be false.

pub mtsfr_goes_leaks : TwoRuns (run_with mtsfr_goes) → ⊥
unfolding blocked encode_of nibs_of begins
mtsfr_goes_leaks = mtsfr_must_stop mtsfr_goes refl

pub shift_goes_leaks : TwoRuns (run_with shift_goes) → ⊥
unfolding blocked alu_blocked encode_of nibs_of begins
shift_goes_leaks = shift_must_stop shift_goes refl

pub sub_keeps_cy_leaks : TwoRuns (run_with sub_keeps_cy) → ⊥
unfolding blocked alu_blocked alu_mark alu_flags taint encode_of nibs_of begins
sub_keeps_cy_leaks = sub_must_mark sub_keeps_cy refl refl

pub mov_unmarks_leaks : TwoRuns (run_with mov_unmarks) → ⊥
unfolding blocked alu_blocked alu_mark taint encode_of nibs_of begins
mov_unmarks_leaks = result_must_mark mov_unmarks refl refl

pub store_keeps_marks_leaks : TwoRuns (run_with store_keeps_marks) → ⊥
unfolding blocked put_marks put
store_keeps_marks_leaks = store_must_mark store_keeps_marks refl refl
