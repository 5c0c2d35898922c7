-- Small runs, by computation. Each wrong model differs from one of them.
-- Assumes nothing.
use Prim.Native.Nat.{ℕ}
use mathlib.Core.Path.{◌≡◌, refl, sym, ap, ◌∙◌}
use mathlib.Core.List.{List, [], ◌∷◌}
use native.Mathlib.Omega.{arith}
use lib.ListN.{set, replicate}
use Rattle.word.specs.Bytes.{load, any_above}
use Rattle.isa.specs.Codes.{kind_of}
use Rattle.isa.specs.Decode.{operands_of, decode_of}
use Rattle.cpu.specs.Control.{fresh_control, with_pc, with_cycles}
use Rattle.cpu.specs.Entries.{entered, is_break, fallen, passed}
use Rattle.cpu.specs.Exec.{onward, imm_value, makes, exec, sources_of}
use Rattle.cpu.specs.Cycles.{cost_of, entry_cost, alu_cost}
use Rattle.marks.specs.Marks.{imm_mark, taint, blocked}
use Rattle.marks.specs.Memory.{Marks, bits, any_mark}
use Rattle.instruction.specs.Fetch.{half_at, fetch_of}
use Rattle.instruction.specs.Act.{reach_of, act_of}
use Rattle.instruction.specs.declared.Reply.{Reply}
use Rattle.machine.specs.State.{fresh_state, out_of_form}
use Rattle.machine.specs.Step.{chosen, done_of, instr_step, step_of, after}
use Rattle.machine.specs.Run.{Final, final, judge, go_on, steps_of, run_of}
use Rattle.machine.specs.declared.State.{State}
use Rattle.wrong.specs.Models.{Model}
use Rattle.wrong.specs.Statements.{IsRun}

-- four zero bytes: memory without an instruction, and a tape
abbrev pub zeros : List ℕ
zeros = replicate 4 0

-- the marks of four bytes of memory, in one byte as the code has them: nothing is marked
abbrev pub no_marks : Marks
no_marks = bits (0 ∷ [])

-- movi r1,16 twice
abbrev pub program : List ℕ
program = 0x71 ∷ 0x10 ∷ 0x71 ∷ 0x10 ∷ []

abbrev pub moved : ℕ → Final
moved b = run_of b zeros fresh_state program no_marks

-- after n cycles
abbrev moved_to : ℕ → ℕ → State
moved_to pc n = record {
  regs = set fresh_state.regs 1 16;
  marks = fresh_state.marks;
  flags = fresh_state.flags;
  control = with_cycles (with_pc fresh_control (record { 0 = pc })) n;
}

pub no_memory : run_of 0 [] fresh_state [] (bits []) ≡ final Reply.MemoryLength 0 fresh_state [] (bits [])
unfolding judge run_of
no_memory = refl

pub moved_0 : moved 0 ≡ final Reply.Budget 0 fresh_state program no_marks
unfolding any_mark any_above out_of_form judge steps_of run_of
moved_0 = refl

pub moved_on : (moved 1 ≡ final Reply.Budget 1 (moved_to 2 1) program no_marks) × (moved 2 ≡ final Reply.Budget 2 (moved_to 4 2) program no_marks)
unfolding load any_mark any_above kind_of operands_of decode_of with_pc entered is_break fallen passed entry_cost with_cycles onward imm_value exec makes cost_of alu_cost sources_of imm_mark taint blocked half_at fetch_of reach_of act_of out_of_form chosen done_of instr_step step_of after judge go_on steps_of run_of
moved_on = (refl, refl)

-- a run that stops at once: no instruction
pub no_instruction : run_of 1 zeros fresh_state zeros no_marks ≡ final Reply.NoInstruction 0 fresh_state zeros no_marks
unfolding load any_mark any_above kind_of operands_of decode_of is_break half_at fetch_of out_of_form chosen step_of judge go_on steps_of run_of
no_instruction = refl

-- ---- what they tell of a model

-- an input on which w ends with another p: count, number at a place, or mark
pub differs : {A : Type 0} (w : Model) (p : Final → A) (b : ℕ) (m : List ℕ)
    → (p (w b zeros fresh_state m no_marks) ≡ p (run_of b zeros fresh_state m no_marks) → ⊥) → IsRun w → ⊥
unfolding IsRun
differs w p b m apart is = apart (ap p (is b zeros fresh_state m no_marks))

abbrev reply_of : Final → Reply
reply_of f = f.ended.reply

-- no memory is refused, and a budget of 0 is used up: no reply serves for both
pub one_reply : (w : Model) (r : Reply) → ((b : ℕ) (t : List ℕ) (s : State) (m : List ℕ) (k : Marks) → reply_of (w b t s m k) ≡ r) → IsRun w → ⊥
unfolding IsRun
one_reply w r always is =
    let e : r ≡ Reply.MemoryLength = sym (always 0 [] fresh_state [] (bits [])) ∙ ap reply_of (is 0 [] fresh_state [] (bits []) ∙ no_memory) in
    let g : r ≡ Reply.Budget = sym (always 0 zeros fresh_state program no_marks) ∙ ap reply_of (is 0 zeros fresh_state program no_marks ∙ moved_0) in
    let z : ◌≡◌ {A = ℕ} 0 1 = cc in
    omega arith
