-- One step of the machine over any rules, from two states that differ in r1 alone, which is marked.
-- Assumes nothing.
use Prim.Native.Nat.{ℕ, zero, suc}
use mathlib.Core.Path.{◌≡◌, refl, sym, ap, ◌∙◌}
use mathlib.Core.Bool.{true, false, true≢false}
use mathlib.Core.List.{List, [], ◌∷◌}
use native.Mathlib.Omega.{arith}
use lib.ListN.{set, get_or}
use Rattle.word.specs.Bits.{put}
use Rattle.word.specs.Bytes.{load, store, any_above}
use Rattle.word.specs.declared.Width.{Width}
use Rattle.isa.specs.Codes.{kind_of}
use Rattle.isa.specs.Decode.{operands_of, decode_of}
use Rattle.isa.specs.declared.AluOp.{AluOp}
use Rattle.isa.specs.declared.Instr.{Instr}
use Rattle.cpu.specs.Control.{with_pc, with_sfr, cy, with_cycles}
use Rattle.cpu.specs.declared.Control.{Control}
use Rattle.cpu.specs.Entries.{entered, is_break, fallen, passed}
use Rattle.cpu.specs.Exec.{onward, alu_of, carried, written, makes, exec, sources_of, data_address}
use Rattle.cpu.specs.Cycles.{shift_cost, alu_cost, cost_of, entry_cost}
use Rattle.marks.specs.Memory.{mark_at, any_mark}
use Rattle.instruction.specs.Fetch.{half_at, fetch_of}
use Rattle.instruction.specs.Act.{reach_of}
use Rattle.machine.specs.State.{fresh_state, out_of_form}
use Rattle.machine.specs.Step.{chosen, done_of, after}
use Rattle.machine.specs.Run.{Final, judge, go_on}
use Rattle.machine.specs.declared.State.{State}
use Rattle.secrecy.specs.Same.{Same, SameFinal}
use Rattle.wrong.specs.Statements.{TwoRuns}
use Rattle.wrong.specs.Rules.{Rules, unmarked, act_with, instr_step_with, step_with, steps_with, run_with}
use Rattle.wrong.proofs.Runs.{zeros, no_marks}

-- r1 has the value v and is marked; all else is fresh
abbrev secret : ℕ → State
secret v = record {
  regs = set fresh_state.regs 1 v;
  marks = set fresh_state.marks 1 true;
  flags = fresh_state.flags;
  control = fresh_state.control;
}

equal_but_r1 : (v w i : ℕ) → get_or (secret v).marks i false ≡ false → get_or (secret v).regs i 0 ≡ get_or (secret w).regs i 0
equal_but_r1 v w zero e = refl
equal_but_r1 v w (suc zero) e = absurd (true≢false e)
equal_but_r1 v w (suc (suc i)) e = refl

secrets_same : (v w : ℕ) → Same (secret v) (secret w)
secrets_same v w = record {
  marks = refl;
  flags = refl;
  each = refl;
  regs = record { long = refl; equal = equal_but_r1 v w };
  control = record { rest = refl; psw = record { rest = refl; tf = λ e. refl; cy = λ e. refl } };
}

module _ (q : Rules) where
  -- memory p and no byte marked, one step, and r1 is v
  abbrev stepped : List ℕ → ℕ → Final
  stepped p v = run_with q 1 zeros (secret v) p no_marks

  alike : TwoRuns (run_with q) → (p : List ℕ) (v w : ℕ) → SameFinal (stepped p v) (stepped p w)
  unfolding TwoRuns
  alike h p v w = h 1 zeros (secret v) (secret w) p p no_marks (secrets_same v w) (record { long = refl; equal = λ i e. refl })

  -- ---- mtsfr sfr5,r1: SFR 5 is r1

  abbrev mtsfr : List ℕ
  mtsfr = 0x13 ∷ 0x51 ∷ 0 ∷ 0 ∷ []

  module _ (goes : q.blocked (Instr.Mtsfr 5 1) true unmarked ≡ false) where
    usreg : (v : ℕ) → (stepped mtsfr v).ended.state.control.usreg ≡ v
    unfolding load any_mark any_above kind_of operands_of decode_of with_pc with_sfr entered is_break fallen passed entry_cost with_cycles onward written exec makes cost_of alu_cost sources_of half_at fetch_of reach_of out_of_form chosen done_of after judge go_on act_with instr_step_with step_with steps_with run_with
    usreg v = rw goes

    pub mtsfr_leaks : TwoRuns (run_with q) → ⊥
    unfolding with_sfr
    mtsfr_leaks h =
        let e : ◌≡◌ {A = ℕ} 0 1 = sym (usreg 0) ∙ ap (λ (c : Control). c.usreg) (alike h mtsfr 0 1).state.control.rest ∙ usreg 1 in
        omega arith

  -- ---- sub r0,r1: CY is the borrow of 0 - r1

  abbrev sub : List ℕ
  sub = 0x20 ∷ 0x01 ∷ 0 ∷ 0 ∷ []

  module _ (goes : q.blocked (Instr.Alu AluOp.Sub 0 1) true unmarked ≡ false)
      (keeps : (q.taint (Instr.Alu AluOp.Sub 0 1) false true false false unmarked).flags.cy ≡ false) where
    borrows : (cy (stepped sub 0).ended.state.control ≡ false) × (cy (stepped sub 1).ended.state.control ≡ true)
        × ((stepped sub 0).ended.state.flags.cy ≡ false)
    unfolding put load any_mark any_above kind_of operands_of decode_of with_pc with_sfr entered is_break fallen passed entry_cost with_cycles onward carried exec makes cost_of alu_cost sources_of half_at fetch_of reach_of out_of_form chosen done_of after judge go_on act_with instr_step_with step_with steps_with run_with
    borrows = (rw goes, rw goes, rw goes keeps)

    pub sub_leaks : TwoRuns (run_with q) → ⊥
    sub_leaks h = true≢false (sym borrows.1 ∙ sym ((alike h sub 0 1).state.control.psw.cy borrows.2) ∙ borrows.0)

  -- ---- mov r0,r1: r0 is r1

  abbrev mov : List ℕ
  mov = 0x24 ∷ 0x01 ∷ 0 ∷ 0 ∷ []

  module _ (goes : q.blocked (Instr.Alu AluOp.Mov 0 1) true unmarked ≡ false)
      (unmarks : (q.taint (Instr.Alu AluOp.Mov 0 1) false true false false unmarked).reg ≡ false) where
    copies : (v : ℕ) → (get_or (stepped mov v).ended.state.regs 0 0 ≡ v) × (get_or (stepped mov v).ended.state.marks 0 false ≡ false)
    unfolding load any_mark any_above kind_of operands_of decode_of with_pc entered is_break fallen passed entry_cost with_cycles onward alu_of carried exec makes cost_of alu_cost sources_of half_at fetch_of reach_of out_of_form chosen done_of after judge go_on act_with instr_step_with step_with steps_with run_with
    copies v = (rw goes, rw goes unmarks)

    pub mov_leaks : TwoRuns (run_with q) → ⊥
    mov_leaks h =
        let e : ◌≡◌ {A = ℕ} 0 1 = sym (copies 0).0 ∙ (alike h mov 0 1).state.regs.equal 0 (copies 0).1 ∙ (copies 1).0 in
        omega arith

  -- ---- lsl r0,r1: a shift by 0 costs 2 cycles, and one by 8 costs 3

  abbrev lsl : List ℕ
  lsl = 0x2c ∷ 0x01 ∷ 0 ∷ 0 ∷ []

  module _ (goes : q.blocked (Instr.Alu AluOp.Lsl 0 1) true unmarked ≡ false) where
    costs : ((stepped lsl 0).ended.cycles ≡ 2) × ((stepped lsl 8).ended.cycles ≡ 3)
    unfolding load any_mark any_above kind_of operands_of decode_of with_pc with_sfr entered is_break fallen passed entry_cost with_cycles onward carried exec makes cost_of alu_cost shift_cost sources_of half_at fetch_of reach_of out_of_form chosen done_of after judge go_on act_with instr_step_with step_with steps_with run_with
    costs = (rw goes, rw goes)

    pub shift_leaks : TwoRuns (run_with q) → ⊥
    shift_leaks h =
        let e : ◌≡◌ {A = ℕ} 2 3 = sym costs.0 ∙ (alike h lsl 0 8).cycles ∙ costs.1 in
        omega arith

  -- ---- strb r1,3,r0: the byte at 3 is r1's lowest

  abbrev strb : List ℕ
  strb = 0xd3 ∷ 0x10 ∷ 0 ∷ 0 ∷ []

  module _ (goes : q.blocked (Instr.Store Width.Byte 1 3 0) false unmarked ≡ false)
      (keeps : mark_at (q.stored Width.Byte no_marks (record { 0 = 3 }) true) 3 ≡ false) where
    stores : (get_or (stepped strb 0).mem 3 0 ≡ 0) × (get_or (stepped strb 1).mem 3 0 ≡ 1) × (mark_at (stepped strb 0).marks 3 ≡ false)
    unfolding load store any_mark any_above kind_of operands_of decode_of is_break sources_of data_address half_at fetch_of reach_of out_of_form chosen judge go_on act_with instr_step_with step_with steps_with run_with
    stores = (rw goes, rw goes, rw goes keeps)

    pub store_leaks : TwoRuns (run_with q) → ⊥
    store_leaks h =
        let e : ◌≡◌ {A = ℕ} 0 1 = sym stores.0 ∙ (alike h strb 0 1).mem.equal 3 stores.2 ∙ stores.1 in
        omega arith
