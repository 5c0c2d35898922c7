-- The registers that the last two digits of an instruction's half name serve every instruction.
-- Assumes nothing.
use Rattle.std.specs.Prelude.{Err, Ok, Option, Result}
use Prim.Native.Nat.{ℕ}
use mathlib.Core.Path.{◌≡◌, refl, ap₂, ◌∙◌}
use mathlib.Core.Bool.{Bool, true, false, cond, ◌&&◌}
use mathlib.Core.List.{List}
use lib.Dec.{eqb, leb}
use Rattle.isa.specs.Decode.{nib_c, nib_d, short_if, operands_of}
use Rattle.isa.specs.declared.Kind.{Kind}
use Rattle.isa.specs.declared.Instr.{Instr}
use Rattle.cpu.specs.Control.{tf}
use Rattle.cpu.specs.Cycles.{cost_of}
use Rattle.cpu.specs.Exec.{makes, exec, sources_of}
use Rattle.cpu.specs.declared.Control.{Control}
use Rattle.cpu.specs.declared.Effect.{Effect}
use Rattle.marks.specs.Marks.{taint, blocked}
use Rattle.marks.specs.Memory.{Marks}
use Rattle.marks.specs.declared.Flags.{Flags}
use Rattle.marks.specs.declared.Taint.{Taint}
use Rattle.instruction.specs.Act.{reach_of, outside, loaded_from, loaded_mark, act_of}
use Rattle.instruction.specs.declared.Val.{Val}
use Rattle.instruction.specs.Parts.{decoded_to}
use Rattle.instruction.specs.declared.Halt.{Halt}
use Rattle.instruction.specs.declared.Act.{Act}
use Rattle.instruction.specs.declared.Reach.{Reach}
use Rattle.machine.specs.State.{value_at}
use Rattle.machine.specs.Step.{completed, stored_to, marked_to, data_of, done_of, line_of, act_step, instr_step, fetch_step}
use Rattle.machine.specs.Parts.{fetched_act, fetched_data}
use Rattle.machine.specs.declared.State.{State}
use Rattle.word.specs.declared.ByteAddr.{ByteAddr}

-- what an instruction may store does not matter where it stores nothing
abbrev Alike : Reach → Val → Val → List ℕ → Marks → Type 0
Alike r x y m k = (stored_to r x.value m ≡ stored_to r y.value m) × (marked_to r x.mark k ≡ marked_to r y.mark k)

unstored : (t u : Bool) (e : Effect) (n : Taint) (r : Reach) (a : Option ByteAddr) (x y : Val) (f : Flags) (c : Control) (m : List ℕ) (k : Marks) → Alike r x y m k
    → act_step (cond t (Act.Halted Halt.MarkedOperand) (cond u (Act.Halted Halt.DataOutside) (Act.Does e n r))) a x f c m k
    ≡ act_step (cond t (Act.Halted Halt.MarkedOperand) (cond u (Act.Halted Halt.DataOutside) (Act.Does e n r))) a y f c m k
unstored true u e n r a x y f c m k h = refl
unstored false true e n r a x y f c m k h = refl
unstored false false e n r a x y f c m k h = ap₂ (λ (a : List ℕ) (b : Marks). completed (done_of c e n r) a b (line_of c e r)) h.0 h.1

act_unstored : (i : Instr) (u v : Val) (a : Option ByteAddr) (x y : Val) (f : Flags) (c : Control) (m : List ℕ) (k : Marks) → Alike (reach_of i v.value c) x y m k
    → act_step (act_of i u v f c m k) a x f c m k ≡ act_step (act_of i u v f c m k) a y f c m k
unfolding act_of
act_unstored i u v a x y f c m k h =
    let r : Reach = reach_of i v.value c in
    unstored (blocked i v.mark f) (outside r m) (exec i u.value v.value (loaded_from r m) c) (taint i u.mark v.mark (loaded_mark r k) (tf c) f) r a x y f c m k h

module _ (s : State) (m : List ℕ) (k : Marks) where
  -- The registers that the last two digits of a half h name serve every instruction: where it reads one, its number stands there, and where it reads none,
  -- what it does is the same.
  abbrev pub Served : Result Instr Halt → ℕ → Type 0
  Served x h =
      fetch_step x s m k
      ≡ act_step (fetched_act x (value_at s (nib_c h)) (value_at s (nib_d h)) s.flags s.control m k) (fetched_data x (value_at s (nib_d h)) s.control) (value_at s (nib_c h)) s.flags s.control m k

  named : (t : Bool) (i : Instr) (h : ℕ) → Served (Ok i) h → Served (decoded_to (short_if t i)) h
  named true i h p = p
  named false i h p = refl

  -- the registers that it does not look at do not change what it does, and are not stored
  serves : (i : Instr) (h : ℕ)
      → act_of i (value_at s (sources_of i).first) (value_at s (sources_of i).second) s.flags s.control m k
      ≡ act_of i (value_at s (nib_c h)) (value_at s (nib_d h)) s.flags s.control m k
      → data_of (reach_of i (value_at s (sources_of i).second).value s.control) ≡ data_of (reach_of i (value_at s (nib_d h)).value s.control)
      → Alike (reach_of i (value_at s (sources_of i).second).value s.control) (value_at s (sources_of i).first) (value_at s (nib_c h)) m k
      → Served (Ok i) h
  unfolding instr_step
  serves i h e d a =
      act_unstored i (value_at s (sources_of i).first) (value_at s (sources_of i).second) _ (value_at s (sources_of i).first) (value_at s (nib_c h)) s.flags s.control m k a
      ∙ ap₂ (λ (x : Act) (y : Option ByteAddr). act_step x y (value_at s (nib_c h)) s.flags s.control m k) e d

  pub served_by : (d : Kind) (h b : ℕ) → Served (decoded_to (operands_of d h b)) h
  unfolding operands_of sources_of act_of blocked reach_of exec makes cost_of taint
  served_by Kind.Nothing h b = refl
  served_by (Kind.Alu op) h b = serves _ h refl refl (refl, refl)
  served_by (Kind.ShiftImm op) h b = serves _ h refl refl (refl, refl)
  served_by (Kind.Cmp op) h b = serves _ h refl refl (refl, refl)
  served_by (Kind.CmpImm op) h b = serves _ h refl refl (refl, refl)
  served_by (Kind.Cond op t) h b = serves _ h refl refl (refl, refl)
  served_by (Kind.CondImm t) h b = serves _ h refl refl (refl, refl)
  served_by Kind.Ldrpc h b = serves _ h refl refl (refl, refl)
  served_by (Kind.Imm op) h b = serves _ h refl refl (refl, refl)
  served_by (Kind.Load w) h b = serves _ h refl refl (refl, refl)
  served_by (Kind.Store w) h b = serves _ h refl refl (refl, refl)
  served_by Kind.Mfsfr h b = named (leb (nib_d h) 10) _ h (serves _ h refl refl (refl, refl))
  served_by Kind.Mtsfr h b = named (leb (nib_c h) 10) _ h (serves _ h refl refl (refl, refl))
  served_by Kind.Jr h b = named (eqb (nib_c h) 0) _ h (serves _ h refl refl (refl, refl))
  served_by Kind.Jrl h b = named (eqb (nib_c h) 0) _ h (serves _ h refl refl (refl, refl))
  served_by Kind.Jsfr h b = named (eqb (nib_c h) 0 && leb (nib_d h) 3) _ h (serves _ h refl refl (refl, refl))
  served_by Kind.Swint h b = named (eqb (nib_c h) 0) _ h (serves _ h refl refl (refl, refl))
  served_by (Kind.ShortJump op) h b = serves _ h refl refl (refl, refl)
  served_by (Kind.LongJump op) h b = serves _ h refl refl (refl, refl)
