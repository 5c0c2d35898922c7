-- One step with the same marks in two layouts: it stops with the same answer, or comes to the same state, memory, line and marks.
-- Assumes nothing.
use Rattle.std.specs.Prelude.{Err, None, Ok, Option, Result, Some}
use Prim.Native.Nat.{ℕ}
use mathlib.Core.Path.{◌≡◌, refl, ap}
use mathlib.Core.Bool.{Bool, true, false, cond, not}
use mathlib.Core.List.{List}
use lib.ListN.{length}
use borrow.Author.Tests.{leb-true, not-false}
use Rattle.word.specs.Bytes.{bytes_of, inside}
use Rattle.word.specs.declared.ByteAddr.{ByteAddr}
use Rattle.word.specs.declared.Width.{Width}
use Rattle.word.proofs.Memory.{store_length}
use Rattle.isa.specs.declared.Decoded.{Decoded}
use Rattle.isa.specs.declared.Instr.{Instr}
use Rattle.cpu.specs.Control.{pc_of, tf}
use Rattle.cpu.specs.Exec.{exec, sources_of}
use Rattle.cpu.specs.declared.Control.{Control}
use Rattle.cpu.specs.declared.Effect.{Effect}
use Rattle.marks.specs.Marks.{taint, blocked}
use Rattle.marks.specs.Memory.{Marks, marked_at}
use Rattle.marks.specs.declared.Flags.{Flags}
use Rattle.marks.specs.declared.Taint.{Taint}
use Rattle.instruction.specs.Fetch.{guarded, found, fetch_of}
use Rattle.instruction.specs.Act.{reach_of, outside, loaded_from, loaded_mark, act_of}
use Rattle.instruction.specs.declared.Val.{Val}
use Rattle.instruction.specs.Statements.{decoded_at}
use Rattle.instruction.specs.declared.Reply.{Reply}
use Rattle.instruction.specs.declared.Halt.{Halt}
use Rattle.instruction.specs.declared.Reach.{Reach}
use Rattle.instruction.specs.declared.Act.{Act}
use Rattle.machine.specs.State.{value_at}
use Rattle.machine.specs.Step.{chosen, stored_to, marked_to, data_of, halt_step, act_step, instr_step, fetch_step, event_step, step_of}
use Rattle.machine.specs.declared.State.{State}
use Rattle.machine.specs.declared.Event.{Event}
use Rattle.layouts.specs.Layouts.{SameMarks, SameStep, stops, goes}
use Rattle.layouts.proofs.Places.{any_both, puts_both}

-- what is looked at only inside memory
when_inside : {A : Type 0} (t p q : Bool) (x y z : A) → (t ≡ true → p ≡ q) → cond (not t) x (cond p y z) ≡ cond (not t) x (cond q y z)
when_inside true p q x y z f = ap (λ (b : Bool). cond b y z) (f refl)
when_inside false p q x y z f = refl

module _ (m : List ℕ) {k j : Marks} (s : SameMarks (length m) k j) where
  marked_same : (w : Width) (a : ByteAddr) → inside m a (bytes_of w) ≡ true → marked_at w k a ≡ marked_at w j a
  marked_same w a h = any_both s (bytes_of w) a.0 (leb-true _ _ h)

  -- ---- the fetch

  guarded_same : (a : ByteAddr) (x : Result Instr Halt) → guarded a m k x ≡ guarded a m j x
  guarded_same a x = when_inside (inside m a 2) (marked_at Width.Half k a) (marked_at Width.Half j a) _ _ x (marked_same Width.Half a)

  found_same : (d : Option Decoded) (b : ByteAddr) → found d b m k ≡ found d b m j
  found_same (Some (Decoded.Short i)) b = refl
  found_same (Some (Decoded.Long i)) b = guarded_same b (Ok i)
  found_same None b = refl

  fetch_same : (a : ByteAddr) → fetch_of a m k ≡ fetch_of a m j
  unfolding fetch_of
  fetch_same a = rw (found_same (decoded_at m a) _, guarded_same a)

  -- ---- an instruction

  loaded_same : (r : Reach) → outside r m ≡ false → loaded_mark r k ≡ loaded_mark r j
  loaded_same Reach.Nowhere h = refl
  loaded_same (Reach.Reads w a) h = marked_same w a (not-false _ h)
  loaded_same (Reach.Writes w a) h = refl
  loaded_same (Reach.Raises n) h = refl

  stored_same : (r : Reach) (v : ℕ) (b : Bool) → outside r m ≡ false → SameMarks (length (stored_to r v m)) (marked_to r b k) (marked_to r b j)
  stored_same Reach.Nowhere v b h = s
  stored_same (Reach.Reads w a) v b h = s
  stored_same (Reach.Writes w a) v b h =
      let i : inside m a (bytes_of w) ≡ true = not-false _ h in
      rw (i, store_length (bytes_of w) m a.0 v) (puts_both s (bytes_of w) a.0 b (leb-true _ _ i))
  stored_same (Reach.Raises n) v b h = s

  halt_same : (h : Halt) (a : Option ByteAddr) (f : Flags) (c : Control) → SameStep (halt_step h a f c m k) (halt_step h a f c m j)
  halt_same Halt.FetchOutside a f c = goes _ m _ s
  halt_same Halt.FetchMarked a f c = stops Reply.FetchMarked
  halt_same Halt.NoInstruction a f c = stops Reply.NoInstruction
  halt_same Halt.MarkedOperand a f c = stops Reply.MarkedOperand
  halt_same Halt.DataOutside a f c = goes _ m _ s

  act_same : (t u : Bool) (e : Effect) (n : Bool → Taint) (r : Reach) (a : Option ByteAddr) (x : Val) (f : Flags) (c : Control) → outside r m ≡ u
      → SameStep (act_step (cond t (Act.Halted Halt.MarkedOperand) (cond u (Act.Halted Halt.DataOutside) (Act.Does e (n (loaded_mark r k)) r))) a x f c m k)
      (act_step (cond t (Act.Halted Halt.MarkedOperand) (cond u (Act.Halted Halt.DataOutside) (Act.Does e (n (loaded_mark r j)) r))) a x f c m j)
  act_same true u e n r a x f c h = stops Reply.MarkedOperand
  act_same false true e n r a x f c h = halt_same Halt.DataOutside a f c
  act_same false false e n r a x f c h = rw (loaded_same r h) (goes _ (stored_to r x.value m) _ (stored_same r x.value x.mark h))

  instr_same : (i : Instr) (u : State) → SameStep (instr_step i u m k) (instr_step i u m j)
  unfolding instr_step act_of
  instr_same i u =
      let x : Val = value_at u (sources_of i).first in
      let y : Val = value_at u (sources_of i).second in
      let c : Control = u.control in
      let r : Reach = reach_of i y.value c in
      act_same (blocked i y.mark u.flags) (outside r m) (exec i x.value y.value (loaded_from r m) c) (λ l. taint i x.mark y.mark l (tf c) u.flags) r (data_of r) x u.flags c refl

  -- ---- the step

  fetched_same : (x : Result Instr Halt) (u : State) → SameStep (fetch_step x u m k) (fetch_step x u m j)
  fetched_same (Err h) u = halt_same h None u.flags u.control
  fetched_same (Ok i) u = instr_same i u

  event_same : (v : Event) (u : State) → SameStep (event_step v u m k) (event_step v u m j)
  event_same (Event.Enter e) u = goes _ m _ s
  event_same Event.Instruction u = rw (fetch_same (pc_of u.control)) (fetched_same (fetch_of (pc_of u.control) m j) u)

  pub step_same : (t : ℕ) (u : State) → SameStep (step_of t u m k) (step_of t u m j)
  unfolding step_of
  step_same t u = event_same (chosen t u.control) u
