-- Theorems on the machine's definitions, each with its statement; read this file alone with specs/. The proofs are in the files that it cites.
-- Assumes nothing.
use Rattle.std.specs.Prelude.{Err, Ok, Some}
use Prim.Native.Nat.{ℕ, suc, ◌+◌, ◌*◌, ◌/◌, ◌%◌, ◌^◌, ◌<◌}
use mathlib.Core.Path.{◌≡◌, sym, ap, subst, ◌∙◌}
use mathlib.Core.Bool.{Bool, true, false, not, ◌&&◌, ◌||◌}
use mathlib.Core.List.{List}
use mathlib.Mathlib.Data.Bool.Basic.{or-eq-false-eq-eq-false-and-eq-false as or_off}
use native.Mathlib.Omega.{arith}
use lib.Dec.{ltb, eqb}
use lib.ListN.{length, get_or}
use borrow.Author.Tests.{eqb-true, eqb-false, ltb-false, not-false}
use Rattle.word.specs.Bits.{on, field_of}
use Rattle.cpu.specs.Control.{pc_of}
use Rattle.cpu.specs.Entries.{entered}
use Rattle.cpu.specs.Exec.{onward, sources_of}
use Rattle.cpu.specs.declared.Control.{Control}
use Rattle.cpu.specs.declared.Entry.{Entry}
use Rattle.isa.specs.declared.Instr.{Instr}
use Rattle.marks.specs.Marks.{blocked}
use Rattle.marks.specs.Memory.{Marks, bits}
use Rattle.instruction.specs.Reply.{number_of}
use Rattle.instruction.specs.Fetch.{fetch_of}
use Rattle.instruction.specs.Act.{outside, act_of}
use Rattle.instruction.specs.declared.Reply.{Reply}
use Rattle.instruction.specs.declared.Halt.{Halt}
use Rattle.machine.specs.State.{value_at, out_of_form}
use Rattle.machine.specs.Step.{stopped, completed, chosen, data_of, entry_done, entry_step, instr_step, step_of}
use Rattle.machine.specs.Run.{final, go_on, steps_of, judge, run_of}
use Rattle.machine.specs.Trace.{Shown, trace_of, shown_of}
use Rattle.trace.specs.Seen.{seen_in}
use Rattle.machine.specs.declared.State.{State}
use Rattle.machine.specs.declared.Event.{Event}
use Rattle.machine.specs.declared.Ended.{Ended}
use Rattle.machine.specs.declared.Done.{Done}
use Rattle.machine.specs.declared.Line.{Line}
use Rattle.laws.specs.Replies.{Stops, Replies}
use Rattle.laws.specs.Form.{Form}
use Rattle.laws.specs.Cut.{resume}
use Rattle.laws.specs.Shows.{reach_in, Shows, cost_in, Entered, Bits, Returned, back_from, ChangedAt}
use Rattle.laws.proofs.Keeps.{run_keeps}
use Rattle.laws.proofs.Count.{counts}
use Rattle.laws.proofs.Stops.{StepStops, step_stops, run_replies}
use Rattle.laws.proofs.Cut.{cut}
use Rattle.laws.proofs.Trace.{Told, told, entry_bits, return_bits, run_counted, nth_line}

-- 1. A refusal changes nothing and counts 0 steps.
pub refusal_changes_nothing : (b : ℕ) (t : List ℕ) (s : State) (m : List ℕ) (k : Marks) (r : Reply)
    → judge b t s m k ≡ Err r → run_of b t s m k ≡ final r 0 s m k
unfolding run_of
refusal_changes_nothing b t s m k r e = rw e

-- 2. A step that stops changes nothing: after n steps the run ends with the state, memory and marks before it.
pub stop_changes_nothing : (b n : ℕ) (t : List ℕ) (s : State) (m : List ℕ) (k : Marks) (r : Reply) → step_of (get_or t n 0) s m k ≡ stopped r
    → steps_of (suc b) n t s m k ≡ final r n s m k
unfolding steps_of go_on
stop_changes_nothing b n t s m k r e = rw e

-- 3. Every returned state is in form if the given one was; so the program counter never becomes odd.
and_on : (a b : Bool) → a ≡ true → (a && b) ≡ false → b ≡ false
and_on true b p e = e
and_on false b p e = let z : ◌≡◌ {A = ℕ} 0 1 = cc in absurd (omega arith)

in_form : (c : Control) → out_of_form c ≡ false → Form c
unfolding out_of_form
in_form c e =
    let odd : Bool = eqb (c.pc % 2) 1 in
    let bad : Bool = not (eqb (field_of c.hwdbg 0 2) 3) in
    let big : Bool = ltb 511 c.hwdbg in
    let a = (or_off (odd || on c.psw 12 || bad || big) (c.pending && ltb 0 c.timer)).0 e in
    let b = (or_off (odd || on c.psw 12 || bad) big).0 a.0 in
    let d = (or_off (odd || on c.psw 12) bad).0 b.0 in
    let g = (or_off odd (on c.psw 12)).0 d.0 in
    let q = eqb-false (c.pc % 2) 1 g.0 in
    record {
      even = omega (arith, q);
      twelve = g.1;
      fixed = eqb-true _ _ (not-false _ d.1);
      high = let l = ltb-false 511 c.hwdbg b.1 in omega arith;
      late = λ p. let l = ltb-false 0 c.timer (and_on c.pending (ltb 0 c.timer) p a.1) in omega arith;
    }

pub run_stays_in_form : (b : ℕ) (t : List ℕ) (s : State) (m : List ℕ) (k : Marks) → out_of_form s.control ≡ false
    → Form (run_of b t s m k).ended.state.control
run_stays_in_form b t s m k e = run_keeps b t s m k (in_form s.control e)

-- 4. What run ensures determines its result: two answers, memories and mark slices that satisfy it coincide.
module _ (b : ℕ) (t : List ℕ) (s : State) (m k : List ℕ) where
  -- the three equations of run's contract
  abbrev Ensured : Ended → List ℕ → List ℕ → Type 0
  Ensured e l j = (e ≡ (run_of b t s m (bits k)).ended) × (l ≡ (run_of b t s m (bits k)).mem) × (bits j ≡ (run_of b t s m (bits k)).marks)

  pub run_determined : (e f : Ended) (l n j i : List ℕ) → Ensured e l j → Ensured f n i → (e ≡ f) × (l ≡ n) × (j ≡ i)
  run_determined e f l n j i p q = (p.0 ∙ sym q.0, p.1 ∙ sym q.1, let z = p.2 ∙ sym q.2 in cc)

-- 5. A run of a + b steps is a run of a steps, and then of b from what that left; a run that stopped stays as it is.
pub a_cut_run : (a b : ℕ) (t : List ℕ) (s : State) (m : List ℕ) (k : Marks) → steps_of (a + b) 0 t s m k ≡ resume b t (steps_of a 0 t s m k)
a_cut_run a b t s m k = cut a b 0 t s m k

-- 6. The trace has as many lines as the run has completed steps ..
pub a_line_for_each_step : (b : ℕ) (t : List ℕ) (s : State) (m : List ℕ) (k : Marks) → length (shown_of b t s m k) ≡ (run_of b t s m k).ended.steps
a_line_for_each_step = run_counted

-- .. and line i is the one that the step from what i steps left gives; z is any line.
pub lines_of_the_steps : (b i : ℕ) (t : List ℕ) (s : State) (m : List ℕ) (k : Marks) (z : Shown) → i < length (trace_of b 0 t s m k)
    → seen_in (step_of (get_or t i 0) (steps_of i 0 t s m k).ended.state (steps_of i 0 t s m k).mem (steps_of i 0 t s m k).marks)
    ≡ Some (get_or (trace_of b 0 t s m k) i z).line
lines_of_the_steps b i t s m k z h =
    let e : 0 + i ≡ i = omega arith in
    rw e at (nth_line b i 0 t s m k z h)

-- 7. The line of a completed step shows the program counter before it, the entry that was made, and the address where memory may have changed.
pub a_line_is_true : (t : ℕ) (s : State) (m : List ℕ) (k : Marks) (d : Done) (l : List ℕ) (j : Marks) (x : Line) → step_of t s m k ≡ completed d l j x
    → (x.pc ≡ pc_of s.control) × Shows t s m k d x × ChangedAt x.address m l
a_line_is_true t s m k d l j x e = subst (Told t s m k) e (told t s m k)

-- .. and its cost raises the cycle count, modulo 2^32; nothing else changes that.
pub a_step_counts : (t : ℕ) (s : State) (m : List ℕ) (k : Marks) (d : Done) (l : List ℕ) (j : Marks) (x : Line) (e : step_of t s m k ≡ completed d l j x)
    → d.control.cycles ≡ (s.control.cycles + cost_in (a_line_is_true t s m k d l j x e).1) % 2 ^ 32
a_step_counts t s m k d l j x e = counts (a_line_is_true t s m k d l j x e).1

-- 8. An entry has its vector and its bits.
pub an_entry_by_its_bits : (e : Entry) (c : Control) → Bits e c (entered e c)
an_entry_by_its_bits = entry_bits

-- 9. An access outside memory is a bus error, and the step completes. On a fetch the entry is made at the instruction's own address ..
pub fetch_outside : (t : ℕ) (s : State) (m : List ℕ) (k : Marks) → chosen t s.control ≡ Event.Instruction → fetch_of (pc_of s.control) m k ≡ Err Halt.FetchOutside
    → step_of t s m k ≡ entry_step Entry.FetchError s.flags s.control m k
unfolding step_of
fetch_outside t s m k c f = rw (c, f)

-- .. and on data, if no marked operand stops it, at the next instruction; memory and marks are as before, and no register is written.
pub data_outside : (t : ℕ) (s : State) (m : List ℕ) (k : Marks) (i : Instr) → chosen t s.control ≡ Event.Instruction → fetch_of (pc_of s.control) m k ≡ Ok i
    → blocked i (value_at s (sources_of i).second).mark s.flags ≡ false → outside (reach_in i s) m ≡ true
    → step_of t s m k
    ≡ completed (entry_done Entry.DataError s.flags (onward 2 s.control)) m k
    (record { pc = pc_of s.control; entry = Entry.DataError; address = data_of (reach_in i s) })
unfolding step_of instr_step act_of
data_outside t s m k i c f b o = rw (c, f, b, o)

-- 10. A step stops with 12, 13 or 14 and nothing else ..
pub a_step_stops_with : (t : ℕ) (s : State) (m : List ℕ) (k : Marks) (r : Reply) → step_of t s m k ≡ stopped r → Stops (number_of r)
a_step_stops_with t s m k r e = subst StepStops e (step_stops t s m k)

-- .. so these are the replies that a run can give: 1 to 6, 10, 12, 13 and 14.
pub replies_of_a_run : (b : ℕ) (t : List ℕ) (s : State) (m : List ℕ) (k : Marks) → Replies (number_of (run_of b t s m k).ended.reply)
replies_of_a_run = run_replies

-- 11. jsfr of IPC goes back to IPC, brings IP back from BIP and makes BIP 0 ..
pub a_return_by_its_bits : (c : Control) → Returned c (back_from c)
a_return_by_its_bits = return_bits

-- .. so an entry and its return give back the program counter and IP ..
pub an_entry_returns : (low : ℕ) (c n : Control) → c.pc % 2 ≡ 0 → Entered low c n
    → ((back_from n).pc ≡ c.pc) × (on (back_from n).psw 3 ≡ on c.psw 3)
an_entry_returns low c n e i =
    let r : Returned n (back_from n) = return_bits n in
    let p : c.pc / 2 * 2 ≡ c.pc = omega arith in (
      r.pc ∙ ap (λ (x : ℕ). x / 2 * 2) i.ipc ∙ p,
      r.ip ∙ i.bip,
    )

-- .. and a second return finds IP 0, whatever it was: BIP keeps one bit, so of two nested entries the outer one's IP is lost.
pub a_second_return_clears : (c : Control) → on (back_from (back_from c)).psw 3 ≡ false
a_second_return_clears c = (return_bits (back_from c)).ip ∙ (return_bits c).bip
