-- Laws that the functions' proofs cite: the choice where nothing rare can happen, a step by its parts, and one more step of a run.
-- Assumes nothing.
use Rattle.std.specs.Prelude.{Err, None, Ok, Option, Result}
use Prim.Native.Nat.{ℕ, suc, ◌+◌, ◌-◌, ◌*◌, ◌/◌, ◌%◌, ◌^◌, ◌<◌, ◌≤◌}
use mathlib.Core.Path.{◌≡◌, refl, sym, ap, ◌∙◌}
use mathlib.Core.Bool.{Bool, true, false, cond, not, beq, ◌&&◌}
use mathlib.Core.List.{List}
use native.Mathlib.Omega.{arith}
use lib.Dec.{ltb, eqb}
use lib.ListN.{length, get_or, set, take}
use lib.Seq.{set-get_or, set_out}
use borrow.Author.Tests.{eqb-true, ltb-false, not-true}
use Rattle.word.specs.Bits.{on, field_of}
use Rattle.word.specs.Bytes.{any_above}
use Rattle.word.proofs.Truth.{beq_true}
use Rattle.isa.specs.Codes.{kind_of}
use Rattle.isa.specs.Decode.{nib_c, nib_d}
use Rattle.isa.proofs.Rows.{and_left, and_right}
use Rattle.cpu.specs.Control.{pc_of, with_pc}
use Rattle.cpu.specs.Entries.{entered, is_break, passed}
use Rattle.cpu.specs.Cycles.{entry_cost}
use Rattle.cpu.specs.Exec.{no_reg, onward}
use Rattle.cpu.specs.declared.Control.{Control}
use Rattle.cpu.specs.declared.Entry.{Entry}
use Rattle.marks.specs.Memory.{Marks, bad_room, bad_mark}
use Rattle.marks.specs.declared.Flags.{Flags}
use Rattle.instruction.specs.Fetch.{after_half}
use Rattle.instruction.specs.declared.Val.{Val}
use Rattle.instruction.specs.Parts.{first_half, second_half, by_second, rest_by, by_first}
use Rattle.instruction.specs.declared.Reply.{Reply}
use Rattle.instruction.specs.declared.Halt.{Halt}
use Rattle.instruction.specs.declared.Act.{Act}
use Rattle.instruction.proofs.Laws.{fetch_by_parts}
use Rattle.machine.proofs.Served.{Served, served_by}
use Rattle.machine.specs.State.{value_at, out_of_form}
use Rattle.machine.specs.Step.{Stepped, stopped, completed, lowest, chosen, done_of, entry_done, halt_step, act_step, fetch_step, event_step, step_of, after}
use Rattle.machine.specs.Run.{final, go_on, steps_of, judge, bad_length}
use Rattle.machine.specs.Parts.{state_of, stops, goes, out_in, mem_in, marks_in, halted_to, begun_half, begun_by, begun_of, act_out, act_mem, act_marks, fetched_data, half_fetched, half_act, half_step, low_byte, begun_out, begun_mem, begun_marks}
use Rattle.machine.specs.declared.State.{State}
use Rattle.machine.specs.declared.Done.{Done}
use Rattle.machine.specs.declared.Begun.{Begun}
use Rattle.machine.specs.declared.Event.{Event}
use Rattle.word.specs.declared.ByteAddr.{ByteAddr}
use Rattle.cpu.specs.declared.Effect.{Effect}
use Rattle.marks.specs.declared.Taint.{Taint}
use Rattle.instruction.specs.declared.Reach.{Reach}

-- a mark that is there already
pub mark_stays : (marks : List Bool) (i : ℕ) (m : Bool) → beq (get_or marks i false) m ≡ true → set marks i m ≡ marks
mark_stays marks i m e = ap (set marks i) (sym (beq_true (get_or marks i false) m e)) ∙ set-get_or marks i false

-- ---- the choice

broken : (c : Control) → on c.hwdbg 2 ≡ false → on c.hwdbg 3 ≡ false → is_break c ≡ false
unfolding is_break
broken c a b = rw (a, b)

quiet : (t : ℕ) (c : Control) → c.pending ≡ false → t ≡ 0 → is_break c ≡ false → chosen t c ≡ Event.Instruction
unfolding chosen lowest is_break
quiet t c p e b = rw (e, p, b) (go (on c.psw 5 && not (on c.psw 3)))
  where
    go : (u : Bool) → cond u Event.Instruction Event.Instruction ≡ Event.Instruction
    go true = refl
    go false = refl

-- no line high, no breakpoint enabled and no timer pending: an instruction
pub calm : (t : ℕ) (c : Control) → t ≡ 0 → (eqb (field_of c.hwdbg 2 2) 0 && not c.pending) ≡ true → chosen t c ≡ Event.Instruction
calm t c p e = quiet t c (not-true c.pending (and_right (eqb (field_of c.hwdbg 2 2) 0) (not c.pending) e)) p (broken c off_two off_three)
  where
    two_off : (h : ℕ) → h % 4 ≡ 0 → (h % 2 ≡ 0) × (h / 2 % 2 ≡ 0)
    two_off h q = (omega arith, omega arith)

    z : field_of c.hwdbg 2 2 ≡ 0
    z = eqb-true _ _ (and_left (eqb (field_of c.hwdbg 2 2) 0) (not c.pending) e)

    off_two : on c.hwdbg 2 ≡ false
    off_two = let q : c.hwdbg / 2 ^ 2 % 2 ^ 1 ≡ 0 = (two_off (c.hwdbg / 2 ^ 2) z).0 in rw q

    off_three : on c.hwdbg 3 ≡ false
    off_three =
        let d : c.hwdbg / 2 ^ 3 ≡ c.hwdbg / 2 ^ 2 / 2 = omega arith in
        let q : c.hwdbg / 2 ^ 3 % 2 ^ 1 ≡ 0 = ap (λ (n : ℕ). n % 2 ^ 1) d ∙ (two_off (c.hwdbg / 2 ^ 2) z).1 in
        rw q

-- ---- a step by its parts

module _ (s : State) (m : List ℕ) (k : Marks) where
  served : (h : ℕ) → Served s m k (rest_by (kind_of (h / 256)) h (pc_of s.control) m k) h
  unfolding rest_by
  served h = go (second_half (kind_of (h / 256)) (after_half (pc_of s.control)) m k)
    where
      go : (x : Result ℕ Halt) → Served s m k (by_second x (kind_of (h / 256)) h) h
      go (Err r) = refl
      go (Ok b) = served_by s m k (kind_of (h / 256)) h b

  -- what a step is, by its start
  abbrev StepBy : Begun → Stepped → Type 0
  StepBy (Begun.Halted h) x = x ≡ halt_step h None s.flags s.control m k
  StepBy (Begun.Enter c) x = (out_in x ≡ goes (record { control = c; flags = s.flags; reg = no_reg; value = 0; mark = false })) × (mem_in m x ≡ m) × (marks_in k x ≡ k)
  StepBy (Begun.Half hi lo) x = x ≡ half_step hi lo (value_at s (lo / 16)) (value_at s (lo % 16)) s.flags s.control m k

  pub step_by_parts : (t : ℕ) → StepBy (begun_of t s.control m k) (step_of t s m k)
  unfolding step_of begun_of half_step half_act entry_done
  step_by_parts t = go (chosen t s.control)
    where
      half : (x : Result ℕ Halt) → StepBy (begun_half x) (fetch_step (by_first x (pc_of s.control) m k) s m k)
      half (Err r) = refl
      half (Ok h) =
          let a : h / 256 * 256 + h % 256 ≡ h = omega arith in
          let b : h % 256 / 16 ≡ nib_c h = omega arith in
          let d : h % 256 % 16 ≡ nib_d h = omega arith in
          rw (a, b, d) (served h)

      go : (v : Event) → StepBy (begun_by v s.control m k) (event_step v s m k)
      go (Event.Enter e) = (refl, refl, refl)
      go Event.Instruction = rw (fetch_by_parts (pc_of s.control) m k) (half (first_half (pc_of s.control) m k))

-- ---- one more step of a run

pub steps_all : (b : ℕ) (t : List ℕ) (s : State) (m : List ℕ) (k : Marks) → steps_of (b - 0) 0 t s m k ≡ steps_of b 0 t s m k
steps_all b t s m k = ap (λ (x : ℕ). steps_of x 0 t s m k) (omega arith)

pub steps_end : (b n : ℕ) (t : List ℕ) (s : State) (m : List ℕ) (k : Marks) → b ≤ n → steps_of (b - n) n t s m k ≡ final Reply.Budget n s m k
unfolding steps_of
steps_end b n t s m k h =
    let e : b - n ≡ 0 = omega arith in
    rw e

-- by what the step answers, and the memory and the marks after it
module _ (b n : ℕ) (t : List ℕ) (s : State) (m : List ℕ) (k : Marks) (l : n < b) where
  by_answer : (x : Stepped) → step_of (get_or t n 0) s m k ≡ x → steps_of (b - n) n t s m k ≡ go_on (steps_of (b - (n + 1)) (n + 1) t) n s m k x
  unfolding steps_of
  by_answer x o =
      let e : b - n ≡ suc (b - (n + 1)) = omega arith in
      rw (e, o)

  pub steps_stop : (x : Stepped) (r : Reply) → step_of (get_or t n 0) s m k ≡ x → out_in x ≡ stops r
      → (steps_of (b - n) n t s m k ≡ final r n s m k) × (mem_in m x ≡ m) × (marks_in k x ≡ k)
  unfolding go_on
  steps_stop (stopped q) r o e = let p : q ≡ r = cc in (by_answer (stopped q) o ∙ ap (λ (z : Reply). final z n s m k) p, refl, refl)
  steps_stop (completed d i j y) r o e = let z : ◌≡◌ {A = ℕ} 0 1 = cc in absurd (omega arith)

  pub steps_go : (x : Stepped) (d : Done) → step_of (get_or t n 0) s m k ≡ x → out_in x ≡ goes d
      → steps_of (b - n) n t s m k ≡ steps_of (b - (n + 1)) (n + 1) t (after d s) (mem_in m x) (marks_in k x)
  unfolding go_on
  steps_go (stopped q) d o e = let z : ◌≡◌ {A = ℕ} 0 1 = cc in absurd (omega arith)
  steps_go (completed c i j y) d o e =
      let p : c ≡ d = cc in
      by_answer (completed c i j y) o ∙ ap (λ (z : Done). steps_of (b - (n + 1)) (n + 1) t (after z s) i j) p

-- an instruction that is not done: a stop, or an entry that changes the control part alone
entered_to : Control → Flags → Done
entered_to e f = record { control = e; flags = f; reg = no_reg; value = 0; mark = false }

halt_stops : (h : Halt) (a : Option ByteAddr) (f : Flags) (c : Control) (m : List ℕ) (k : Marks) (r : Reply) → halted_to h c ≡ Err r → halt_step h a f c m k ≡ stopped r
halt_stops Halt.FetchOutside a f c m k r e = let z : ◌≡◌ {A = ℕ} 0 1 = cc in absurd (omega arith)
halt_stops Halt.FetchMarked a f c m k r e = let q : Reply.FetchMarked ≡ r = cc in ap stopped q
halt_stops Halt.NoInstruction a f c m k r e = let q : Reply.NoInstruction ≡ r = cc in ap stopped q
halt_stops Halt.MarkedOperand a f c m k r e = let q : Reply.MarkedOperand ≡ r = cc in ap stopped q
halt_stops Halt.DataOutside a f c m k r e = let z : ◌≡◌ {A = ℕ} 0 1 = cc in absurd (omega arith)

halt_enters : (h : Halt) (a : Option ByteAddr) (f : Flags) (c : Control) (m : List ℕ) (k : Marks) (n : Control) → halted_to h c ≡ Ok n
    → (out_in (halt_step h a f c m k) ≡ goes (entered_to n f)) × (mem_in m (halt_step h a f c m k) ≡ m) × (marks_in k (halt_step h a f c m k) ≡ k)
unfolding entry_done entered_to onward with_pc
halt_enters Halt.FetchOutside a f c m k n e =
    let q : passed (on c.psw 4) (entry_cost Entry.FetchError) (entered Entry.FetchError c) ≡ n = cc in (ap (λ (u : Control). goes (entered_to u f)) q, refl, refl)
halt_enters Halt.FetchMarked a f c m k n e = let z : ◌≡◌ {A = ℕ} 0 1 = cc in absurd (omega arith)
halt_enters Halt.NoInstruction a f c m k n e = let z : ◌≡◌ {A = ℕ} 0 1 = cc in absurd (omega arith)
halt_enters Halt.MarkedOperand a f c m k n e = let z : ◌≡◌ {A = ℕ} 0 1 = cc in absurd (omega arith)
halt_enters Halt.DataOutside a f c m k n e =
    let q : passed (on c.psw 4) (entry_cost Entry.DataError) (entered Entry.DataError (onward 2 c)) ≡ n = cc in (ap (λ (u : Control). goes (entered_to u f)) q, refl, refl)

-- an instruction by what it answers
act_halts : (q : Act) (a : Option ByteAddr) (x : Val) (f : Flags) (c : Control) (m : List ℕ) (k : Marks) (h : Halt) → Err h ≡ act_out q c
    → (act_step q a x f c m k ≡ halt_step h a f c m k) × (act_mem q x m ≡ m) × (act_marks q x k ≡ k)
act_halts (Act.Halted j) a x f c m k h e = let q : j ≡ h = cc in (ap (λ (i : Halt). halt_step i a f c m k) q, refl, refl)
act_halts (Act.Does u t r) a x f c m k h e = let z : ◌≡◌ {A = ℕ} 0 1 = cc in absurd (omega arith)

act_goes : (q : Act) (a : Option ByteAddr) (x : Val) (f : Flags) (c : Control) (m : List ℕ) (k : Marks) (d : Done) → Ok d ≡ act_out q c
    → (out_in (act_step q a x f c m k) ≡ goes d) × (mem_in m (act_step q a x f c m k) ≡ act_mem q x m) × (marks_in k (act_step q a x f c m k) ≡ act_marks q x k)
act_goes (Act.Halted j) a x f c m k d e = let z : ◌≡◌ {A = ℕ} 0 1 = cc in absurd (omega arith)
act_goes (Act.Does u t r) a x f c m k d e = let q : done_of c u t r ≡ d = cc in (ap goes q, refl, refl)

-- the same of a state in its parts, as the loop has them, by the step's start g and the byte of it that names registers
module _ (b n : ℕ) (t : List ℕ) (regs : List ℕ) (marks : List Bool) (f : Flags) (c : Control) (m : List ℕ) (k : Marks) (l : n < b) (g : Begun)
    (o : g ≡ begun_of (get_or t n 0) c m k) (lo : ℕ) (w : lo ≡ low_byte g) where
  abbrev here : State
  here = state_of regs marks f c

  abbrev out_from : Begun → Result Done Halt
  out_from x = begun_out x (value_at here (lo / 16)) (value_at here (lo % 16)) f c m k

  abbrev mem_from : Begun → List ℕ
  mem_from x = begun_mem x (value_at here (lo / 16)) (value_at here (lo % 16)) f c m k

  abbrev marks_from : Begun → Marks
  marks_from x = begun_marks x (value_at here (lo / 16)) (value_at here (lo % 16)) f c m k

  begun : (x : Begun) → g ≡ x → StepBy here m k x (step_of (get_or t n 0) here m k)
  begun x e = rw (sym o ∙ e) at (step_by_parts here m k (get_or t n 0))

  -- the data address that a step shows where its instruction is not done
  abbrev shown : Begun → Option ByteAddr
  shown (Begun.Halted h) = None
  shown (Begun.Enter e) = None
  shown (Begun.Half hi j) = fetched_data (half_fetched hi j c m k) (value_at here (j % 16)) c

  halts : (x : Begun) → g ≡ x → (q : Halt) → Err q ≡ out_from x
      → (step_of (get_or t n 0) here m k ≡ halt_step q (shown x) f c m k) × (mem_from x ≡ m) × (marks_from x ≡ k)
  unfolding half_step
  halts (Begun.Halted h) e q u = let p : h ≡ q = cc in (begun (Begun.Halted h) e ∙ ap (λ (i : Halt). halt_step i None f c m k) p, refl, refl)
  halts (Begun.Enter a) e q u = let z : ◌≡◌ {A = ℕ} 0 1 = cc in absurd (omega arith)
  halts (Begun.Half hi j) e q u =
      let s : lo ≡ j = w ∙ ap low_byte e in
      let v = rw s at u in
      let z = act_halts (half_act hi j (value_at here (j / 16)) (value_at here (j % 16)) f c m k) (shown (Begun.Half hi j)) (value_at here (j / 16)) f c m k q v in
      rw s (begun (Begun.Half hi j) e ∙ z.0, z.1, z.2)

  goes_on : (x : Begun) → g ≡ x → (d : Done) → Ok d ≡ out_from x
      → (out_in (step_of (get_or t n 0) here m k) ≡ goes d) × (mem_in m (step_of (get_or t n 0) here m k) ≡ mem_from x) × (marks_in k (step_of (get_or t n 0) here m k) ≡ marks_from x)
  unfolding half_step
  goes_on (Begun.Halted h) e d u = let z : ◌≡◌ {A = ℕ} 0 1 = cc in absurd (omega arith)
  goes_on (Begun.Enter a) e d u =
      let p : record { control = a; flags = f; reg = no_reg; value = 0; mark = false } ≡ d = cc in
      let z = begun (Begun.Enter a) e in
      (z.0 ∙ ap goes p, z.1, z.2)
  goes_on (Begun.Half hi j) e d u =
      let s : lo ≡ j = w ∙ ap low_byte e in
      let v = rw s at u in
      rw (s, begun (Begun.Half hi j) e) (act_goes (half_act hi j (value_at here (j / 16)) (value_at here (j % 16)) f c m k) (shown (Begun.Half hi j)) (value_at here (j / 16)) f c m k d v)

  pub out_stops : (q : Halt) → Err q ≡ out_from g → (r : Reply) → Err r ≡ halted_to q c
      → (steps_of (b - n) n t here m k ≡ final r n here m k) × (mem_from g ≡ m) × (marks_from g ≡ k)
  out_stops q u r e =
      let z = halts g refl q u in
      ((steps_stop b n t here m k l (stopped r) r (z.0 ∙ halt_stops q _ f c m k r (sym e)) refl).0, z.1, z.2)

  -- a bus error writes no register
  pub out_errs : (q : Halt) → Err q ≡ out_from g → (e : Control) → Ok e ≡ halted_to q c → length regs ≡ 16 → length marks ≡ 16
      → (m' : List ℕ) (k' : Marks) → m' ≡ mem_from g → k' ≡ marks_from g
      → steps_of (b - n) n t here m k ≡ steps_of (b - (n + 1)) (n + 1) t (state_of regs marks f e) m' k'
  unfolding after entered_to
  out_errs q u e p x y m' k' v v' =
      let z = halts g refl q u in
      let a = halt_enters q (shown g) f c m k e (sym p) in
      steps_go b n t here m k l (halt_step q (shown g) f c m k) _ z.0 a.0
      ∙ rw (a.1, a.2, v ∙ z.1, v' ∙ z.2, set_out regs 16 0 (omega arith), set_out marks 16 false (omega arith))

  pub out_goes : (d : Done) → Ok d ≡ out_from g → (rs : List ℕ) (ks : List Bool) (m' : List ℕ) (k' : Marks)
      → rs ≡ set regs d.reg d.value → ks ≡ set marks d.reg d.mark → m' ≡ mem_from g → k' ≡ marks_from g
      → steps_of (b - n) n t here m k ≡ steps_of (b - (n + 1)) (n + 1) t (state_of rs ks d.flags d.control) m' k'
  unfolding after
  out_goes d u rs ks m' k' x y p q =
      let v = goes_on g refl d u in
      steps_go b n t here m k l (step_of (get_or t n 0) here m k) d refl v.0
      ∙ rw (v.1, v.2, x, y, p, q)

-- what is not refused: the tape is long enough
passes : (u : Bool) (r : Reply) (x : Result Unit Reply) → cond u (Err r) x ≡ Ok tt → (u ≡ false) × (x ≡ Ok tt)
passes true r x e = let z : ◌≡◌ {A = ℕ} 0 1 = cc in absurd (omega arith)
passes false r x e = (refl, e)

pub long_tape : (b : ℕ) (t : List ℕ) (s : State) (m : List ℕ) (k : Marks) → judge b t s m k ≡ Ok tt → b ≤ length t
unfolding judge
long_tape b t s m k e =
    let six : Result Unit Reply = cond (any_above 63 (take b t)) (Err Reply.TapeByte) (Ok tt) in
    let five : Result Unit Reply = cond (ltb (length t) b) (Err Reply.TapeLength) six in
    let four : Result Unit Reply = cond (out_of_form s.control) (Err Reply.Form) five in
    let three : Result Unit Reply = cond (bad_mark (length m) k) (Err Reply.MarkPastEnd) four in
    let two : Result Unit Reply = cond (bad_room (length m) k) (Err Reply.MarkLength) three in
    let b1 : two ≡ Ok tt = (passes (bad_length (length m)) Reply.MemoryLength two e).1 in
    let b2 : three ≡ Ok tt = (passes (bad_room (length m) k) Reply.MarkLength three b1).1 in
    let b3 : four ≡ Ok tt = (passes (bad_mark (length m) k) Reply.MarkPastEnd four b2).1 in
    let b4 : five ≡ Ok tt = (passes (out_of_form s.control) Reply.Form five b3).1 in
    ltb-false (length t) b (passes (ltb (length t) b) Reply.TapeLength six b4).0
