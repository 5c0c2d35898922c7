-- What a completed step does, by the way in which it completes.
-- Assumes nothing.
use Rattle.std.specs.Prelude.{Err, None, Ok, Option, Result}
use Prim.Native.Nat.{ℕ, ◌+◌, ◌*◌, ◌-◌, ◌/◌, ◌%◌, ◌^◌, ◌<◌, ◌≤◌}
use mathlib.Core.Path.{◌≡◌, refl, sym, ap, subst, ◌∙◌}
use mathlib.Core.Bool.{Bool, true, false, cond, not, ◌&&◌, true≢false}
use mathlib.Core.List.{List}
use native.Mathlib.Omega.{arith}
use lib.Dec.{ltb, eqb, leb}
use lib.ListN.{length}
use borrow.Author.Tests.{ltb-true, ltb-false, leb-true, leb-false, le-leb, lt-leb, not-true, not-false}
use Rattle.word.specs.Bits.{num, on}
use Rattle.word.specs.Numbers.{wrap}
use Rattle.word.specs.Bytes.{bytes_of, load, store}
use Rattle.word.specs.declared.ByteAddr.{ByteAddr}
use Rattle.word.specs.declared.Width.{Width}
use Rattle.isa.specs.Codes.{kind_of}
use Rattle.isa.specs.Decode.{decode_of}
use Rattle.isa.specs.declared.Instr.{Instr}
use Rattle.isa.specs.declared.Decoded.{Decoded}
use Rattle.cpu.specs.Control.{pc_of, with_pc, tf}
use Rattle.cpu.specs.Cycles.{entry_cost}
use Rattle.cpu.specs.Entries.{entered, watch_hit, watch_entry, passed}
use Rattle.cpu.specs.Exec.{onward, exec, makes, data_address}
use Rattle.cpu.specs.declared.Control.{Control}
use Rattle.cpu.specs.declared.Effect.{Effect}
use Rattle.cpu.specs.declared.Entry.{Entry}
use Rattle.marks.specs.Marks.{taint, blocked}
use Rattle.marks.specs.Memory.{Marks, mark_at, any_mark, put_marks, bad_room}
use Rattle.marks.specs.declared.Taint.{Taint}
use Rattle.marks.proofs.Places.{puts_other, puts_same, room_has}
use Rattle.instruction.specs.Reply.{number_of}
use Rattle.instruction.specs.Fetch.{half_at, after_half, fetch_of}
use Rattle.instruction.specs.Act.{reach_of, outside, loaded_from, loaded_mark, act_of}
use Rattle.instruction.specs.declared.Val.{Val}
use Rattle.instruction.specs.Parts.{decoded_to}
use Rattle.instruction.specs.Statements.{decoded_at, Is, short, long}
use Rattle.instruction.specs.declared.Halt.{Halt}
use Rattle.instruction.specs.declared.Reach.{Reach}
use Rattle.instruction.specs.declared.Reply.{Reply}
use Rattle.instruction.specs.declared.Act.{Act}
use Rattle.instruction.proofs.Theorems.{runs_what_decodes}
use Rattle.machine.specs.State.{value_at}
use Rattle.machine.specs.Step.{Stepped, stopped, completed, chosen, stored_to, marked_to, entry_by, data_of, entry_done, entry_step, halt_step, done_of, line_of, act_step, fetch_step, step_of}
use Rattle.machine.specs.declared.State.{State}
use Rattle.machine.specs.declared.Event.{Event}
use Rattle.machine.proofs.Served.{Served, served_by}
use Rattle.sentences.specs.Classes.{class_of, cycles_of}
use Rattle.sentences.specs.Sources.{Found, any_of, reg_from, tf_from, cy_from, stop_from}
use Rattle.sentences.specs.Writes.{adds_cycles}
use Rattle.sentences.proofs.Theorems.{instruction_costs, entry_costs, marks_of_results, marks_that_stop}
use Rattle.steps.specs.Ways.{Reaches, nothing, loads, stores, raises, reached_by, down, Outside, Inside, shown_at, hit_by, watched, entered_by, loaded_by, marked_by, stored_by, is_stored_by, first_half, rd_of, rb_of, reach_in, found_in, effect_in, Way, by_choice, by_fetch, by_data, by_instruction, Does, Stopped, fetch_marked, no_instruction, marked_operand}
use Rattle.steps.proofs.Choice.{chosen_costs}
use Rattle.steps.proofs.Order.{FetchHalts, fetch_halts, fetches}

-- ---- where an instruction reaches, in numbers

-- "aligned down": the division of the definition, and the rest taken away
aligned : (w : Width) (y : ℕ) → y / bytes_of w * bytes_of w ≡ down (bytes_of w) y
aligned Width.Byte y = omega arith
aligned Width.Half y = omega arith
aligned Width.Word y = omega arith

scaled : (w : Width) (y n : ℕ) → wrap (y + n * bytes_of w) ≡ (y + bytes_of w * n) % 2 ^ 32
scaled Width.Byte y n = ap (λ (u : ℕ). (y + u) % 2 ^ 32) (omega arith)
scaled Width.Half y n = ap (λ (u : ℕ). (y + u) % 2 ^ 32) (omega arith)
scaled Width.Word y n = ap (λ (u : ℕ). (y + u) % 2 ^ 32) (omega arith)

address : (w : Width) (y n : ℕ) → (data_address w y n).0 ≡ down (bytes_of w) ((y + bytes_of w * n) % 2 ^ 32)
unfolding data_address
address w y n = aligned w (wrap (y + n * bytes_of w)) ∙ ap (down (bytes_of w)) (scaled w y n)

data Same : Reach → Reaches → Type 0 where
  nowhere : Same Reach.Nowhere nothing
  reads : (w : Width) (a : ByteAddr) (y : ℕ) → a.0 ≡ down (bytes_of w) y → Same (Reach.Reads w a) (loads (bytes_of w) y)
  writes : (w : Width) (a : ByteAddr) (y : ℕ) → a.0 ≡ down (bytes_of w) y → Same (Reach.Writes w a) (stores (bytes_of w) y)
  swints : (n : ℕ) → Same (Reach.Raises n) (raises n)

same : (i : Instr) (y : ℕ) (c : Control) → Same (reach_of i y c) (reached_by i y c.pc)
unfolding reach_of
same (Instr.Alu op d b) y c = nowhere
same (Instr.ShiftImm op d n) y c = nowhere
same (Instr.Cmp op d b) y c = nowhere
same (Instr.CmpImm op d n) y c = nowhere
same (Instr.Cond op t d b) y c = nowhere
same (Instr.CondImm t d n) y c = nowhere
same (Instr.Ldrpc d n) y c = reads Width.Word _ _ (address Width.Word c.pc n)
same (Instr.Imm op d n) y c = nowhere
same (Instr.Load w d n b) y c = reads w _ _ (address w y n)
same (Instr.Store w d n b) y c = writes w _ _ (address w y n)
same (Instr.Mfsfr d n) y c = nowhere
same (Instr.Mtsfr n b) y c = nowhere
same (Instr.Jr b) y c = nowhere
same (Instr.Jrl b) y c = nowhere
same (Instr.Jsfr n) y c = nowhere
same (Instr.Swint n) y c = swints n
same (Instr.ShortJump op d) y c = nowhere
same (Instr.LongJump op d) y c = nowhere

-- what follows of it
shown : {r : Reach} {q : Reaches} → Same r q → data_of r ≡ shown_at q
shown nowhere = refl
shown (reads w a y e) = rw (← e)
shown (writes w a y e) = rw (← e)
shown (swints n) = refl

inside_of : {r : Reach} {q : Reaches} (m : List ℕ) → Same r q → outside r m ≡ false → Inside q (length m)
inside_of m nowhere o = tt
inside_of m (reads w a y e) o = rw e at (leb-true (a.0 + bytes_of w) (length m) (not-false _ o))
inside_of m (writes w a y e) o = rw e at (leb-true (a.0 + bytes_of w) (length m) (not-false _ o))
inside_of m (swints n) o = tt

outside_of : {r : Reach} {q : Reaches} (m : List ℕ) → Same r q → outside r m ≡ true → Outside q (length m)
outside_of m nowhere o = true≢false (sym o)
outside_of m (reads w a y e) o = rw e at (leb-false (a.0 + bytes_of w) (length m) (not-true _ o))
outside_of m (writes w a y e) o = rw e at (leb-false (a.0 + bytes_of w) (length m) (not-true _ o))
outside_of m (swints n) o = true≢false (sym o)

in_memory : {r : Reach} {q : Reaches} (m : List ℕ) → Same r q → Inside q (length m) → outside r m ≡ false
in_memory m nowhere h = refl
in_memory m (reads w a y e) h = let l : leb (a.0 + bytes_of w) (length m) ≡ true = le-leb (a.0 + bytes_of w) (length m) (rw e h) in rw l
in_memory m (writes w a y e) h = let l : leb (a.0 + bytes_of w) (length m) ≡ true = le-leb (a.0 + bytes_of w) (length m) (rw e h) in rw l
in_memory m (swints n) h = refl

past_memory : {r : Reach} {q : Reaches} (m : List ℕ) → Same r q → Outside q (length m) → outside r m ≡ true
past_memory m nowhere h = absurd h
past_memory m (reads w a y e) h = let l : leb (a.0 + bytes_of w) (length m) ≡ false = lt-leb (a.0 + bytes_of w) (length m) (rw e h) in rw l
past_memory m (writes w a y e) h = let l : leb (a.0 + bytes_of w) (length m) ≡ false = lt-leb (a.0 + bytes_of w) (length m) (rw e h) in rw l
past_memory m (swints n) h = absurd h

loaded_of : {r : Reach} {q : Reaches} (m : List ℕ) → Same r q → Inside q (length m) → loaded_from r m ≡ loaded_by q m
loaded_of m nowhere h = refl
loaded_of m (reads w a y e) h =
    let l : leb (a.0 + bytes_of w) (length m) ≡ true = le-leb (a.0 + bytes_of w) (length m) (rw e h) in
    rw l (ap (load (bytes_of w) m) e)
loaded_of m (writes w a y e) h = refl
loaded_of m (swints n) h = refl

mark_of : {r : Reach} {q : Reaches} (k : Marks) → Same r q → loaded_mark r k ≡ marked_by q k
mark_of k nowhere = refl
mark_of k (reads w a y e) = ap (any_mark (bytes_of w) k) e
mark_of k (writes w a y e) = refl
mark_of k (swints n) = refl

stored_of : {r : Reach} {q : Reaches} (v : ℕ) (m : List ℕ) → Same r q → Inside q (length m) → stored_to r v m ≡ stored_by q v m
stored_of v m nowhere h = refl
stored_of v m (reads w a y e) h = refl
stored_of v m (writes w a y e) h =
    let l : leb (a.0 + bytes_of w) (length m) ≡ true = le-leb (a.0 + bytes_of w) (length m) (rw e h) in
    rw l (ap (λ (u : ℕ). store (bytes_of w) m u v) e)
stored_of v m (swints n) h = refl

-- the marks of n bytes from a on made b, by position
put_at : (n a p size : ℕ) (k : Marks) (b : Bool) → bad_room size k ≡ false → p < size
    → mark_at (put_marks n k a b) p ≡ cond (leb a p && ltb p (a + n)) b (mark_at k p)
put_at n a p size k b g l = go (leb a p) (ltb p (a + n)) refl refl
  where
    within : a ≤ p → p < a + n → mark_at (put_marks n k a b) p ≡ b
    within f t =
        let e : a + (p - a) ≡ p = omega arith in
        subst (λ (u : ℕ). mark_at (put_marks n k a b) u ≡ b) e (puts_same n k a (p - a) b (omega arith) (room_has size k g (a + (p - a)) (rw e l)))

    go : (s t : Bool) → leb a p ≡ s → ltb p (a + n) ≡ t → mark_at (put_marks n k a b) p ≡ cond (s && t) b (mark_at k p)
    go true true f t = within (leb-true _ _ f) (ltb-true _ _ t)
    go true false f t = let q : a + n ≤ p = ltb-false _ _ t in puts_other n k a p b (λ i j u. omega arith)
    go false t f q = let h : p < a = leb-false _ _ f in puts_other n k a p b (λ i j u. omega arith)

marks_of_lem : {r : Reach} {q : Reaches} (b : Bool) (k : Marks) (size p : ℕ) → Same r q → bad_room size k ≡ false → p < size
    → mark_at (marked_to r b k) p ≡ cond (is_stored_by q p) b (mark_at k p)
marks_of_lem b k size p nowhere g l = refl
marks_of_lem b k size p (reads w a y e) g l = refl
marks_of_lem b k size p (writes w a y e) g l = rw (← e) (put_at (bytes_of w) a.0 p size k b g l)
marks_of_lem b k size p (swints n) g l = refl

-- ---- the entry that an instruction makes, by the watchpoints before it: no load or store changes them

watch_of : (a : ByteAddr) (c : Control) → watch_entry a c ≡ watched a.0 c
unfolding watch_entry watch_hit
watch_of a c = go (on c.hwdbg 4 && eqb c.wp0 a.0) (on c.hwdbg 5 && eqb c.wp1 a.0)
  where
    go : (p q : Bool) → cond (ltb 0 (num p * 2 + num q * 4)) (Entry.Debug (num p * 2 + num q * 4)) Entry.Nothing ≡ hit_by p q
    go true true = refl
    go true false = refl
    go false true = refl
    go false false = refl

entry_of : (i : Instr) (x y v : ℕ) (c : Control) → entry_by (reach_of i y c) (exec i x y v c).control ≡ entered_by (reached_by i y c.pc) c
unfolding reach_of exec makes onward with_pc
entry_of (Instr.Alu op d b) x y v c = refl
entry_of (Instr.ShiftImm op d n) x y v c = refl
entry_of (Instr.Cmp op d b) x y v c = refl
entry_of (Instr.CmpImm op d n) x y v c = refl
entry_of (Instr.Cond op t d b) x y v c = refl
entry_of (Instr.CondImm t d n) x y v c = refl
entry_of (Instr.Ldrpc d n) x y v c = watch_of (data_address Width.Word c.pc n) _ ∙ ap (λ (u : ℕ). watched u c) (address Width.Word c.pc n)
entry_of (Instr.Imm op d n) x y v c = refl
entry_of (Instr.Load w d n b) x y v c = watch_of (data_address w y n) _ ∙ ap (λ (u : ℕ). watched u c) (address w y n)
entry_of (Instr.Store w d n b) x y v c = watch_of (data_address w y n) _ ∙ ap (λ (u : ℕ). watched u c) (address w y n)
entry_of (Instr.Mfsfr d n) x y v c = refl
entry_of (Instr.Mtsfr n b) x y v c = refl
entry_of (Instr.Jr b) x y v c = refl
entry_of (Instr.Jrl b) x y v c = refl
entry_of (Instr.Jsfr n) x y v c = refl
entry_of (Instr.Swint n) x y v c = refl
entry_of (Instr.ShortJump op d) x y v c = refl
entry_of (Instr.LongJump op d) x y v c = refl

-- ---- the step of an instruction, with the registers that the digits of its half name

module _ (t : ℕ) (s : State) (m : List ℕ) (k : Marks) where
  abbrev c : Control
  c = s.control

  abbrev x : Val
  x = value_at s (rd_of s m)

  abbrev y : Val
  y = value_at s (rb_of s m)

  abbrev performed : Instr → Stepped
  performed i = act_step (act_of i x y s.flags c m k) (data_of (reach_of i y.value c)) x s.flags c m k

  digits : (i : Instr) → fetch_of (pc_of c) m k ≡ Ok i → fetch_step (Ok i) s m k ≡ performed i
  unfolding decode_of
  digits i e = go (decoded_at m (pc_of c)) (runs_what_decodes (pc_of c) m k i e) refl
    where
      any : Served s m k (decoded_to (decoded_at m (pc_of c))) (first_half s m)
      any = served_by s m k (kind_of (first_half s m / 256)) (first_half s m) (half_at m (after_half (pc_of c)))

      go : (d : Option Decoded) → Is i d → decoded_at m (pc_of c) ≡ d → fetch_step (Ok i) s m k ≡ performed i
      go d short p = subst (λ (u : Option Decoded). Served s m k (decoded_to u) (first_half s m)) p any
      go d long p = subst (λ (u : Option Decoded). Served s m k (decoded_to u) (first_half s m)) p any

  pub instruction_step : (i : Instr) → chosen t c ≡ Event.Instruction → fetch_of (pc_of c) m k ≡ Ok i → step_of t s m k ≡ performed i
  unfolding step_of
  instruction_step i h f = rw (h, f) (digits i f)

  -- where it reaches, and what it finds there
  abbrev reach : Instr → Reach
  reach i = reach_of i y.value c

  alike : (i : Instr) → Same (reach i) (reach_in i s m)
  alike i = same i y.value c

  abbrev found : Instr → Found
  found i = found_in i s m k

  taints : (i : Instr) → taint i x.mark y.mark (loaded_mark (reach i) k) (tf c) s.flags
      ≡ record { reg = any_of (found i) (reg_from i (tf c)); flags = record { tf = any_of (found i) (tf_from i); cy = any_of (found i) (cy_from i) } }
  taints i = rw (mark_of k (alike i)) (marks_of_results (found i) i (tf c))

  effects : (i : Instr) → Inside (reach_in i s m) (length m) → exec i x.value y.value (loaded_from (reach i) m) c ≡ effect_in i s m
  effects i o = rw (loaded_of m (alike i) o)

  -- ---- each way

  abbrev pub DoesIn : Way t s m k → Stepped → Type 0
  DoesIn w (stopped r) = Unit {0}
  DoesIn w (completed d l j z) = Does w d l j z

  chosen_does : (e : Entry) (h : chosen t c ≡ Event.Enter e) → DoesIn (by_choice e h) (entry_step e s.flags c m k)
  unfolding entry_done
  chosen_does e h =
      record {
        pc = refl;
        entry = refl;
        address = refl;
        control = ap (λ (n : ℕ). passed (on c.psw 4) n (entered e c)) (chosen_costs t c e h);
        writes = (refl, refl);
        memory = refl;
        marks = λ g p l. refl;
      }

  fetch_does : (h : chosen t c ≡ Event.Instruction) (f : fetch_of (pc_of c) m k ≡ Err Halt.FetchOutside)
      → DoesIn (by_fetch h f) (entry_step Entry.FetchError s.flags c m k)
  unfolding entry_done entry_cost
  fetch_does h f =
      record { pc = refl; entry = refl; address = refl; control = refl; writes = (refl, refl); memory = refl; marks = λ g p l. refl }

  module _ (i : Instr) (h : chosen t c ≡ Event.Instruction) (f : fetch_of (pc_of c) m k ≡ Ok i) where
    -- stopped by a marked operand, or a bus error
    outside_does : (o : Outside (reach_in i s m) (length m)) (b : Bool)
        → DoesIn (by_data i h f o) (act_step (cond b (Act.Halted Halt.MarkedOperand) (Act.Halted Halt.DataOutside)) (data_of (reach i)) x s.flags c m k)
    unfolding entry_done entry_cost onward with_pc
    outside_does o true = tt
    outside_does o false =
        record { pc = refl; entry = refl; address = shown (alike i); control = refl; writes = (refl, refl); memory = refl; marks = λ g p l. refl }

    data_does : (o : Outside (reach_in i s m) (length m)) → DoesIn (by_data i h f o) (performed i)
    unfolding act_of
    data_does o = rw (past_memory m (alike i) o) (outside_does o (blocked i y.mark s.flags))

    -- what it makes of values and marks
    abbrev made : Effect
    made = exec i x.value y.value (loaded_from (reach i) m) c

    abbrev marked : Taint
    marked = taint i x.mark y.mark (loaded_mark (reach i) k) (tf c) s.flags

    cost : (effect_in i s m).cost ≡ cycles_of (class_of i y.value (tf c))
    unfolding exec
    cost = instruction_costs i y.value c

    control_after : (u : Effect) → u ≡ effect_in i s m
        → passed (on c.psw 4 && not u.wrote) (u.cost + entry_cost (entry_by (reach i) u.control)) (entered (entry_by (reach i) u.control) u.control)
        ≡ passed (on c.psw 4 && not (effect_in i s m).wrote) (cycles_of (class_of i y.value (tf c)) + adds_cycles (entered_by (reach_in i s m) c))
        (entered (entered_by (reach_in i s m) c) (effect_in i s m).control)
    control_after u q =
        rw (q, cost, entry_of i x.value y.value (loaded_by (reach_in i s m) m) c, entry_costs (entered_by (reach_in i s m) c))

    inside_does : (o : Inside (reach_in i s m) (length m)) (b : Bool)
        → DoesIn (by_instruction i h f o) (act_step (cond b (Act.Halted Halt.MarkedOperand) (Act.Does made marked (reach i))) (data_of (reach i)) x s.flags c m k)
    unfolding done_of line_of
    inside_does o true = tt
    inside_does o false =
        record {
          pc = refl;
          entry = entry_of i x.value y.value (loaded_from (reach i) m) c;
          address = shown (alike i);
          control = control_after made (effects i o);
          writes = (
            ap (λ (u : Effect). u.reg) (effects i o),
            ap (λ (u : Effect). u.value) (effects i o),
            ap (λ (u : Taint). u.reg) (taints i),
            ap (λ (u : Taint). u.flags.tf) (taints i),
            ap (λ (u : Taint). u.flags.cy) (taints i),
          );
          memory = stored_of x.value m (alike i) o;
          marks = λ g p l. marks_of_lem x.mark k (length m) p (alike i) g l;
        }

    instr_does : (o : Inside (reach_in i s m) (length m)) → DoesIn (by_instruction i h f o) (performed i)
    unfolding act_of
    instr_does o = rw (in_memory m (alike i) o) (inside_does o (blocked i y.mark s.flags))

  choice_step : (e : Entry) → chosen t c ≡ Event.Enter e → step_of t s m k ≡ entry_step e s.flags c m k
  unfolding step_of
  choice_step e h = rw h

  halted_step : (r : Halt) → chosen t c ≡ Event.Instruction → fetch_of (pc_of c) m k ≡ Err r → step_of t s m k ≡ halt_step r None s.flags c m k
  unfolding step_of
  halted_step r h f = rw (h, f)

  pub does : (w : Way t s m k) → DoesIn w (step_of t s m k)
  does (by_choice e h) = rw (choice_step e h) (chosen_does e h)
  does (by_fetch h f) = rw (halted_step Halt.FetchOutside h f) (fetch_does h f)
  does (by_data i h f o) = rw (instruction_step i h f) (data_does i h f o)
  does (by_instruction i h f o) = rw (instruction_step i h f) (instr_does i h f o)

  -- ---- every completed step has a way, and one that stops has its reason

  abbrev pub HasWay : Stepped → Type 0
  HasWay (stopped r) = Stopped t s m k (number_of r)
  HasWay (completed d l j z) = Way t s m k

  act_way : (i : Instr) (b u : Bool) (e : Effect) (n : Taint) → chosen t c ≡ Event.Instruction → fetch_of (pc_of c) m k ≡ Ok i
      → any_of (found i) (stop_from i) ≡ b → outside (reach i) m ≡ u
      → HasWay (act_step (cond b (Act.Halted Halt.MarkedOperand) (cond u (Act.Halted Halt.DataOutside) (Act.Does e n (reach i)))) (data_of (reach i)) x s.flags c m k)
  act_way i true u e n h f p o = marked_operand i h f p
  act_way i false true e n h f p o = by_data i h f (outside_of m (alike i) o)
  act_way i false false e n h f p o = by_instruction i h f (inside_of m (alike i) o)

  performed_way : (i : Instr) → chosen t c ≡ Event.Instruction → fetch_of (pc_of c) m k ≡ Ok i → HasWay (performed i)
  unfolding act_of
  performed_way i h f = act_way i (blocked i y.mark s.flags) (outside (reach i) m) _ _ h f (sym (marks_that_stop (found i) i)) refl

  fetched_way : (v : Result Instr Halt) → FetchHalts v → chosen t c ≡ Event.Instruction → fetch_of (pc_of c) m k ≡ v → HasWay (step_of t s m k)
  fetched_way (Err Halt.FetchOutside) p h f = rw (halted_step Halt.FetchOutside h f) (by_fetch h f)
  fetched_way (Err Halt.FetchMarked) p h f = rw (halted_step Halt.FetchMarked h f) (fetch_marked h f)
  fetched_way (Err Halt.NoInstruction) p h f = rw (halted_step Halt.NoInstruction h f) (no_instruction h f)
  fetched_way (Err Halt.MarkedOperand) p h f = absurd p
  fetched_way (Err Halt.DataOutside) p h f = absurd p
  fetched_way (Ok i) p h f = rw (instruction_step i h f) (performed_way i h f)

  pub way : HasWay (step_of t s m k)
  way = go (chosen t c) refl
    where
      go : (v : Event) → chosen t c ≡ v → HasWay (step_of t s m k)
      go (Event.Enter e) h = rw (choice_step e h) (by_choice e h)
      go Event.Instruction h = fetched_way (fetch_of (pc_of c) m k) (fetch_halts (fetches (pc_of c) m k)) h refl

  -- a marked operand stops
  blocked_stops : (i : Instr) (b u : Bool) (e : Effect) (n : Taint) → b ≡ true
      → act_step (cond b (Act.Halted Halt.MarkedOperand) (cond u (Act.Halted Halt.DataOutside) (Act.Does e n (reach i)))) (data_of (reach i)) x s.flags c m k
      ≡ stopped Reply.MarkedOperand
  blocked_stops i true u e n q = refl
  blocked_stops i false u e n q = absurd (true≢false (sym q))

  pub operand_stops : (i : Instr) → chosen t c ≡ Event.Instruction → fetch_of (pc_of c) m k ≡ Ok i → any_of (found i) (stop_from i) ≡ true
      → step_of t s m k ≡ stopped Reply.MarkedOperand
  unfolding act_of
  operand_stops i h f p =
      instruction_step i h f ∙ blocked_stops i (blocked i y.mark s.flags) (outside (reach i) m) _ _ (marks_that_stop (found i) i ∙ p)
