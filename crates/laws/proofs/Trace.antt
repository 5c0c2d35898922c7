-- The trace is what the steps gave.
-- Assumes nothing.
use Rattle.std.specs.Prelude.{Err, None, Ok, Option, Result, Some}
use Prim.Native.Nat.{ℕ, zero, suc, ◌+◌, ◌%◌, ◌^◌, ◌≤◌, ◌<◌}
use mathlib.Core.Path.{◌≡◌, refl, ap, ◌∙◌}
use mathlib.Core.Bool.{Bool, true, false, cond, not}
use mathlib.Core.List.{List}
use native.Mathlib.Omega.{arith}
use native.Mathlib.Nat.{not-suc-le-zero}
use lib.Dec.{eqb, lit≤}
use lib.ListN.{length, get_or}
use Rattle.word.specs.Bits.{num, on, field_of, put, with_field}
use Rattle.word.specs.Bytes.{bytes_of, inside, store}
use Rattle.word.specs.Numbers.{lsl_of}
use Rattle.word.specs.declared.ByteAddr.{ByteAddr}
use Rattle.word.specs.declared.Width.{Width}
use Rattle.word.proofs.Fields.{kept_above, kept_below, read_back}
use Rattle.word.proofs.Memory.{store_kept}
use Rattle.isa.specs.declared.Instr.{Instr}
use Rattle.isa.specs.declared.Decoded.{Decoded}
use Rattle.cpu.specs.Control.{pc_of, with_pc, with_sfr, with_psw, with_hwdbg, with_pending, tf}
use Rattle.cpu.specs.Entries.{enter, entered}
use Rattle.cpu.specs.Exec.{onward, go_to, leave, makes, exec, sources_of}
use Rattle.cpu.specs.Cycles.{cost_of, entry_cost}
use Rattle.cpu.specs.declared.Control.{Control}
use Rattle.cpu.specs.declared.Entry.{Entry}
use Rattle.marks.specs.Marks.{taint, blocked}
use Rattle.marks.specs.Memory.{Marks, marked_at}
use Rattle.marks.specs.declared.Taint.{Taint}
use Rattle.instruction.specs.Fetch.{after_half, guarded, found, fetch_of}
use Rattle.instruction.specs.Act.{outside, loaded_mark, act_of}
use Rattle.instruction.specs.declared.Val.{Val}
use Rattle.instruction.specs.Statements.{decoded_at}
use Rattle.instruction.specs.declared.Halt.{Halt}
use Rattle.instruction.specs.declared.Reach.{Reach}
use Rattle.instruction.specs.declared.Act.{Act}
use Rattle.machine.specs.State.{value_at}
use Rattle.machine.specs.Step.{Stepped, stopped, completed, chosen, stored_to, data_of, entry_done, done_of, line_of, act_step, instr_step, fetch_step, event_step, step_of, after}
use Rattle.machine.specs.Run.{Final, go_on, steps_of, judge, judged, run_of}
use Rattle.machine.specs.Trace.{Shown, trace_on, trace_of, shown, shown_of}
use Rattle.trace.specs.Seen.{seen_in}
use Rattle.machine.specs.declared.State.{State}
use Rattle.machine.specs.declared.Event.{Event}
use Rattle.laws.specs.Shows.{reach_in, effect_in, Shows, by_choice, by_instruction, by_fetch, by_data, Entered, Bits, Returned, back_from, ChangedAt}
use Rattle.instruction.specs.declared.Reply.{Reply}

-- ---- one step and its line

stored_at : (r : Reach) (v : ℕ) (m : List ℕ) → ChangedAt (data_of r) m (stored_to r v m)
stored_at Reach.Nowhere v m = refl
stored_at (Reach.Reads w a) v m = λ i h. refl
stored_at (Reach.Writes w a) v m = λ i h. go (inside m a (bytes_of w)) i h
  where
    small : (w : Width) → bytes_of w ≤ 4
    small Width.Byte = lit≤ tt
    small Width.Half = lit≤ tt
    small Width.Word = lit≤ tt

    go : (t : Bool) (i : ℕ) → (a.0 ≤ i → i < a.0 + 4 → ⊥) → get_or (cond t (store (bytes_of w) m a.0 v) m) i 0 ≡ get_or m i 0
    go true i h =
        let s = small w in
        store_kept (bytes_of w) m a.0 v i (λ (n : ℕ) (l : n < bytes_of w) (e : i ≡ a.0 + n). h (omega arith) (omega arith))
    go false i h = refl
stored_at (Reach.Raises n) v m = refl

-- no fetch meets data outside memory
abbrev FetchHalts : Result Instr Halt → Type 0
FetchHalts (Err Halt.FetchOutside) = Unit {0}
FetchHalts (Err Halt.FetchMarked) = Unit {0}
FetchHalts (Err Halt.NoInstruction) = Unit {0}
FetchHalts (Err Halt.MarkedOperand) = Unit {0}
FetchHalts (Err Halt.DataOutside) = ⊥
FetchHalts (Ok i) = Unit {0}

guarded_halts : (a : ByteAddr) (m : List ℕ) (k : Marks) (x : Result Instr Halt) → FetchHalts x → FetchHalts (guarded a m k x)
guarded_halts a m k x p = go (not (inside m a 2)) (marked_at Width.Half k a)
  where
    go : (t u : Bool) → FetchHalts (cond t (Err Halt.FetchOutside) (cond u (Err Halt.FetchMarked) x))
    go true u = tt
    go false true = tt
    go false false = p

found_halts : (d : Option Decoded) (b : ByteAddr) (m : List ℕ) (k : Marks) → FetchHalts (found d b m k)
found_halts (Some (Decoded.Short i)) b m k = tt
found_halts (Some (Decoded.Long i)) b m k = guarded_halts b m k (Ok i) tt
found_halts None b m k = tt

fetch_halts : (a : ByteAddr) (m : List ℕ) (k : Marks) → FetchHalts (fetch_of a m k)
unfolding fetch_of
fetch_halts a m k = go (eqb (a.0 % 2) 1)
  where
    x : Result Instr Halt
    x = found (decoded_at m a) (after_half a) m k

    go : (o : Bool) → FetchHalts (cond o (Err Halt.NoInstruction) (guarded a m k x))
    go true = tt
    go false = guarded_halts a m k x (found_halts (decoded_at m a) (after_half a) m k)

-- what the line of a completed step says: its program counter, its entry, and where memory changed
module _ (t : ℕ) (s : State) (m : List ℕ) (k : Marks) where
  abbrev pub Told : Stepped → Type 0
  Told (stopped r) = Unit {0}
  Told (completed d l j x) = (x.pc ≡ pc_of s.control) × Shows t s m k d x × ChangedAt x.address m l

  nothing_stored : (a : Option ByteAddr) → ChangedAt a m m
  nothing_stored None = refl
  nothing_stored (Some a) = λ i h. refl

  module _ (i : Instr) (c : chosen t s.control ≡ Event.Instruction) (f : fetch_of (pc_of s.control) m k ≡ Ok i) where
    acted : (b u : Bool) (n : Taint) → outside (reach_in i s) m ≡ u
        → Told (act_step (cond b (Act.Halted Halt.MarkedOperand) (cond u (Act.Halted Halt.DataOutside) (Act.Does (effect_in i s m) n (reach_in i s)))) (data_of (reach_in i s)) (value_at s (sources_of i).first) s.flags s.control m k)
    unfolding done_of line_of entry_done onward with_pc entry_cost
    acted true u n o = tt
    acted false true n o = (refl, by_data i c f o refl refl refl, nothing_stored (data_of (reach_in i s)))
    acted false false n o = (refl, by_instruction i c f o refl refl, stored_at (reach_in i s) (value_at s (sources_of i).first).value m)

    acts : Told (instr_step i s m k)
    unfolding instr_step act_of
    acts =
        let x : Val = value_at s (sources_of i).first in
        let y : Val = value_at s (sources_of i).second in
        acted (blocked i y.mark s.flags) (outside (reach_in i s) m) (taint i x.mark y.mark (loaded_mark (reach_in i s) k) (tf s.control) s.flags) refl

  fetched : (x : Result Instr Halt) → FetchHalts x → chosen t s.control ≡ Event.Instruction → fetch_of (pc_of s.control) m k ≡ x → Told (fetch_step x s m k)
  unfolding entry_done entry_cost
  fetched (Err Halt.FetchOutside) p c f = (refl, by_fetch c f refl refl refl, refl)
  fetched (Err Halt.FetchMarked) p c f = tt
  fetched (Err Halt.NoInstruction) p c f = tt
  fetched (Err Halt.MarkedOperand) p c f = tt
  fetched (Err Halt.DataOutside) p c f = absurd p
  fetched (Ok i) p c f = acts i c f

  happened : (v : Event) → chosen t s.control ≡ v → Told (event_step v s m k)
  unfolding entry_done
  happened (Event.Enter e) c = (refl, by_choice c refl refl, refl)
  happened Event.Instruction c = fetched (fetch_of (pc_of s.control) m k) (fetch_halts (pc_of s.control) m k) c refl

  pub told : Told (step_of t s m k)
  unfolding step_of
  told = happened (chosen t s.control) refl

-- ---- an entry by its vector and its bits

on_of : (n : ℕ) {p q : ℕ} → p ≡ q → eqb p n ≡ eqb q n
on_of n e = ap (λ (x : ℕ). eqb x n) e

flag_read : (b : Bool) → eqb (num b % 2 ^ 1) 1 ≡ b
flag_read true = refl
flag_read false = refl

-- IP is written last, and BIP before it; a field below both or above both stays
module _ (p : ℕ) (b : Bool) where
  abbrev saved : ℕ
  saved = put (put p 6 1 (num b)) 3 1 1

  ip_set : on saved 3 ≡ true
  ip_set = on_of 1 (read_back (put p 6 1 (num b)) 3 1 1)

  bip_set : on saved 6 ≡ b
  bip_set = on_of 1 (kept_above (put p 6 1 (num b)) 3 1 1 6 1 (lit≤ tt) ∙ read_back p 6 1 (num b)) ∙ flag_read b

  low_kept : (i w : ℕ) → i + w ≤ 3 → field_of saved i w ≡ field_of p i w
  low_kept i w h = kept_below (put p 6 1 (num b)) 3 1 1 i w h ∙ kept_below p 6 1 (num b) i w (omega arith)

  high_kept : (i w : ℕ) → 7 ≤ i → field_of saved i w ≡ field_of p i w
  high_kept i w h = kept_above (put p 6 1 (num b)) 3 1 1 i w (omega arith) ∙ kept_above p 6 1 (num b) i w h

-- c is what the entry's kind made of a
enters : (low : ℕ) (c a : Control) → c.pc ≡ a.pc → c.ibase ≡ a.ibase → field_of c.psw 3 1 ≡ field_of a.psw 3 1 → Entered low a (enter low c)
unfolding enter with_pc with_sfr
enters low c a e f g =
    record {
      vector = rw f;
      ipc = e;
      ip = ip_set c.psw (on c.psw 3);
      bip = bip_set c.psw (on c.psw 3) ∙ on_of 1 g;
    }

-- a field above bit 3 and a bit below it leave IP
ip_kept : (p i w v j b : ℕ) → 4 ≤ i → j + 1 ≤ 3 → field_of (put (put p i w v) j 1 b) 3 1 ≡ field_of p 3 1
ip_kept p i w v j b h l = kept_above (put p i w v) j 1 b 3 1 l ∙ kept_below p i w v 3 1 h

pub entry_bits : (e : Entry) (c : Control) → Bits e c (entered e c)
unfolding entered enter with_pc with_sfr with_pending
entry_bits Entry.Nothing c = refl
entry_bits (Entry.Swint v) c =
    let p : ℕ = put (put c.psw 16 4 v) 0 1 1 in (
      enters 4 (with_psw c p) c refl refl (ip_kept c.psw 16 4 v 0 1 (lit≤ tt) (lit≤ tt)),
      on_of 1 (low_kept p (on p 3) 0 1 (lit≤ tt) ∙ read_back (put c.psw 16 4 v) 0 1 1),
      high_kept p (on p 3) 16 4 (lit≤ tt) ∙ kept_above (put c.psw 16 4 v) 0 1 1 16 4 (lit≤ tt) ∙ read_back c.psw 16 4 v,
    )
entry_bits (Entry.Debug hit) c =
    let p : ℕ = put (put c.psw 16 4 15) 0 1 0 in (
      enters 4 (with_hwdbg (with_psw c p) (with_field c.hwdbg 6 3 hit)) c refl refl (ip_kept c.psw 16 4 15 0 0 (lit≤ tt) (lit≤ tt)),
      on_of 1 (low_kept p (on p 3) 0 1 (lit≤ tt) ∙ read_back (put c.psw 16 4 15) 0 1 0),
      high_kept p (on p 3) 16 4 (lit≤ tt) ∙ kept_above (put c.psw 16 4 15) 0 1 0 16 4 (lit≤ tt) ∙ read_back c.psw 16 4 15,
      read_back c.hwdbg 6 3 hit,
    )
entry_bits Entry.Timer c =
    let p : ℕ = put c.psw 2 1 1 in (
      enters 8 (with_pending (with_psw c p) false) c refl refl (kept_above c.psw 2 1 1 3 1 (lit≤ tt)),
      on_of 1 (low_kept p (on p 3) 2 1 (lit≤ tt) ∙ read_back c.psw 2 1 1),
      refl,
    )
entry_bits (Entry.External i) c =
    let p : ℕ = put (put c.psw 26 6 (lsl_of 1 i)) 1 1 1 in (
      enters 12 (with_psw c p) c refl refl (ip_kept c.psw 26 6 (lsl_of 1 i) 1 1 (lit≤ tt) (lit≤ tt)),
      on_of 1 (low_kept p (on p 3) 1 1 (lit≤ tt) ∙ read_back (put c.psw 26 6 (lsl_of 1 i)) 1 1 1),
      high_kept p (on p 3) 26 6 (lit≤ tt) ∙ kept_above (put c.psw 26 6 (lsl_of 1 i)) 1 1 1 26 6 (lit≤ tt) ∙ read_back c.psw 26 6 (lsl_of 1 i),
    )
entry_bits Entry.FetchError c =
    let p : ℕ = put c.psw 15 1 1 in (
      enters 16 (with_psw c p) c refl refl (kept_below c.psw 15 1 1 3 1 (lit≤ tt)),
      on_of 1 (high_kept p (on p 3) 15 1 (lit≤ tt) ∙ read_back c.psw 15 1 1),
      on_of 1 (high_kept p (on p 3) 14 1 (lit≤ tt) ∙ kept_below c.psw 15 1 1 14 1 (lit≤ tt)),
      refl,
    )
entry_bits Entry.DataError c =
    let p : ℕ = put c.psw 14 1 1 in (
      enters 16 (with_psw c p) c refl refl (kept_below c.psw 14 1 1 3 1 (lit≤ tt)),
      on_of 1 (high_kept p (on p 3) 14 1 (lit≤ tt) ∙ read_back c.psw 14 1 1),
      on_of 1 (high_kept p (on p 3) 15 1 (lit≤ tt) ∙ kept_above c.psw 14 1 1 15 1 (lit≤ tt)),
      refl,
    )

-- ---- the return from an entry

pub return_bits : (c : Control) → Returned c (back_from c)
unfolding exec makes cost_of go_to leave with_pc with_sfr
return_bits c =
    let p : ℕ = c.psw in
    let one : ℕ = put p 3 1 (num (on p 6)) in
    record {
      pc = refl;
      ip = on_of 1 (kept_below one 6 1 0 3 1 (lit≤ tt) ∙ read_back p 3 1 (num (on p 6))) ∙ flag_read (on p 6);
      bip = on_of 1 (read_back one 6 1 0);
    }

-- ---- the lines of a run

-- what the steps counted, by the step that comes first
counts_on : (rest : State → List ℕ → Marks → Final) (lines : State → List ℕ → Marks → List Shown) (n : ℕ) (s : State) (m : List ℕ) (k : Marks) (x : Stepped)
    → ((u : State) (l : List ℕ) (j : Marks) → (rest u l j).ended.steps ≡ n + 1 + length (lines u l j))
    → (go_on rest n s m k x).ended.steps ≡ n + length (trace_on lines s x)
unfolding go_on trace_on
counts_on rest lines n s m k (stopped r) h = omega arith
counts_on rest lines n s m k (completed d l j y) h = h (after d s) l j ∙ omega arith

counted : (b n : ℕ) (t : List ℕ) (s : State) (m : List ℕ) (k : Marks) → (steps_of b n t s m k).ended.steps ≡ n + length (trace_of b n t s m k)
unfolding steps_of trace_of
counted zero n t s m k = omega arith
counted (suc b) n t s m k =
    counts_on (steps_of b (n + 1) t) (trace_of b (n + 1) t) n s m k (step_of (get_or t n 0) s m k) (λ u l j. counted b (n + 1) t u l j)

pub run_counted : (b : ℕ) (t : List ℕ) (s : State) (m : List ℕ) (k : Marks) → length (shown_of b t s m k) ≡ (run_of b t s m k).ended.steps
unfolding run_of shown_of
run_counted b t s m k = go (judge b t s m k)
  where
    go : (j : Result Unit Reply) → length (shown j b t s m k) ≡ (judged j b t s m k).ended.steps
    go (Err r) = refl
    go (Ok _) = omega (arith, counted b 0 t s m k)

-- line i is the one that the step from what i steps left shows; z is any line
module _ (lines : State → List ℕ → Marks → List Shown) (s : State) (z : Shown) where
  first_line_lem : (x : Stepped) → 0 < length (trace_on lines s x) → seen_in x ≡ Some (get_or (trace_on lines s x) 0 z).line
  unfolding trace_on
  first_line_lem (stopped r) h = absurd (not-suc-le-zero h)
  first_line_lem (completed d l j y) h = refl

  later_line : (rest : State → List ℕ → Marks → Final) (tape i n : ℕ) (m : List ℕ) (k : Marks) (x : Stepped) → suc i < length (trace_on lines s x)
      → ((u : State) (l : List ℕ) (j : Marks) → i < length (lines u l j)
      → seen_in (step_of tape (rest u l j).ended.state (rest u l j).mem (rest u l j).marks) ≡ Some (get_or (lines u l j) i z).line)
      → seen_in (step_of tape (go_on rest n s m k x).ended.state (go_on rest n s m k x).mem (go_on rest n s m k x).marks)
      ≡ Some (get_or (trace_on lines s x) (suc i) z).line
  unfolding trace_on go_on
  later_line rest tape i n m k (stopped r) h f = absurd (not-suc-le-zero h)
  later_line rest tape i n m k (completed d l j y) h f = f (after d s) l j (omega arith)

pub nth_line : (b i n : ℕ) (t : List ℕ) (s : State) (m : List ℕ) (k : Marks) (z : Shown) → i < length (trace_of b n t s m k)
    → seen_in (step_of (get_or t (n + i) 0) (steps_of i n t s m k).ended.state (steps_of i n t s m k).mem (steps_of i n t s m k).marks)
    ≡ Some (get_or (trace_of b n t s m k) i z).line
unfolding steps_of trace_of
nth_line zero i n t s m k z h = absurd (not-suc-le-zero h)
nth_line (suc b) zero n t s m k z h =
    let e : n + 0 ≡ n = omega arith in
    rw e (first_line_lem (trace_of b (n + 1) t) s z (step_of (get_or t n 0) s m k) h)
nth_line (suc b) (suc i) n t s m k z h =
    let e : n + suc i ≡ n + 1 + i = omega arith in
    rw e (later_line (trace_of b (n + 1) t) s z (steps_of i (n + 1) t) (get_or t (n + 1 + i) 0) i n m k (step_of (get_or t n 0) s m k) h
    (λ u l j g. nth_line b i (n + 1) t u l j z g))
