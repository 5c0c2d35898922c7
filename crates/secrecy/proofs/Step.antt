-- One step of two runs: it stops with the same answer, or both complete it, still differ only where marked, and show the same line.
-- Assumes nothing.
use Rattle.std.specs.Prelude.{Err, None, Ok, Option, Result}
use Prim.Native.Nat.{ℕ, zero, suc, ◌+◌, ◌/◌, ◌%◌}
use mathlib.Core.Path.{◌≡◌, refl, sym, ap, ap₂, subst, ◌∙◌}
use mathlib.Core.Bool.{Bool, true, false, cond, not, ◌&&◌}
use mathlib.Core.List.{List}
use native.Mathlib.Omega.{arith}
use lib.Dec.{ltb, eqb, leb, lit≤}
use lib.ListN.{get_or}
use borrow.Author.Tests.{not-false}
use Rattle.word.specs.Bits.{on}
use Rattle.word.specs.Bytes.{bytes_of}
use Rattle.word.specs.declared.ByteAddr.{ByteAddr}
use Rattle.word.specs.declared.Width.{Width}
use Rattle.isa.specs.Codes.{kind_of}
use Rattle.isa.specs.declared.Kind.{Kind}
use Rattle.isa.specs.declared.Instr.{Instr}
use Rattle.cpu.specs.Control.{pc_of, with_sfr, tf}
use Rattle.cpu.specs.Entries.{is_break, entered}
use Rattle.cpu.specs.Exec.{exec, sources_of}
use Rattle.cpu.specs.Cycles.{entry_cost}
use Rattle.cpu.specs.declared.Control.{Control}
use Rattle.cpu.specs.declared.Effect.{Effect}
use Rattle.cpu.specs.declared.Entry.{Entry}
use Rattle.marks.specs.Marks.{taint, blocked}
use Rattle.marks.specs.Memory.{Marks, marked_at}
use Rattle.marks.specs.declared.Flags.{Flags}
use Rattle.marks.specs.declared.Taint.{Taint}
use Rattle.instruction.specs.Fetch.{half_at, after_half, fetch_of}
use Rattle.instruction.specs.Act.{reach_of, outside, loaded_from, loaded_mark, act_of}
use Rattle.instruction.specs.Parts.{half_of, first_half, second_half, is_long_kind, by_second, rest_by, by_first}
use Rattle.instruction.specs.declared.Reply.{Reply}
use Rattle.instruction.specs.declared.Halt.{Halt}
use Rattle.instruction.specs.declared.Reach.{Reach}
use Rattle.instruction.specs.declared.Act.{Act}
use Rattle.instruction.proofs.Laws.{fetch_by_parts}
use Rattle.machine.specs.State.{value_at}
use Rattle.machine.specs.Step.{Stepped, stopped, completed, lowest, chosen, stored_to, marked_to, entry_by, data_of, entry_done, done_of, line_of, halt_step, act_step, instr_step, fetch_step, event_step, step_of}
use Rattle.machine.specs.declared.State.{State}
use Rattle.machine.specs.declared.Event.{Event}
use Rattle.machine.specs.declared.Done.{Done}
use Rattle.machine.specs.declared.Line.{Line}
use Rattle.secrecy.specs.Same.{SamePsw, SameControl, SameList, SameMem}
use Rattle.secrecy.proofs.Psw.{bit_under, bit_over}
use Rattle.secrecy.proofs.Control.{pc_same, onwards, passes, entries, breaks, watches}
use Rattle.secrecy.proofs.Exec.{SameEffect, exec_same, taint_same, reach_same}
use Rattle.secrecy.proofs.Memory.{Covers, loaded, stored, covers}

-- ---- the relations

pub record SameDone (d e : Done) : Type 0 where
  pub control : SameControl d.flags d.control e.control
  pub flags : d.flags ≡ e.flags
  pub reg : d.reg ≡ e.reg
  pub mark : d.mark ≡ e.mark
  pub value : d.mark ≡ false → d.value ≡ e.value

-- an instruction in both runs, with its data address, which shows if it is a bus error; a marked base's does not
-- and what it reaches in memory m lies inside
data SameAct (m : List ℕ) : Act → Option ByteAddr → Act → Option ByteAddr → Type 0 where
  marked : (p q : Option ByteAddr) → SameAct m (Act.Halted Halt.MarkedOperand) p (Act.Halted Halt.MarkedOperand) q
  misses : (p : Option ByteAddr) → SameAct m (Act.Halted Halt.DataOutside) p (Act.Halted Halt.DataOutside) p
  does : {e g : Effect} (t : Taint) (r : Reach) (p : Option ByteAddr) → outside r m ≡ false → SameEffect t e g → SameAct m (Act.Does e t r) p (Act.Does g t r) p

pub data SameStep : Stepped → Stepped → Type 0 where
  stops : (r : Reply) → SameStep (stopped r) (stopped r)
  goes : {d e : Done} {m n : List ℕ} {k : Marks} (x : Line) → SameDone d e → SameMem k m n → Covers k m
      → SameStep (completed d m k x) (completed e n k x)

-- ---- the choice

lowest_same : {f : Flags} {p q : ℕ} → SamePsw f p q → (n i t : ℕ) → lowest n i t p ≡ lowest n i t q
unfolding lowest
lowest_same s zero i t = refl
lowest_same s (suc n) i t =
    ap₂ (λ (x : Bool) (y : ℕ). cond (on t i && x) i y) (bit_over s (20 + i) (omega arith)) (lowest_same s n (i + 1) t)

-- what the choice looks at
abbrev choice : Bool → Bool → Bool → Bool → ℕ → Bool → Event
choice x y z p l b =
    cond (x && not y)
    (cond (p && z) (Event.Enter Entry.Timer) (cond (ltb l 6) (Event.Enter (Entry.External l)) (cond b (Event.Enter (Entry.Debug 1)) Event.Instruction)))
    (cond b (Event.Enter (Entry.Debug 1)) Event.Instruction)

pending_same : {f : Flags} {a b : Control} → SameControl f a b → a.pending ≡ b.pending
unfolding with_sfr
pending_same s = ap (λ (c : Control). c.pending) s.rest

pub chosen_same : {f : Flags} {a b : Control} → SameControl f a b → (t : ℕ) → chosen t a ≡ chosen t b
unfolding chosen
chosen_same {f} {a} {b} s t =
    let p : on a.psw 5 ≡ on b.psw 5 = bit_under s.psw 5 (lit≤ tt) in
    let q : on a.psw 3 ≡ on b.psw 3 = bit_under s.psw 3 (lit≤ tt) in
    let r : on a.psw 4 ≡ on b.psw 4 = bit_under s.psw 4 (lit≤ tt) in
    ap₂ (λ (x y : Bool). choice x y (on a.psw 4) a.pending (lowest 6 0 t a.psw) (is_break a)) p q
    ∙ ap₂ (λ (x y : Bool). choice (on b.psw 5) (on b.psw 3) x y (lowest 6 0 t a.psw) (is_break a)) r (pending_same s)
    ∙ ap₂ (λ (x : ℕ) (y : Bool). choice (on b.psw 5) (on b.psw 3) (on b.psw 4) b.pending x y) (lowest_same s.psw 6 0 t) (breaks s)

-- ---- the fetch

unless : {A : Type 0} (t : Bool) (x y z : A) → (t ≡ false → y ≡ z) → cond t x y ≡ cond t x z
unless true x y z f = refl
unless false x y z f = f refl

module _ {k : Marks} {m n : List ℕ} (s : SameMem k m n) where
  half_same : (a : ByteAddr) → half_of a m k ≡ half_of a n k
  unfolding half_of half_at
  half_same a =
      ap₂ (λ (l : ℕ) (x : Result ℕ Halt). cond (not (leb (a.0 + 2) l)) (Err Halt.FetchOutside) x) s.long
      (unless (marked_at Width.Half k a) (Err Halt.FetchMarked) _ _ (λ e. ap Ok (loaded s Width.Half a e)))

  rest_same : (d : Kind) (h : ℕ) (a : ByteAddr) → rest_by d h a m k ≡ rest_by d h a n k
  unfolding rest_by second_half
  rest_same d h a = ap (λ (x : Result ℕ Halt). by_second (cond (is_long_kind d) x (Ok 0)) d h) (half_same (after_half a))

  by_first_lem : (x : Result ℕ Halt) (a : ByteAddr) → by_first x a m k ≡ by_first x a n k
  by_first_lem (Err h) a = refl
  by_first_lem (Ok h) a = rest_same (kind_of (h / 256)) h a

  pub fetch_same : (a : ByteAddr) → fetch_of a m k ≡ fetch_of a n k
  unfolding first_half
  fetch_same a =
      fetch_by_parts a m k
      ∙ ap (λ (x : Result ℕ Halt). by_first (cond (eqb (a.0 % 2) 1) (Err Halt.NoInstruction) x) a m k) (half_same a)
      ∙ by_first_lem (first_half a n k) a
      ∙ sym (fetch_by_parts a n k)

-- ---- memory

module _ {k : Marks} {m n : List ℕ} (s : SameMem k m n) where
  outside_same : (r : Reach) → outside r m ≡ outside r n
  outside_same Reach.Nowhere = refl
  outside_same (Reach.Reads w a) = ap (λ (l : ℕ). not (leb (a.0 + bytes_of w) l)) s.long
  outside_same (Reach.Writes w a) = ap (λ (l : ℕ). not (leb (a.0 + bytes_of w) l)) s.long
  outside_same (Reach.Raises n) = refl

  loaded_same : (r : Reach) → loaded_mark r k ≡ false → loaded_from r m ≡ loaded_from r n
  loaded_same Reach.Nowhere h = refl
  loaded_same (Reach.Reads w a) h = loaded s w a h
  loaded_same (Reach.Writes w a) h = refl
  loaded_same (Reach.Raises n) h = refl

module _ {k : Marks} {m n : List ℕ} (s : SameMem k m n) (each : Covers k m) where
  stored_same : (r : Reach) (b : Bool) (v x : ℕ) → outside r m ≡ false → (b ≡ false → v ≡ x) → SameMem (marked_to r b k) (stored_to r v m) (stored_to r x n)
  stored_same Reach.Nowhere b v x o f = s
  stored_same (Reach.Reads w a) b v x o f = s
  stored_same (Reach.Writes w a) b v x o f = stored s each w a b v x (not-false _ o) f
  stored_same (Reach.Raises n) b v x o f = s

  each_same : (r : Reach) (b : Bool) (v : ℕ) → Covers (marked_to r b k) (stored_to r v m)
  each_same Reach.Nowhere b v = each
  each_same (Reach.Reads w a) b v = each
  each_same (Reach.Writes w a) b v = covers s each w a b v
  each_same (Reach.Raises n) b v = each

-- ---- an instruction

entry_same : {f : Flags} {a b : Control} (r : Reach) → SameControl f a b → entry_by r a ≡ entry_by r b
entry_same Reach.Nowhere s = refl
entry_same (Reach.Reads w a) s = watches s a
entry_same (Reach.Writes w a) s = watches s a
entry_same (Reach.Raises n) s = refl

entered_same : {f : Flags} {a b : Control} (r : Reach) → SameControl f a b → SameControl f (entered (entry_by r a) a) (entered (entry_by r b) b)
entered_same {f} {a} {b} r s = subst (λ (e : Entry). SameControl f (entered (entry_by r a) a) (entered e b)) (entry_same r s) (entries s (entry_by r a))

done_same : {f : Flags} {a b : Control} → SameControl f a b → (t : Taint) (r : Reach) {e g : Effect} → SameEffect t e g → SameDone (done_of a e t r) (done_of b g t r)
unfolding done_of
done_same s t r e =
    record {
      control =
          passes (entered_same r e.control) _ _ _ _ (ap₂ (λ (x y : Bool). x && not y) (bit_under s.psw 4 (lit≤ tt)) e.wrote)
          (ap₂ (λ (n : ℕ) (x : Entry). n + entry_cost x) e.cost (entry_same r e.control));
      flags = refl;
      reg = e.reg;
      mark = refl;
      value = e.value;
    }

line_same : {f g : Flags} {a b : Control} → SameControl f a b → (r : Reach) (e h : Effect) → SameControl g e.control h.control → line_of a e r ≡ line_of b h r
unfolding line_of
line_same s r e h c = ap₂ (λ (p : ℕ) (x : Entry). record { pc = record { 0 = p }; entry = x; address = data_of r }) (pc_same s) (entry_same r c)

does_by : {m : List ℕ} {e g : Effect} {t u : Taint} (r : Reach) (p : Option ByteAddr) → outside r m ≡ false → t ≡ u → SameEffect t e g → SameAct m (Act.Does e t r) p (Act.Does g u r) p
does_by {m} {e} {g} {t} r p o q s = subst (λ (v : Taint). SameAct m (Act.Does e t r) p (Act.Does g v r) p) q (does t r p o s)

-- "data outside" answers the same in both runs
choose : {m : List ℕ} {a b : Act} (p : Option ByteAddr) (t u : Bool) → t ≡ u → (t ≡ false → SameAct m a p b p)
    → SameAct m (cond t (Act.Halted Halt.DataOutside) a) p (cond u (Act.Halted Halt.DataOutside) b) p
choose p true true e s = misses p
choose p false false e s = s refl
choose p true false e s = let z : ◌≡◌ {A = ℕ} 0 1 = cc in absurd (omega arith)
choose p false true e s = let z : ◌≡◌ {A = ℕ} 0 1 = cc in absurd (omega arith)

module _ {km : List Bool} {ra rb : List ℕ} (regs : SameList false km ra rb) {f : Flags} {a b : Control} (s : SameControl f a b) {k : Marks} {m n : List ℕ} (mem : SameMem k m n)
    (each : Covers k m) where
  -- the two states
  abbrev one : State
  one = record { regs = ra; marks = km; flags = f; control = a }

  abbrev other : State
  other = record { regs = rb; marks = km; flags = f; control = b }

  act_same : (i : Instr) (x y : ℕ)
      → SameAct m (act_of i (value_at one x) (value_at one y) f a m k) (data_of (reach_of i (get_or ra y 0) a))
      (act_of i (value_at other x) (value_at other y) f b n k)
      (data_of (reach_of i (get_or rb y 0) b))
  unfolding act_of
  act_same i x y = go (blocked i my f) refl
    where
      mx : Bool
      mx = get_or km x false

      my : Bool
      my = get_or km y false

      first : Reach → Act
      first r =
          cond (outside r m) (Act.Halted Halt.DataOutside)
          (Act.Does (exec i (get_or ra x 0) (get_or ra y 0) (loaded_from r m) a) (taint i mx my (loaded_mark r k) (tf a) f) r)

      second : Reach → Act
      second r =
          cond (outside r n) (Act.Halted Halt.DataOutside)
          (Act.Does (exec i (get_or rb x 0) (get_or rb y 0) (loaded_from r n) b) (taint i mx my (loaded_mark r k) (tf b) f) r)

      at_reach : blocked i my f ≡ false → (r : Reach) → SameAct m (first r) (data_of r) (second r) (data_of r)
      at_reach h r =
          choose (data_of r) (outside r m) (outside r n) (outside_same mem r)
          (λ o. does_by r (data_of r) o (taint_same i mx my (loaded_mark r k) s)
          (exec_same i mx my (loaded_mark r k) _ _ _ _ _ _ (regs.equal x) (regs.equal y) (loaded_same mem r) s h))

      here : Reach
      here = reach_of i (get_or ra y 0) a

      there : Reach
      there = reach_of i (get_or rb y 0) b

      go : (t : Bool) → blocked i my f ≡ t
          → SameAct m (cond t (Act.Halted Halt.MarkedOperand) (first here)) (data_of here) (cond t (Act.Halted Halt.MarkedOperand) (second there)) (data_of there)
      go true h = marked (data_of here) (data_of there)
      go false h =
          subst (λ (r : Reach). SameAct m (first here) (data_of here) (second r) (data_of r)) (reach_same i my (get_or ra y 0) (get_or rb y 0) (regs.equal y) s h)
          (at_reach h here)

  -- ---- the step

  -- an entry, made on control parts that differ only where marked, with the program counter before the step
  enters_same : (e : Entry) (p : Option ByteAddr) {u v : Control} → SameControl f u v
      → SameStep (completed (entry_done e f u) m k (record { pc = pc_of a; entry = e; address = p })) (completed (entry_done e f v) n k (record { pc = pc_of b; entry = e; address = p }))
  unfolding entry_done
  enters_same e p {u} {v} r =
      subst
      (λ (z : ℕ). SameStep (completed (entry_done e f u) m k (record { pc = pc_of a; entry = e; address = p })) (completed (entry_done e f v) n k (record { pc = record { 0 = z }; entry = e; address = p })))
      (pc_same s)
      (goes _ (record { control = passes (entries r e) _ _ _ _ (bit_under r.psw 4 (lit≤ tt)) refl; flags = refl; reg = refl; mark = refl; value = λ h. refl }) mem each)

  halted : (h : Halt) (p : Option ByteAddr) → SameStep (halt_step h p f a m k) (halt_step h p f b n k)
  halted Halt.FetchOutside p = enters_same Entry.FetchError None s
  halted Halt.FetchMarked p = stops Reply.FetchMarked
  halted Halt.NoInstruction p = stops Reply.NoInstruction
  halted Halt.MarkedOperand p = stops Reply.MarkedOperand
  halted Halt.DataOutside p = enters_same Entry.DataError p (onwards s 2)

  acted : {A B : Act} {p q : Option ByteAddr} → SameAct m A p B q → (x : ℕ) → SameStep (act_step A p (value_at one x) f a m k) (act_step B q (value_at other x) f b n k)
  acted (marked p q) x = stops Reply.MarkedOperand
  acted (misses p) x = halted Halt.DataOutside p
  acted (does {e} {g} t r p o q) x =
      subst (λ (l : Line). SameStep (act_step (Act.Does e t r) p (value_at one x) f a m k) (completed (done_of b g t r) (stored_to r (get_or rb x 0) n) (marked_to r (get_or km x false) k) l))
      (line_same s r e g q.control)
      (goes (line_of a e r) (done_same s t r q) (stored_same mem each r _ _ _ o (regs.equal x)) (each_same mem each r _ _))

  fetched : (x : Result Instr Halt) → SameStep (fetch_step x one m k) (fetch_step x other n k)
  unfolding instr_step
  fetched (Err h) = halted h None
  fetched (Ok i) = acted (act_same i (sources_of i).first (sources_of i).second) (sources_of i).first

  happened : (v : Event) → SameStep (event_step v one m k) (event_step v other n k)
  happened (Event.Enter e) = enters_same e None s
  happened Event.Instruction =
      subst (λ (x : Result Instr Halt). SameStep (fetch_step (fetch_of (pc_of a) m k) one m k) (fetch_step x other n k))
      (ap (λ (p : ℕ). fetch_of (record { 0 = p }) m k) (pc_same s) ∙ fetch_same mem (pc_of b))
      (fetched (fetch_of (pc_of a) m k))

  pub step_same : (t : ℕ) → SameStep (step_of t one m k) (step_of t other n k)
  unfolding step_of
  step_same t =
      subst (λ (v : Event). SameStep (event_step (chosen t a) one m k) (event_step v other n k)) (chosen_same s t) (happened (chosen t a))
