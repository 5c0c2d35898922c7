-- Every step keeps a state in form; the program counter never becomes odd.
-- Assumes nothing.
use Rattle.std.specs.Prelude.{Err, None, Ok, Option, Result}
use Prim.Native.Nat.{ℕ, ◌+◌, ◌-◌, ◌/◌, ◌%◌, ◌^◌, ◌<◌, ◌≤◌}
use mathlib.Core.Path.{◌≡◌, refl, ap, ◌∙◌}
use mathlib.Core.Bool.{Bool, true, false, cond, not, ◌&&◌, ◌||◌}
use mathlib.Core.List.{List}
use native.Mathlib.Omega.{arith}
use native.Mathlib.Nat.{mod-mod}
use lib.Dec.{ltb, eqb, leb, lit≤, lit<}
use borrow.Author.Tests.{leb-true}
use Rattle.word.specs.Bits.{num, on, field_of, put, with_field, with_bit}
use Rattle.word.specs.Numbers.{lsl_of, carry_of, borrow_of}
use Rattle.word.specs.Addresses.{jump_sum, byte_sum}
use Rattle.word.specs.declared.ByteAddr.{ByteAddr}
use Rattle.word.specs.declared.HalfDisp.{HalfDisp}
use Rattle.word.proofs.Fields.{kept_above, kept_below, read_back, put_lt}
use Rattle.isa.specs.declared.AluOp.{AluOp}
use Rattle.isa.specs.declared.ShortOp.{ShortOp}
use Rattle.isa.specs.declared.LongOp.{LongOp}
use Rattle.isa.specs.declared.Instr.{Instr}
use Rattle.cpu.specs.Control.{pc_of, with_pc, with_sfr, with_psw, with_hwdbg, with_pending, with_timer, with_cycles, with_tf, tf, cy, wants, sfr_of}
use Rattle.cpu.specs.Entries.{vector, enter, entered, fallen, passed}
use Rattle.cpu.specs.Exec.{onward, go_to, linked, jump, branch, short_jump, long_jump, carried, cmp_of, cmp_imm_of, accepted, timer_written, psw_written, written, leave, makes, exec, sources_of}
use Rattle.cpu.specs.Cycles.{cost_of, entry_cost}
use Rattle.cpu.specs.declared.Control.{Control}
use Rattle.cpu.specs.declared.Effect.{Effect}
use Rattle.cpu.specs.declared.Entry.{Entry}
use Rattle.marks.specs.Marks.{taint, blocked}
use Rattle.marks.specs.Memory.{Marks}
use Rattle.marks.specs.declared.Flags.{Flags}
use Rattle.marks.specs.declared.Taint.{Taint}
use Rattle.instruction.specs.Fetch.{fetch_of}
use Rattle.instruction.specs.Act.{reach_of, outside, loaded_from, loaded_mark, act_of}
use Rattle.instruction.specs.declared.Val.{Val}
use Rattle.instruction.specs.declared.Halt.{Halt}
use Rattle.instruction.specs.declared.Reach.{Reach}
use Rattle.instruction.specs.declared.Act.{Act}
use Rattle.machine.specs.State.{value_at}
use Rattle.machine.specs.Step.{Stepped, stopped, completed, chosen, entry_by, entry_done, done_of, halt_step, act_step, instr_step, fetch_step, event_step, step_of, after}
use Rattle.machine.specs.Run.{run_of}
use Rattle.machine.specs.declared.State.{State}
use Rattle.machine.specs.declared.Event.{Event}
use Rattle.laws.specs.Form.{Form}
use Rattle.laws.proofs.Every.{After, run_every}

module _ (c : Control) (f : Form c) where
  -- one place
  pc : (a : ByteAddr) → a.0 % 2 ≡ 0 → Form (with_pc c a)
  unfolding with_pc
  pc a e = record { even = e; twelve = f.twelve; fixed = f.fixed; high = f.high; late = f.late }

  psw : (x : ℕ) → on x 12 ≡ false → Form (with_psw c x)
  unfolding with_sfr
  psw x e = record { even = f.even; twelve = e; fixed = f.fixed; high = f.high; late = f.late }

  hwdbg : (x : ℕ) → field_of x 0 2 ≡ 3 → x < 2 ^ 9 → Form (with_hwdbg c x)
  unfolding with_sfr
  hwdbg x e l = record { even = f.even; twelve = f.twelve; fixed = e; high = l; late = f.late }

  timer : (x : ℕ) (b : Bool) → (b ≡ true → x ≡ 0) → Form (with_timer c x b)
  unfolding with_sfr with_pending
  timer x b e = record { even = f.even; twelve = f.twelve; fixed = f.fixed; high = f.high; late = e }

  pending : Form (with_pending c false)
  unfolding with_pending
  pending =
      record {
        even = f.even;
        twelve = f.twelve;
        fixed = f.fixed;
        high = f.high;
        late = λ (e : false ≡ true). let z : ◌≡◌ {A = ℕ} 0 1 = cc in absurd (omega arith);
      }

  -- an SFR that Form does not look at
  other : (n x : ℕ) → eqb n 0 ≡ false → eqb n 3 ≡ false → eqb n 6 ≡ false → Form (with_sfr n c x)
  unfolding with_sfr
  other n x p t h =
      record {
        even = f.even;
        twelve = rw p f.twelve;
        fixed = rw h f.fixed;
        high = rw h f.high;
        late = λ e. rw t (f.late e);
      }

-- a field of PSW that ends below bit 12, or starts above it
under : (p i w v : ℕ) → i + w ≤ 12 → on p 12 ≡ false → on (put p i w v) 12 ≡ false
under p i w v h e = ap (λ (n : ℕ). eqb n 1) (kept_above p i w v 12 1 h) ∙ e

over : (p i w v : ℕ) → 13 ≤ i → on p 12 ≡ false → on (put p i w v) 12 ≡ false
over p i w v h e = ap (λ (n : ℕ). eqb n 1) (kept_below p i w v 12 1 h) ∙ e

-- an entry's vector is even
opened : (p v : ℕ) → v % 2 ≡ 0 → v < 256 → put p 0 8 v % 2 ≡ 0
unfolding put
opened p v e l = omega arith

module _ (c : Control) (f : Form c) where
  -- a field of HWDBG within bits 2 to 8
  debug_bits : (i w v : ℕ) → 2 ≤ i → i + w ≤ 9 → Form (with_hwdbg c (put c.hwdbg i w v))
  debug_bits i w v a b =
      hwdbg c f _ (kept_below c.hwdbg i w v 0 2 a ∙ f.fixed) (put_lt 9 c.hwdbg i w v b f.high)

  bit : (i : ℕ) (b : Bool) → i + 1 ≤ 12 → Form (with_psw c (put c.psw i 1 (num b)))
  bit i b h = psw c f _ (under c.psw i 1 (num b) h f.twelve)

  -- the two bits that an entry or a return writes
  two_bits : (i j : ℕ) (a b : Bool) → i + 1 ≤ 12 → j + 1 ≤ 12 → Form (with_psw c (put (put c.psw i 1 (num a)) j 1 (num b)))
  two_bits i j a b h l = psw c f _ (under (put c.psw i 1 (num a)) j 1 (num b) l (under c.psw i 1 (num a) h f.twelve))

  enters : (low : ℕ) → low % 2 ≡ 0 → low < 256 → Form (enter low c)
  unfolding enter
  enters low e l =
      pc
      _
      (other _ (two_bits 6 3 (on c.psw 3) true (lit≤ tt) (lit≤ tt)) 2 c.pc refl refl refl)
      (vector low c)
      (opened c.ibase low e l)

  onwards : (n : ℕ) → n % 2 ≡ 0 → Form (onward n c)
  unfolding onward
  onwards n e = pc c f (byte_sum (pc_of c) n) (let g = f.even in omega arith)

  goes : (a : ℕ) → Form (go_to a c)
  unfolding go_to
  goes a = pc c f _ (omega arith)

  links : Form (linked c)
  unfolding linked
  links = other c f 1 (byte_sum (pc_of c) 4).0 refl refl refl

  jumps : (d : HalfDisp) → Form (jump d c)
  unfolding jump
  jumps d = pc c f (jump_sum (pc_of c) d) (let g = f.even in omega arith)

  falls : (te : Bool) (n : ℕ) → Form (fallen te n c)
  unfolding fallen
  falls te n = go (te && ltb 0 c.timer) (ltb 0 c.timer) refl
    where
      late : (b : Bool) (x : ℕ) → (b ≡ true → x ≡ 0) → (b || leb x n) ≡ true → x - n ≡ 0
      late true x l e = let q = l refl in omega arith
      late false x l e = let q = leb-true x n e in omega arith

      go : (t u : Bool) → ltb 0 c.timer ≡ u → Form (cond t (with_timer c (c.timer - n) (c.pending || leb c.timer n)) c)
      go true u e = timer c f _ _ (late c.pending c.timer f.late)
      go false u e = f

  cycles : (n : ℕ) → Form (with_cycles c n)
  unfolding with_cycles
  cycles n = record { even = f.even; twelve = f.twelve; fixed = f.fixed; high = f.high; late = f.late }

passes : (c : Control) → Form c → (te : Bool) (n : ℕ) → Form (passed te n c)
unfolding passed
passes c f te n = cycles (fallen te n c) (falls c f te n) _

-- every entry
pub entries : (e : Entry) (c : Control) → Form c → Form (entered e c)
unfolding entered with_sfr
entries Entry.Nothing c f = f
entries (Entry.Swint n) c f =
    enters _ (psw c f _ (under (put c.psw 16 4 n) 0 1 1 (lit≤ tt) (over c.psw 16 4 n (lit≤ tt) f.twelve))) 4 refl (lit< tt)
entries (Entry.Debug hit) c f =
    enters _
    (debug_bits _ (psw c f _ (under (put c.psw 16 4 15) 0 1 0 (lit≤ tt) (over c.psw 16 4 15 (lit≤ tt) f.twelve))) 6 3 hit (lit≤ tt) (lit≤ tt))
    4
    refl
    (lit< tt)
entries Entry.Timer c f = enters _ (pending _ (bit c f 2 true (lit≤ tt))) 8 refl (lit< tt)
entries (Entry.External i) c f =
    enters _ (psw c f _ (under (put c.psw 26 6 (lsl_of 1 i)) 1 1 1 (lit≤ tt) (over c.psw 26 6 (lsl_of 1 i) (lit≤ tt) f.twelve))) 12 refl (lit< tt)
entries Entry.FetchError c f = enters _ (psw c f _ (over c.psw 15 1 1 (lit≤ tt) f.twelve)) 16 refl (lit< tt)
entries Entry.DataError c f = enters _ (psw c f _ (over c.psw 14 1 1 (lit≤ tt) f.twelve)) 16 refl (lit< tt)

-- what instructions do to the control part
module _ (c : Control) (f : Form c) where
  branches : (t : Bool) (d : HalfDisp) (n : ℕ) → n % 2 ≡ 0 → Form (branch t d n c)
  unfolding branch
  branches t d n e = go (wants t c)
    where
      go : (u : Bool) → Form (cond u (jump d c) (onward n c))
      go true = jumps c f d
      go false = onwards c f n e

  leaves : (n : ℕ) → Form (leave n c)
  unfolding leave
  leaves n = go (eqb n 2)
    where
      go : (t : Bool) → Form (cond t (with_psw c (with_bit (with_bit c.psw 3 (on c.psw 6)) 6 false)) c)
      go true = two_bits c f 3 6 (on c.psw 6) false (lit≤ tt) (lit≤ tt)
      go false = f

  kept_psw : (v : ℕ) → on (psw_written c.psw v) 12 ≡ false
  unfolding psw_written
  kept_psw v =
      let p : ℕ = c.psw in
      over (put v 12 1 (field_of p 12 1)) 26 6 (field_of p 26 6) (lit≤ tt)
      (ap (λ (n : ℕ). eqb n 1) (read_back v 12 1 (field_of p 12 1) ∙ mod-mod (p / 2 ^ 12) (2 ^ 1)) ∙ f.twelve)

  timed : (v : ℕ) → Form (timer_written v c)
  unfolding timer_written
  timed v = go (accepted c)
    where
      go : (t : Bool) → Form (cond t (with_timer c v false) c)
      go true = timer c f v false (λ (e : false ≡ true). let z : ◌≡◌ {A = ℕ} 0 1 = cc in absurd (omega arith))
      go false = f

  writes : (n v : ℕ) → Form (written n v c)
  unfolding written
  writes n v = go (eqb n 0) (eqb n 3) (eqb n 6) refl refl refl
    where
      go : (p t h : Bool) → eqb n 0 ≡ p → eqb n 3 ≡ t → eqb n 6 ≡ h
          → Form (cond p (with_psw c (psw_written c.psw v))
          (cond t (timer_written v c) (cond h (with_hwdbg c (with_field c.hwdbg 2 4 (field_of v 2 4))) (with_sfr n c v))))
      go true t h x y z = psw c f _ (kept_psw v)
      go false true h x y z = timed v
      go false false true x y z = debug_bits c f 2 4 (field_of v 2 4) (lit≤ tt) (lit≤ tt)
      go false false false x y z = other c f n v x y z

  carries : (op : AluOp) (x y : ℕ) → Form (carried op x y c)
  unfolding carried
  carries AluOp.Sub x y = bit c f 9 (borrow_of x y false) (lit≤ tt)
  carries AluOp.Add x y = bit c f 9 (carry_of x y false) (lit≤ tt)
  carries AluOp.Subc x y = bit c f 9 (borrow_of x y (cy c)) (lit≤ tt)
  carries AluOp.Addc x y = bit c f 9 (carry_of x y (cy c)) (lit≤ tt)
  carries AluOp.Mov x y = f
  carries AluOp.And x y = f
  carries AluOp.Or x y = f
  carries AluOp.Xor x y = f
  carries AluOp.Sxb x y = f
  carries AluOp.Xhw x y = f
  carries AluOp.Sxh x y = f
  carries AluOp.Zxh x y = f
  carries AluOp.Lsl x y = f
  carries AluOp.Lsr x y = f
  carries AluOp.Asr x y = f
  carries AluOp.Mult x y = f

  short_jumps : (op : ShortOp) (d : HalfDisp) → Form (short_jump op d c)
  short_jumps ShortOp.Sjf d = branches false d 2 refl
  short_jumps ShortOp.Sjt d = branches true d 2 refl
  short_jumps ShortOp.Sj d = jumps c f d

  long_jumps : (op : LongOp) (d : HalfDisp) → Form (long_jump op d c)
  long_jumps LongOp.Jf d = branches false d 4 refl
  long_jumps LongOp.Jt d = branches true d 4 refl
  long_jumps LongOp.J d = jumps c f d
  long_jumps LongOp.Jl d = jumps (linked c) (links c f) d

  pub executes : (i : Instr) (x y v : ℕ) → Form (exec i x y v c).control
  unfolding exec makes cost_of
  executes (Instr.Alu op d b) x y v = onwards (carried op x y c) (carries op x y) 2 refl
  executes (Instr.ShiftImm op d n) x y v = onwards c f 2 refl
  executes (Instr.Cmp op d b) x y v = onwards (with_tf c (cmp_of op x y)) (bit c f 8 (cmp_of op x y) (lit≤ tt)) 2 refl
  executes (Instr.CmpImm op d n) x y v = onwards (with_tf c (cmp_imm_of op x n)) (bit c f 8 (cmp_imm_of op x n) (lit≤ tt)) 2 refl
  executes (Instr.Cond op t d b) x y v = onwards c f 2 refl
  executes (Instr.CondImm t d n) x y v = onwards c f 2 refl
  executes (Instr.Ldrpc d n) x y v = onwards c f 2 refl
  executes (Instr.Imm op d n) x y v = onwards c f 2 refl
  executes (Instr.Load w d n b) x y v = onwards c f 2 refl
  executes (Instr.Store w d n b) x y v = onwards c f 2 refl
  executes (Instr.Mfsfr d n) x y v = onwards c f 2 refl
  executes (Instr.Mtsfr n b) x y v = onwards (written n y c) (writes n y) 2 refl
  executes (Instr.Jr b) x y v = goes c f y
  executes (Instr.Jrl b) x y v = goes (linked c) (links c f) y
  executes (Instr.Jsfr n) x y v = goes (leave n c) (leaves n) (sfr_of n c)
  executes (Instr.Swint n) x y v = onwards c f 2 refl
  executes (Instr.ShortJump op d) x y v = short_jumps op d
  executes (Instr.LongJump op d) x y v = long_jumps op d

-- every step: what it makes is in form if it completes
abbrev Kept : Stepped → Type 0
Kept (stopped r) = Unit {0}
Kept (completed d m k x) = Form d.control

enters_kept : (e : Entry) (f : Flags) (c : Control) → Form c → Form (entry_done e f c).control
unfolding entry_done
enters_kept e f c g = passes _ (entries e c g) (on c.psw 4) (entry_cost e)

halt_keeps : (h : Halt) (a : Option ByteAddr) (f : Flags) (c : Control) (m : List ℕ) (k : Marks) → Form c → Kept (halt_step h a f c m k)
halt_keeps Halt.FetchOutside a f c m k g = enters_kept Entry.FetchError f c g
halt_keeps Halt.FetchMarked a f c m k g = tt
halt_keeps Halt.NoInstruction a f c m k g = tt
halt_keeps Halt.MarkedOperand a f c m k g = tt
halt_keeps Halt.DataOutside a f c m k g = enters_kept Entry.DataError f (onward 2 c) (onwards c g 2 refl)

acted : (t u : Bool) (p q : Halt) (e : Effect) (n : Taint) (r : Reach) (a : Option ByteAddr) (x : Val) (f : Flags) (c : Control) (m : List ℕ) (k : Marks) → Form c → Form e.control
    → Kept (act_step (cond t (Act.Halted p) (cond u (Act.Halted q) (Act.Does e n r))) a x f c m k)
unfolding done_of
acted true u p q e n r a x f c m k i g = halt_keeps p a f c m k i
acted false true p q e n r a x f c m k i g = halt_keeps q a f c m k i
acted false false p q e n r a x f c m k i g =
    passes (entered (entry_by r e.control) e.control) (entries (entry_by r e.control) e.control g) (on c.psw 4 && not e.wrote)
    (e.cost + entry_cost (entry_by r e.control))

acts : (i : Instr) (a : Option ByteAddr) (x y : Val) (f : Flags) (c : Control) (m : List ℕ) (k : Marks) → Form c → Kept (act_step (act_of i x y f c m k) a x f c m k)
unfolding act_of
acts i a x y f c m k g =
    let r : Reach = reach_of i y.value c in
    acted (blocked i y.mark f) (outside r m) Halt.MarkedOperand Halt.DataOutside
    (exec i x.value y.value (loaded_from r m) c)
    (taint i x.mark y.mark (loaded_mark r k) (tf c) f)
    r
    a
    x
    f
    c
    m
    k
    g
    (executes c g i x.value y.value (loaded_from r m))

fetches : (x : Result Instr Halt) (s : State) (m : List ℕ) (k : Marks) → Form s.control → Kept (fetch_step x s m k)
unfolding instr_step
fetches (Err h) s m k f = halt_keeps h None s.flags s.control m k f
fetches (Ok i) s m k f = acts i _ (value_at s (sources_of i).first) (value_at s (sources_of i).second) s.flags s.control m k f

event_keeps : (v : Event) (s : State) (m : List ℕ) (k : Marks) → Form s.control → Kept (event_step v s m k)
event_keeps (Event.Enter e) s m k f = enters_kept e s.flags s.control f
event_keeps Event.Instruction s m k f = fetches (fetch_of (pc_of s.control) m k) s m k f

step_keeps : (t : ℕ) (s : State) (m : List ℕ) (k : Marks) → Form s.control → Kept (step_of t s m k)
unfolding step_of
step_keeps t s m k f = event_keeps (chosen t s.control) s m k f

-- so every run does
pub run_keeps : (b : ℕ) (t : List ℕ) (s : State) (m : List ℕ) (k : Marks) → Form s.control → Form (run_of b t s m k).ended.state.control
unfolding after
run_keeps b t s m k f = run_every (λ (u : State). Form u.control) (λ i u l j g. go u (step_of i u l j) (step_keeps i u l j g)) b t s m k f
  where
    go : (u : State) (x : Stepped) → Kept x → After (λ (v : State). Form v.control) u x
    go u (stopped r) h = tt
    go u (completed d l j x) h = h
