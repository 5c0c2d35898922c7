-- The cycle count rises by a step's cost: neither an instruction nor an entry changes it otherwise.
-- Assumes nothing.
use Prim.Native.Nat.{ℕ, ◌+◌, ◌%◌, ◌^◌}
use mathlib.Core.Path.{◌≡◌, refl, ap, ◌∙◌}
use mathlib.Core.Bool.{Bool, true, false, cond}
use mathlib.Core.List.{List}
use lib.Dec.{eqb}
use Rattle.word.specs.declared.HalfDisp.{HalfDisp}
use Rattle.isa.specs.declared.AluOp.{AluOp}
use Rattle.isa.specs.declared.ShortOp.{ShortOp}
use Rattle.isa.specs.declared.LongOp.{LongOp}
use Rattle.isa.specs.declared.Instr.{Instr}
use Rattle.cpu.specs.Control.{with_pc, with_sfr, with_pending, with_cycles, wants}
use Rattle.cpu.specs.Entries.{enter, entered, passed}
use Rattle.cpu.specs.Cycles.{entry_cost}
use Rattle.cpu.specs.Exec.{onward, go_to, linked, jump, branch, short_jump, long_jump, carried, accepted, timer_written, written, leave, makes, exec}
use Rattle.cpu.specs.declared.Control.{Control}
use Rattle.cpu.specs.declared.Entry.{Entry}
use Rattle.marks.specs.Memory.{Marks}
use Rattle.machine.specs.declared.State.{State}
use Rattle.machine.specs.declared.Done.{Done}
use Rattle.machine.specs.declared.Line.{Line}
use Rattle.laws.specs.Shows.{effect_in, Shows, by_choice, by_instruction, by_fetch, by_data, cost_in}

entry_counts : (e : Entry) (c : Control) → (entered e c).cycles ≡ c.cycles
unfolding entered enter with_pc with_sfr with_pending
entry_counts Entry.Nothing c = refl
entry_counts (Entry.Swint n) c = refl
entry_counts (Entry.Debug hit) c = refl
entry_counts Entry.Timer c = refl
entry_counts (Entry.External i) c = refl
entry_counts Entry.FetchError c = refl
entry_counts Entry.DataError c = refl

-- two control parts with the same count
pick : (t : Bool) (a b : Control) (n : ℕ) → a.cycles ≡ n → b.cycles ≡ n → (cond t a b).cycles ≡ n
pick true a b n p q = p
pick false a b n p q = q

module _ (c : Control) where
  carries : (op : AluOp) (x y : ℕ) → (carried op x y c).cycles ≡ c.cycles
  unfolding carried with_sfr
  carries AluOp.Sub x y = refl
  carries AluOp.Add x y = refl
  carries AluOp.Subc x y = refl
  carries AluOp.Addc x y = refl
  carries AluOp.Mov x y = refl
  carries AluOp.And x y = refl
  carries AluOp.Or x y = refl
  carries AluOp.Xor x y = refl
  carries AluOp.Sxb x y = refl
  carries AluOp.Xhw x y = refl
  carries AluOp.Sxh x y = refl
  carries AluOp.Zxh x y = refl
  carries AluOp.Lsl x y = refl
  carries AluOp.Lsr x y = refl
  carries AluOp.Asr x y = refl
  carries AluOp.Mult x y = refl

  branches : (t : Bool) (d : HalfDisp) (n : ℕ) → (branch t d n c).cycles ≡ c.cycles
  unfolding branch jump onward with_pc
  branches t d n = pick (wants t c) (jump d c) (onward n c) c.cycles refl refl

  short_jumps : (op : ShortOp) (d : HalfDisp) → (short_jump op d c).cycles ≡ c.cycles
  unfolding jump with_pc
  short_jumps ShortOp.Sjf d = branches false d 2
  short_jumps ShortOp.Sjt d = branches true d 2
  short_jumps ShortOp.Sj d = refl

  long_jumps : (op : LongOp) (d : HalfDisp) → (long_jump op d c).cycles ≡ c.cycles
  unfolding jump linked with_pc with_sfr
  long_jumps LongOp.Jf d = branches false d 4
  long_jumps LongOp.Jt d = branches true d 4
  long_jumps LongOp.J d = refl
  long_jumps LongOp.Jl d = refl

  writes : (n v : ℕ) → (written n v c).cycles ≡ c.cycles
  unfolding written timer_written with_sfr with_pending
  writes n v =
      pick (eqb n 0) _ _ c.cycles refl
      (pick (eqb n 3) _ _ c.cycles (pick (accepted c) _ _ c.cycles refl refl)
      (pick (eqb n 6) _ _ c.cycles refl refl))

  leaves : (n : ℕ) → (leave n c).cycles ≡ c.cycles
  unfolding leave with_sfr
  leaves n = pick (eqb n 2) _ _ c.cycles refl refl

  pub executes : (i : Instr) (x y v : ℕ) → (exec i x y v c).control.cycles ≡ c.cycles
  unfolding exec makes onward go_to linked with_pc with_sfr
  executes (Instr.Alu op d b) x y v = carries op x y
  executes (Instr.ShiftImm op d n) x y v = refl
  executes (Instr.Cmp op d b) x y v = refl
  executes (Instr.CmpImm op d n) x y v = refl
  executes (Instr.Cond op t d b) x y v = refl
  executes (Instr.CondImm t d n) x y v = refl
  executes (Instr.Ldrpc d n) x y v = refl
  executes (Instr.Imm op d n) x y v = refl
  executes (Instr.Load w d n b) x y v = refl
  executes (Instr.Store w d n b) x y v = refl
  executes (Instr.Mfsfr d n) x y v = refl
  executes (Instr.Mtsfr n b) x y v = writes n y
  executes (Instr.Jr b) x y v = refl
  executes (Instr.Jrl b) x y v = refl
  executes (Instr.Jsfr n) x y v = leaves n
  executes (Instr.Swint n) x y v = refl
  executes (Instr.ShortJump op d) x y v = short_jumps op d
  executes (Instr.LongJump op d) x y v = long_jumps op d

passes : (te : Bool) (n : ℕ) (e : Entry) (c u : Control) → c.cycles ≡ u.cycles → (passed te n (entered e c)).cycles ≡ (u.cycles + n) % 2 ^ 32
unfolding passed with_cycles
passes te n e c u p = ap (λ (x : ℕ). (x + n) % 2 ^ 32) (entry_counts e c ∙ p)

pub counts : {t : ℕ} {s : State} {m : List ℕ} {k : Marks} {d : Done} {x : Line} (p : Shows t s m k d x) → d.control.cycles ≡ (s.control.cycles + cost_in p) % 2 ^ 32
unfolding onward with_pc
counts {s = s} {x = x} (by_choice c a e) = ap (λ (u : Control). u.cycles) e ∙ passes _ (entry_cost x.entry) x.entry s.control s.control refl
counts {s = s} {m = m} {x = x} (by_instruction i c f o a e) =
    ap (λ (u : Control). u.cycles) e ∙ passes _ ((effect_in i s m).cost + entry_cost x.entry) x.entry (effect_in i s m).control s.control (executes s.control i _ _ _)
counts {s = s} (by_fetch c f n a e) = ap (λ (u : Control). u.cycles) e ∙ passes _ 4 Entry.FetchError s.control s.control refl
counts {s = s} (by_data i c f o n a e) = ap (λ (u : Control). u.cycles) e ∙ passes _ 4 Entry.DataError _ s.control refl
