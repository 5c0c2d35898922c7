-- Two runs, step after step: they end alike and show the same; they are refused alike.
-- Assumes nothing.
use Rattle.std.specs.Prelude.{Err, Ok, Result}
use Prim.Native.Nat.{ℕ, zero, suc, ◌+◌, ◌%◌}
use mathlib.Core.Path.{◌≡◌, refl, sym, ap, ap₂, subst, ◌∙◌}
use mathlib.Core.Bool.{Bool, true, false, cond, not, ◌&&◌, ◌||◌}
use mathlib.Core.List.{List, ◌∷◌}
use native.Mathlib.Omega.{arith}
use lib.Dec.{ltb, eqb, lit≤}
use lib.ListN.{length, get_or, set, take, length-set}
use Rattle.word.specs.Bits.{field_of}
use Rattle.word.specs.Bytes.{any_above}
use Rattle.cpu.specs.Control.{with_sfr}
use Rattle.cpu.specs.declared.Control.{Control}
use Rattle.marks.specs.Memory.{Marks, bad_room, bad_mark}
use Rattle.marks.specs.declared.Flags.{Flags}
use Rattle.instruction.specs.declared.Reply.{Reply}
use Rattle.machine.specs.State.{out_of_form}
use Rattle.machine.specs.Step.{Stepped, step_of, after}
use Rattle.machine.specs.Run.{Final, bad_length, judge, go_on, steps_of, judged, run_of}
use Rattle.machine.specs.Trace.{Shown, trace_on, trace_of, shown, shown_of}
use Rattle.machine.specs.declared.State.{State}
use Rattle.machine.specs.declared.Done.{Done}
use Rattle.marks.proofs.Places.{room_has}
use Rattle.secrecy.specs.Same.{SameControl, SameList, SameMem, Same, SameFinal}
use Rattle.secrecy.proofs.Psw.{bit_over}
use Rattle.secrecy.proofs.Memory.{set_same, Covers}
use Rattle.secrecy.proofs.Control.{cycles_same}
use Rattle.secrecy.proofs.Step.{SameDone, SameStep, stops, goes, step_same}

-- ---- one step, of states with equal marks

-- c with the marks of a, which it has already
abbrev like : State → State → State
like a c = record { regs = c.regs; marks = a.marks; flags = a.flags; control = c.control }

is_like : (a c : State) → Same a c → like a c ≡ c
is_like a c s = ap₂ (λ (k : List Bool) (f : Flags). record { regs = c.regs; marks = k; flags = f; control = c.control }) s.marks s.flags

stepped : {a c : State} → Same a c → {k : Marks} {m n : List ℕ} → SameMem k m n → Covers k m → (t : ℕ) → SameStep (step_of t a m k) (step_of t c n k)
stepped {a} {c} s {k} {m} {n} mem each t =
    subst (λ (x : State). SameStep (step_of t a m k) (step_of t x n k)) (is_like a c s) (step_same s.regs s.control mem each t)

after_regs : {k : List Bool} {a b : List ℕ} → SameList false k a b → length a ≡ length k → {d e : Done} → SameDone d e
    → SameList false (set k d.reg d.mark) (set a d.reg d.value) (set b e.reg e.value)
after_regs {k} {a} {b} s each {d} {e} w =
    subst (λ (i : ℕ). SameList false (set k d.reg d.mark) (set a d.reg d.value) (set b i e.value)) w.reg
    (set_same s each d.reg d.mark d.value e.value w.value)

after_marks : {k l : List Bool} → k ≡ l → {d e : Done} → SameDone d e → set k d.reg d.mark ≡ set l e.reg e.mark
after_marks {k} {l} p {d} {e} w =
    ap (λ (x : List Bool). set x d.reg d.mark) p ∙ ap₂ (λ (i : ℕ) (m : Bool). set l i m) w.reg w.mark

after_same : {a c : State} → Same a c → {d e : Done} → SameDone d e → Same (after d a) (after e c)
unfolding after
after_same {a} {c} s {d} {e} w =
    record {
      marks = after_marks s.marks w;
      flags = w.flags;
      each = length-set a.regs d.reg d.value ∙ s.each ∙ sym (length-set a.marks d.reg d.mark);
      regs = after_regs s.regs s.each w;
      control = w.control;
    }

-- ---- the steps

go_on_lem : (rest : State → List ℕ → Marks → Final)
    → ((x y : State) (p q : List ℕ) (l : Marks) → Same x y → SameMem l p q → Covers l p → SameFinal (rest x p l) (rest y q l))
    → (i : ℕ) {a c : State} → Same a c → {m n : List ℕ} {k : Marks} → SameMem k m n → {u v : Stepped} → SameStep u v
    → SameFinal (go_on rest i a m k u) (go_on rest i c n k v)
unfolding go_on
go_on_lem rest ih i s mem (stops r) = record { reply = refl; steps = refl; cycles = cycles_same s.control; state = s; marks = refl; mem = mem }
go_on_lem rest ih i s mem (goes x w h each) = ih _ _ _ _ _ (after_same s w) h each

pub steps_same : (b i : ℕ) (t : List ℕ) (a c : State) (m n : List ℕ) (k : Marks) → Same a c → SameMem k m n → Covers k m
    → SameFinal (steps_of b i t a m k) (steps_of b i t c n k)
unfolding steps_of
steps_same zero i t a c m n k s mem each = record { reply = refl; steps = refl; cycles = cycles_same s.control; state = s; marks = refl; mem = mem }
steps_same (suc b) i t a c m n k s mem each =
    go_on_lem (steps_of b (i + 1) t) (steps_same b (i + 1) t) i s mem (stepped s mem each (get_or t i 0))

trace_on_lem : (rest : State → List ℕ → Marks → List Shown)
    → ((x y : State) (p q : List ℕ) (l : Marks) → Same x y → SameMem l p q → Covers l p → rest x p l ≡ rest y q l)
    → {a c : State} → Same a c → {u v : Stepped} → SameStep u v → trace_on rest a u ≡ trace_on rest c v
unfolding trace_on
trace_on_lem rest ih s (stops r) = refl
trace_on_lem rest ih s (goes x w h each) =
    ap₂ (λ (n : ℕ) (l : List Shown). record { line = x; cycles = n } ∷ l) (cycles_same w.control) (ih _ _ _ _ _ (after_same s w) h each)

pub trace_same : (b i : ℕ) (t : List ℕ) (a c : State) (m n : List ℕ) (k : Marks) → Same a c → SameMem k m n → Covers k m
    → trace_of b i t a m k ≡ trace_of b i t c n k
unfolding trace_of
trace_same zero i t a c m n k s mem each = refl
trace_same (suc b) i t a c m n k s mem each =
    trace_on_lem (trace_of b (i + 1) t) (trace_same b (i + 1) t) s (stepped s mem each (get_or t i 0))

-- ---- refusals

form_same : {f : Flags} {a b : Control} → SameControl f a b → out_of_form a ≡ out_of_form b
unfolding out_of_form with_sfr
form_same s =
    ap₂ (λ (c : Control) (x : Bool).
    eqb (c.pc % 2) 1 || x || not (eqb (field_of c.hwdbg 0 2) 3) || ltb 511 c.hwdbg || (c.pending && ltb 0 c.timer))
    s.rest
    (bit_over s.psw 12 (lit≤ tt))

pub judge_same : (b : ℕ) (t : List ℕ) {a c : State} {m n : List ℕ} {k : Marks} → Same a c → SameMem k m n → judge b t a m k ≡ judge b t c n k
unfolding judge
judge_same b t {k = k} s mem =
    ap₂ (λ (l : ℕ) (x : Bool).
    cond (bad_length l) (Err Reply.MemoryLength)
    (cond (bad_room l k) (Err Reply.MarkLength)
    (cond (bad_mark l k) (Err Reply.MarkPastEnd)
    (cond x (Err Reply.Form)
    (cond (ltb (length t) b) (Err Reply.TapeLength)
    (cond (any_above 63 (take b t)) (Err Reply.TapeByte)
    (Ok tt)))))))
    mem.long
    (form_same s.control)

-- what is not refused: each byte has a mark
measured : (u w : Bool) (r q : Reply) (x : Result Unit Reply) → cond u (Err r) (cond w (Err q) x) ≡ Ok tt → w ≡ false
measured true w r q x e = let z : ◌≡◌ {A = ℕ} 0 1 = cc in absurd (omega arith)
measured false true r q x e = let z : ◌≡◌ {A = ℕ} 0 1 = cc in absurd (omega arith)
measured false false r q x e = refl

judged_each : (b : ℕ) (t : List ℕ) (a : State) (m : List ℕ) (k : Marks) → judge b t a m k ≡ Ok tt → Covers k m
unfolding judge
judged_each b t a m k e = room_has (length m) k (measured (bad_length (length m)) (bad_room (length m) k) Reply.MemoryLength Reply.MarkLength _ e)

-- ---- the runs

module _ (b : ℕ) (t : List ℕ) (a c : State) (m n : List ℕ) (k : Marks) (s : Same a c) (mem : SameMem k m n) where
  pub ends_same : SameFinal (run_of b t a m k) (run_of b t c n k)
  unfolding run_of
  ends_same =
      subst (λ (j : Result Unit Reply). SameFinal (judged (judge b t a m k) b t a m k) (judged j b t c n k)) (judge_same b t s mem) (go (judge b t a m k) refl)
    where
      go : (j : Result Unit Reply) → judge b t a m k ≡ j → SameFinal (judged j b t a m k) (judged j b t c n k)
      go (Err r) e = record { reply = refl; steps = refl; cycles = cycles_same s.control; state = s; marks = refl; mem = mem }
      go (Ok _) e = steps_same b 0 t a c m n k s mem (judged_each b t a m k e)

  pub shown_same : shown_of b t a m k ≡ shown_of b t c n k
  unfolding shown_of
  shown_same = go (judge b t a m k) refl ∙ ap (λ (j : Result Unit Reply). shown j b t c n k) (judge_same b t s mem)
    where
      go : (j : Result Unit Reply) → judge b t a m k ≡ j → shown j b t a m k ≡ shown j b t c n k
      go (Err r) e = refl
      go (Ok _) e = trace_same b 0 t a c m n k s mem (judged_each b t a m k e)
