-- A state that is read has sixteen registers and marks, and a run keeps their number.
-- Assumes nothing.
use Prim.Native.Nat.{ℕ}
use mathlib.Core.Path.{◌≡◌, refl, ◌∙◌}
use mathlib.Core.List.{List}
use lib.ListN.{length, length-set}
use Rattle.marks.specs.Memory.{Marks}
use Rattle.machine.specs.Step.{Stepped, stopped, completed, step_of, after}
use Rattle.machine.specs.Run.{run_of}
use Rattle.machine.specs.declared.State.{State}
use Rattle.laws.proofs.Every.{After, run_every}
use Rattle.abi.specs.Record.{each, state_at}

abbrev pub Sixteen : State → Type 0
Sixteen s = (length s.regs ≡ 16) × (length s.marks ≡ 16)

pub sixteen_at : (r : List ℕ) → Sixteen (state_at r)
unfolding state_at each
sixteen_at r = (refl, refl)

after_sixteen : (s : State) (x : Stepped) → Sixteen s → After Sixteen s x
unfolding after
after_sixteen s (stopped r) h = tt
after_sixteen s (completed d m k x) h = (length-set s.regs d.reg d.value ∙ h.0, length-set s.marks d.reg d.mark ∙ h.1)

pub run_sixteen : (b : ℕ) (t : List ℕ) (s : State) (m : List ℕ) (k : Marks) → Sixteen s → Sixteen (run_of b t s m k).ended.state
run_sixteen b t s m k h = run_every Sixteen (λ i u l j g. after_sixteen u (step_of i u l j) g) b t s m k h
