-- The theorems of this crate, each with its statement; read this file alone with specs/. The proofs are in the files that it cites.
-- Assumes nothing.
use Prim.Native.Nat.{ℕ, ◌+◌, ◌/◌, ◌%◌}
use mathlib.Core.Path.{◌≡◌, refl, sym, ap, ◌∙◌}
use mathlib.Core.Logic.{◌≢◌}
use mathlib.Core.Bool.{false≢true, not, ◌||◌}
use mathlib.Core.List.{List}
use lib.ListN.{length, replicate, length-replicate}
use lib.Dec.{eqb}
use borrow.Author.Tests.{eq-eqb}
use Rattle.word.specs.Bits.{on}
use Rattle.marks.specs.Memory.{Marks, bits}
use Rattle.marks.proofs.Places.{no_bit}
use Rattle.instruction.specs.Reply.{number_of}
use Rattle.machine.specs.State.{fresh_state}
use Rattle.machine.specs.Run.{run_of}
use Rattle.machine.specs.declared.State.{State}
use Rattle.plain.specs.Plain.{run}
use Rattle.plain.specs.Clean.{Clean, core_of, beside}
use Rattle.plain.proofs.Marks.{all_same}
use Rattle.plain.proofs.Same.{run_same}
use Rattle.plain.proofs.Never.{clean_fine}

-- 1. With nothing marked, the run is the run of the machine without marks, in reply, steps, registers, control and memory, and all marks stay (Same.antt).
pub run_is_plain : (b : ℕ) (t : List ℕ) (s : State) (m : List ℕ) (k : Marks) → Clean s m k → run_of b t s m k ≡ beside (run b t (core_of s) m) s k
run_is_plain b t s m k c = run_same b t s m k c

-- 2. With nothing marked, stop 12, an "instruction fetch from a marked byte", and stop 14, "a marked operand where none may be", never come (Never.antt).
pub never_12 : (b : ℕ) (t : List ℕ) (s : State) (m : List ℕ) (k : Marks) → Clean s m k → number_of (run_of b t s m k).ended.reply ≢ 12
never_12 b t s m k c e = false≢true (sym (clean_fine b t s m k c) ∙ ap (λ (n : ℕ). eqb n 12 || eqb n 14) e)

pub never_14 : (b : ℕ) (t : List ℕ) (s : State) (m : List ℕ) (k : Marks) → Clean s m k → number_of (run_of b t s m k).ended.reply ≢ 14
never_14 b t s m k c e = false≢true (sym (clean_fine b t s m k c) ∙ ap (λ (n : ℕ). eqb n 12 || eqb n 14) e)

-- 3. Something is clean: the fresh state, beside any memory and as many zeros as its marks take (Marks.antt).
pub fresh_is_clean : (m : List ℕ) → Clean fresh_state m (bits (replicate ((length m + 7) / 8) 0))
fresh_is_clean m =
    record {
      memory = λ i. ap (λ (p : ℕ). on p (i % 8)) (all_same ((length m + 7) / 8) (i / 8) 0) ∙ no_bit (i % 8);
      room = ap not (eq-eqb _ _ (length-replicate ((length m + 7) / 8) 0));
      regs = refl;
      tf = refl;
      cy = refl;
    }
