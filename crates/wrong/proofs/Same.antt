-- Ends of two runs that are alike stay alike: under a choice by the reply, and with everything marked.
-- Assumes nothing.
use Prim.Native.Nat.{ℕ, zero, suc, ◌+◌, ◌/◌}
use mathlib.Core.Path.{◌≡◌, refl, sym, ap, ap₂, subst, ◌∙◌}
use mathlib.Core.Bool.{Bool, true, false, cond, true≢false}
use mathlib.Core.List.{List, [], ◌∷◌, map}
use native.Mathlib.Decide.{ℕ_discrete}
use lib.Dec.{ltb, eqb}
use lib.ListN.{length, get_or, length-map}
use lib.Seq.{set_out}
use borrow.Author.Tests.{ltb-true, ltb-false}
use Rattle.marks.specs.Memory.{Marks, bits, bytes, mark_at, mark_put, put_marks}
use Rattle.marks.proofs.Places.{put_same, put_other, put_past}
use Rattle.instruction.specs.Reply.{number_of}
use Rattle.instruction.specs.declared.Reply.{Reply}
use Rattle.machine.specs.Run.{Final}
use Rattle.machine.specs.declared.State.{State}
use Rattle.secrecy.specs.Same.{Same, SameFinal}
use Rattle.secrecy.proofs.Control.{cycles_same}
use Rattle.wrong.specs.Models.{with_steps, unless_refused, counted, all_marked, with_marks}

by_reply : (p : Reply → Bool) {x y f g u v : Final} → SameFinal x y → SameFinal f g → SameFinal u v
    → SameFinal (cond (p x.ended.reply) f u) (cond (p y.ended.reply) g v)
by_reply p {x} {y} {f} {g} {u} {v} e s r = rw e.reply (go (p y.ended.reply))
  where
    go : (b : Bool) → SameFinal (cond b f u) (cond b g v)
    go true = s
    go false = r

pub steps_same : (n : ℕ) {x y : Final} → SameFinal x y → SameFinal (with_steps n x) (with_steps n y)
steps_same n s = record { reply = s.reply; steps = refl; cycles = cycles_same s.state.control; state = s.state; marks = s.marks; mem = s.mem }

pub unless_same : {x y f g : Final} → SameFinal x y → SameFinal f g → SameFinal (unless_refused x f) (unless_refused y g)
unless_same x f = by_reply (λ r. ltb (number_of r) 10) x x f

pub counted_same : (n : ℕ) {x y : Final} → SameFinal x y → SameFinal (counted n x) (counted n y)
counted_same n x = by_reply (λ r. eqb (number_of r) 10) x (steps_same n x) x

-- ---- marking more unmarks nothing

-- position i of memory: it becomes marked, or the slice has no place for it and is as it was
marked_there : (k : Marks) (i : ℕ) → mark_at (mark_put k i true) i ≡ false → mark_at k i ≡ false
marked_there (bits k) i e = go (ltb (i / 8) (length k)) refl
  where
    go : (c : Bool) → ltb (i / 8) (length k) ≡ c → mark_at (bits k) i ≡ false
    go true l = absurd (true≢false (sym (put_same (bits k) i true (ltb-true _ _ l)) ∙ e))
    go false l = sym (ap (λ (j : Marks). mark_at j i) (put_past k i true (ltb-false _ _ l))) ∙ e
marked_there (bytes k) i e = go (ltb i (length k)) refl
  where
    go : (c : Bool) → ltb i (length k) ≡ c → mark_at (bytes k) i ≡ false
    go true l = absurd (true≢false (sym (put_same (bytes k) i true (ltb-true _ _ l)) ∙ e))
    go false l = sym (ap (λ (j : List ℕ). mark_at (bytes j) i) (set_out k i 1 (ltb-false _ _ l))) ∙ e

marked_one : (k : Marks) (i j : ℕ) → mark_at (mark_put k i true) j ≡ false → mark_at k j ≡ false
marked_one k i j e = go (ℕ_discrete j i)
  where
    go : Dec (j ≡ i) → mark_at k j ≡ false
    go (yes q) = ap (mark_at k) q ∙ marked_there k i (subst (λ (a : ℕ). mark_at (mark_put k i true) a ≡ false) q e)
    go (no ne) = sym (put_other k i j true ne) ∙ e

-- the n positions from a on
all_marked_lem : (n : ℕ) (k : Marks) (a i : ℕ) → mark_at (put_marks n k a true) i ≡ false → mark_at k i ≡ false
unfolding put_marks
all_marked_lem zero k a i e = e
all_marked_lem (suc n) k a i e = all_marked_lem n k a i (marked_one (put_marks n k a true) (a + n) i e)

-- where every register is marked, only what lies past the marks is unmarked, and that was so before
past : (k : List Bool) (i : ℕ) → get_or (map (λ b. true) k) i false ≡ false → get_or k i false ≡ false
past [] i e = refl
past (b ∷ k) zero e = absurd (true≢false e)
past (b ∷ k) (suc i) e = past k i e

-- ---- ends with everything marked

state_marked : {a b : State} → Same a b → Same (all_marked a) (all_marked b)
state_marked {a} s = record {
  marks = ap (map (λ b. true)) s.marks;
  flags = refl;
  each = simp length-map s.each;
  regs = record { long = s.regs.long; equal = λ i e. s.regs.equal i (past a.marks i e) };
  control = record {
    rest = s.control.rest;
    psw = record { rest = s.control.psw.rest; tf = λ e. absurd (true≢false e); cy = λ e. absurd (true≢false e) };
  };
}

pub end_marked : {x y : Final} → SameFinal x y → SameFinal (with_marks x) (with_marks y)
end_marked {x} s = record {
  reply = s.reply;
  steps = s.steps;
  cycles = cycles_same s.state.control;
  state = state_marked s.state;
  marks = ap₂ (λ (n : ℕ) (k : Marks). put_marks n k 0 true) s.mem.long s.marks;
  mem = record { long = s.mem.long; equal = λ i e. s.mem.equal i (all_marked_lem (length x.mem) x.marks 0 i e) };
}
