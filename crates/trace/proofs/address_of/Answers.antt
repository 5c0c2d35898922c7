use Rattle.std.proofs.Common.{◌≡◌, ℕ, refl, rules, None}
use Rattle.word.specs.declared.Width.{Width}
use Rattle.isa.specs.declared.Instr.{Instr}
use Rattle.cpu.specs.declared.Control.{Control}
use Rattle.instruction.specs.Act.{reach_of}
use Rattle.machine.specs.Step.{data_of}
use Rattle.trace.proofs.address_of.Goals as goal

-- an instruction that is no load and no store
reaches_nothing : (i : Instr) (v : ℕ) (c : Control) → ((p q : ℕ) → i ≡ Instr.Ldrpc p q → ⊥)
    → ((p : Width) (q x y : ℕ) → i ≡ Instr.Load p q x y → ⊥) → ((p : Width) (q x y : ℕ) → i ≡ Instr.Store p q x y → ⊥) → None ≡ data_of (reach_of i v c)
unfolding reach_of
reaches_nothing (Instr.Alu p q x) v c f g h = refl
reaches_nothing (Instr.ShiftImm p q x) v c f g h = refl
reaches_nothing (Instr.Cmp p q x) v c f g h = refl
reaches_nothing (Instr.CmpImm p q x) v c f g h = refl
reaches_nothing (Instr.Cond p q x y) v c f g h = refl
reaches_nothing (Instr.CondImm p q x) v c f g h = refl
reaches_nothing (Instr.Ldrpc p q) v c f g h = absurd (f p q refl)
reaches_nothing (Instr.Imm p q x) v c f g h = refl
reaches_nothing (Instr.Load p q x y) v c f g h = absurd (g p q x y refl)
reaches_nothing (Instr.Store p q x y) v c f g h = absurd (h p q x y refl)
reaches_nothing (Instr.Mfsfr p q) v c f g h = refl
reaches_nothing (Instr.Mtsfr p q) v c f g h = refl
reaches_nothing (Instr.Jr p) v c f g h = refl
reaches_nothing (Instr.Jrl p) v c f g h = refl
reaches_nothing (Instr.Jsfr p) v c f g h = refl
reaches_nothing (Instr.Swint p) v c f g h = refl
reaches_nothing (Instr.ShortJump p q) v c f g h = refl
reaches_nothing (Instr.LongJump p q) v c f g h = refl

pub returns-in-Ldrpc : goal.returns-in-Ldrpc
unfolding reach_of
returns-in-Ldrpc c = rw (c.data_address.ensures, c.in-Ldrpc.is)

pub returns-in-Load : goal.returns-in-Load
unfolding reach_of
returns-in-Load c = search rules

pub returns-in_default : goal.returns-in_default
returns-in_default c = reaches_nothing _ _ _ c.in_default.not-Ldrpc c.in_default.not-Load c.in_default.not-Store
