use Prim.Native.Nat.{ℕ}
use mathlib.Core.Bool.{true, false, not}
use lib.Dec.{eqb}
use mathlib.Core.Path.{◌≡◌, sym, ap, ◌∙◌}
use native.Mathlib.Omega.{arith}
use Rattle.std.specs.Option.{is_some}
use Rattle.asm.proofs.Laws.{new_there, new_zero, new_set}
use Rattle.asm.proofs.labels.Table.is_new.Goals.{then-k-ne0, else-k-ne0}
use Rattle.asm.proofs.labels.Table.is_new.Goals as goal

pub returns-then-is_none : goal.returns-then-is_none
returns-then-is_none c = elim c.if-k-ne0.branch [
  | then-k-ne0 w ↦ rw (← c.labels-set.ensures) (new_there c.labels-set.result.now c.args.k w.if-k-ne0.true w.is_none.result (ap is_some (sym w.place.ensures) ∙ w.is_none.ensures) (sym w.value-is ∙ c.if-is_none.true))
  | else-k-ne0 w ↦ (let e : false ≡ true = ap (λ (n : ℕ). not (eqb n 0)) (sym w.if-k-ne0.false) ∙ sym w.value-is ∙ c.if-is_none.true in let z : ◌≡◌ {A = ℕ} 0 1 = cc in absurd (omega arith))
]

pub returns-else-is_none : goal.returns-else-is_none
returns-else-is_none c = elim c.if-k-ne0.branch [
  | then-k-ne0 w ↦ c.if-is_none.false ∙ (rw (← c.labels-set.ensures) (new_set c.labels-set.result.now c.args.k w.if-k-ne0.true w.is_none.result (ap is_some (sym w.place.ensures) ∙ w.is_none.ensures) (sym w.value-is ∙ c.if-is_none.false)))
  | else-k-ne0 w ↦ c.if-is_none.false ∙ (rw (← c.labels-set.ensures) (new_zero c.labels-set.result.now c.args.k w.if-k-ne0.false))
]
