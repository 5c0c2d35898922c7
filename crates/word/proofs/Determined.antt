-- A statement that is an equation with a definition determines the result: two results that satisfy it coincide.
-- Assumes nothing.
use Rattle.std.proofs.Common.{◌≡◌, sym, ◌∙◌}

pub determined : {A : Type 0} (r s x : A) → r ≡ x → s ≡ x → r ≡ s
determined r s x p q = p ∙ sym q
