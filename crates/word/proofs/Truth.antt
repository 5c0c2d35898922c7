-- Laws of truth values.
-- Assumes nothing.
use Rattle.std.proofs.Common.{◌≡◌, Bool, true, false, sym, refl}
use mathlib.Core.Bool.{beq}

pub beq_true : (a b : Bool) → beq a b ≡ true → a ≡ b
beq_true true true e = refl
beq_true true false e = sym e
beq_true false true e = e
beq_true false false e = refl
