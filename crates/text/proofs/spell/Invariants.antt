use Rattle.text.specs.Digits.{digits_of}
use lib.ListN.{length, drop}
use mathlib.Core.List.{◌++◌}
use mathlib.Core.Path.{◌≡◌}
use Rattle.text.proofs.spell.Given as goal

abbrev pub invariant-loop-i : goal.invariant-loop-i
invariant-loop-i l = digits_of l.base l.i l.rest ++ drop l.i l.out ≡ digits_of l.base (length l.initial.out) l.n
