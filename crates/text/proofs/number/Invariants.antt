use Rattle.text.specs.Digits.{digits_read}
use lib.ListN.{drop}
use mathlib.Core.Path.{◌≡◌}
use Prim.Native.Nat.{◌*◌, ◌^◌, ◌<◌}
use Rattle.text.proofs.number.Given as goal

abbrev pub invariant-loop-c : goal.invariant-loop-c
invariant-loop-c l = (l.v < 2 ^ (4 * l.c-index)) × (digits_read l.base l.v (drop l.c-index l.l) ≡ digits_read l.base 0 l.l)
