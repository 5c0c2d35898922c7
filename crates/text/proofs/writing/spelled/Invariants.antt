use Rattle.text.specs.Digits.{decimal_text}
use lib.ListN.{length, drop}
use mathlib.Core.List.{◌++◌}
use mathlib.Core.Path.{◌≡◌}
use Prim.Native.Nat.{◌^◌, ◌<◌, ◌≤◌}
use Rattle.text.proofs.writing.spelled.Given as goal

abbrev pub invariant-loop-rest : goal.invariant-loop-rest
invariant-loop-rest l = (l.from ≤ 20) × (0 < l.from) × (l.rest < 10 ^ l.from) × (length l.room ≡ 20) × (decimal_text l.rest ++ drop l.from l.room ≡ decimal_text l.n)

abbrev pub decreases-loop-rest : goal.decreases-loop-rest
decreases-loop-rest l = l.from
