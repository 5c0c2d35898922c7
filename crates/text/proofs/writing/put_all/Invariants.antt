use Rattle.text.specs.Pages.{page, write_on}
use lib.ListN.{drop}
use mathlib.Core.Path.{◌≡◌}
use Prim.Native.Nat.{◌+◌}
use Rattle.text.proofs.writing.put_all.Given as goal

abbrev pub invariant-loop-i : goal.invariant-loop-i
invariant-loop-i l = write_on (drop l.i l.s) (page l.out (l.from + l.i)) ≡ write_on l.s (page l.initial.out l.from)
