use Rattle.text.specs.Pages.{page, write_on}
use lib.ListN.{drop}
use mathlib.Core.Path.{◌≡◌}
use Rattle.text.proofs.writing.put_some.Given as goal

abbrev pub invariant-loop-b : goal.invariant-loop-b
invariant-loop-b l = write_on (drop l.b-index l.s) (page l.out l.at) ≡ write_on l.s (page l.initial.out l.initial.at)
