use Rattle.std.proofs.Common.{◌≡◌, ◌+◌, ◌≤◌, drop}
use Rattle.forms.specs.Form.{tabs_in}
use Rattle.forms.proofs.fields.tabs_in.Given as goal

abbrev pub invariant-loop-c : goal.invariant-loop-c
invariant-loop-c l = (l.n ≤ l.c-index) × (l.n + tabs_in (drop l.c-index l.l) ≡ tabs_in l.l)
