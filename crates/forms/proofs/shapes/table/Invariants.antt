use Rattle.std.proofs.Common.{◌≡◌, drop}
use Rattle.forms.specs.Form.{mnemonics}
use Rattle.forms.specs.Parts.{entered, slots}
use Rattle.forms.proofs.shapes.table.Given as goal

abbrev pub invariant-loop-place : goal.invariant-loop-place
invariant-loop-place l = (l.name-items ≡ mnemonics) × (entered l.place (drop l.place l.name-items) l.table ≡ slots)
