-- Words of the theorem that a bad line, and no other, has a reason.
-- Assumes nothing.
use Rattle.std.specs.Prelude.{Bool, true, false, None, Option, Some}
use Rattle.script.specs.declared.Phase.{Phase}
use Rattle.script.specs.declared.Fault.{Fault}

abbrev pub is_bad : Phase → Bool
is_bad Phase.First = false
is_bad (Phase.Body n) = false
is_bad (Phase.Done n b) = false
is_bad Phase.Bad = true

abbrev pub is_fault : Option Fault → Bool
is_fault None = false
is_fault (Some f) = true
