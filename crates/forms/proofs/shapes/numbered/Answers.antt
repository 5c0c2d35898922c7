use Rattle.forms.specs.Form.{numbered_of}
use Rattle.forms.proofs.Laws.{same_bytes}
use Rattle.forms.proofs.shapes.numbered.Goals as goal

pub returns-in-Some : goal.returns-in-Some
unfolding numbered_of
returns-in-Some c =
    let h = c.in-Some.ensures.cases in
    rw (c.below_limit.ensures, c.decimal.ensures, h.1, same_bytes, h.0)

pub returns-in-None : goal.returns-in-None
unfolding numbered_of
returns-in-None c = rw (same_bytes, c.in-None.ensures.cases)
