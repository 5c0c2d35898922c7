use Rattle.text.proofs.Spelling.{place_left, place_spelled, decimal_on, decimal_last}
use lib.ListN.{length-drop, length-set}
use lib.Seq.{take_all}
use mathlib.Core.Path.{◌∙◌}
use native.Mathlib.Omega.{arith}
use Rattle.text.proofs.writing.spelled.Goals as goal

pub loop-rest-preserved : goal.loop-rest-preserved
loop-rest-preserved c =
    let i = c.loop-rest.invariant in
    let left = place_spelled _ _ i.2 i.1 in (
      omega (arith, i.0),
      place_left _ _ left (omega (arith, c.loop-rest-test.true)),
      left,
      rw length-set i.3,
      rw c.glyph.ensures (decimal_on _ _ _ i.1 i.0 (omega (arith, i.0, i.3)) i.2 c.loop-rest-test.true ∙ i.4),
    )

pub returns : goal.returns
returns c =
    let i = c.loop-rest.invariant in
    rw c.glyph-2.ensures
    (take_all _ _ (simp (length-drop, length-set) (omega (arith, i.3)))
    ∙ decimal_last _ _ _ i.1 i.0 (omega (arith, i.0, i.3)) c.loop-rest-test.false
    ∙ i.4)
