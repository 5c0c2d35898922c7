use Rattle.text.proofs.Laws.{spell_more, spell_none}
use mathlib.Core.Path.{sym, ◌∙◌}
use native.Mathlib.Omega.{arith}
use Rattle.text.proofs.spell.Goals as goal

pub loop-i-preserved : goal.loop-i-preserved
loop-i-preserved c =
    rw c.glyph.ensures
    (sym (spell_more _ _ _ c.loop-i.out c.loop-i-test.true (omega arith))
    ∙ c.loop-i.invariant)

pub returns : goal.returns
returns c = sym (spell_none _ _ _ _ c.loop-i-test.false) ∙ c.loop-i.invariant
