use Rattle.std.proofs.Common.{◌≡◌, ◌≤◌, ◌∙◌, Bool, true, false, refl, eqb, get_or, arith}
use mir.Val.{bool_byte}
use Rattle.word.specs.Bits.{num}
use Rattle.forms.proofs.Laws.{tabs_on, tabs_none}
use Rattle.forms.proofs.fields.tabs_in.Goals as goal

one_at_most : (t : Bool) → (bool_byte t ≡ num t) × (bool_byte t ≤ 1)
one_at_most true = (refl, omega arith)
one_at_most false = (refl, omega arith)

pub loop-c-preserved : goal.loop-c-preserved
loop-c-preserved c =
    let o = one_at_most (eqb (get_or c.args.l.now c.loop-c.c-index 0) 9) in
    let s = tabs_on c.args.l.now c.loop-c.c-index c.from-n.result c.loop-c-test.true (c.from-n.ensures ∙ o.0) in
    (omega arith, omega arith)

pub returns : goal.returns
returns c = (omega (arith, tabs_none c.args.l.now c.loop-c.c-index c.loop-c-test.false), omega arith)
