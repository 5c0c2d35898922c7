use Rattle.expr.proofs.Names.{first_letter, other_leaf, size_in}
use Rattle.expr.proofs.leaves.leaf.Goals as goal

pub returns : goal.returns
returns c =
    let s = c.args.s.now in
    let e = first_letter s _ _ _ c.byte.ensures c.is_letter.ensures c.if-is_letter.false in
    (other_leaf _ s _ _ e c.run-n.ensures.0 c.number.ensures.0, size_in s c.run-n.result _ c.number.ensures.1)
