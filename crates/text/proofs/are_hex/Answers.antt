use Rattle.std.proofs.Common.{ltb, sym, ◌∙◌, rules, tests}
use Rattle.std.proofs.lemmas.Iterator.{YieldsList-from_slice}
use Rattle.std.proofs.lemmas.Iterator.Search.{all_from_yields_List}
use Rattle.text.specs.Digits.{value_of}
use Rattle.text.proofs.Laws.{hex_is}
use Rattle.text.proofs.are_hex.Goals as goal

pub returns : goal.returns
returns c =
    all_from_yields_List (λ x. ltb (value_of x) 16) _ _ _ c.all.ensures.ran (YieldsList-from_slice c.args.l.now cc) (λ x b q k. search (rules, tests))
    ∙ sym (hex_is _)
