use Rattle.std.proofs.Common.{ℕ, not, take, sym, ◌∙◌, rules, tests}
use Rattle.std.proofs.lemmas.Iterator.{YieldsList-from_slice, YieldsList-from_take}
use Rattle.std.proofs.lemmas.Iterator.Consumers.{YieldsList-at, count_from_yields_List}
use Rattle.std.proofs.lemmas.Iterator.Search.{YieldsList-from_take_while}
use Rattle.std.proofs.lemmas.List.Folds.{length-prefix_len}
use Rattle.script.specs.Fault.{ends_word}
use Rattle.script.proofs.Laws.{letters_is}
use Rattle.script.proofs.faults.letters_in.Goals as goal

pub returns : goal.returns
returns c =
    let letter = λ (x : ℕ). not (ends_word x) in
    count_from_yields_List c.take_while.result _ c.count.ensures.ran
    (YieldsList-from_take_while _ letter
    (YieldsList-at c.take_while.ensures.source (YieldsList-from_take c.args.most (YieldsList-from_slice c.args.l.now cc) cc))
    c.take_while.ensures.closure c.take_while.ensures.done (λ x b q k. search (rules, tests)))
    ∙ length-prefix_len letter (take c.args.most c.args.l.now)
    ∙ sym (letters_is _ _)
