use Rattle.std.proofs.Common.{◌≤◌, ℕ, ltb, take, sym, ◌∙◌, arith, rules, tests}
use Rattle.std.proofs.lemmas.Iterator.{YieldsList-from_slice, YieldsList-from_take}
use Rattle.std.proofs.lemmas.Iterator.Consumers.{YieldsList-at, count_from_yields_List}
use Rattle.std.proofs.lemmas.Iterator.Search.{YieldsList-from_take_while}
use Rattle.std.proofs.lemmas.List.Folds.{length-prefix_len}
use Rattle.std.proofs.lemmas.List.Sums.{prefix_len-le-length}
use Rattle.std.proofs.Common.{length-take}
use Rattle.text.specs.Digits.{value_of}
use Rattle.text.proofs.Laws.{digits_is}
use Rattle.text.proofs.digits_in.Goals as goal

pub returns : goal.returns
returns c =
    let front = take c.args.most c.args.l.now in
    let digit = λ (x : ℕ). ltb (value_of x) c.args.base in
    let e = count_from_yields_List c.take_while.result _ c.count.ensures.ran
    (YieldsList-from_take_while _ digit
    (YieldsList-at c.take_while.ensures.source (YieldsList-from_take c.args.most (YieldsList-from_slice c.args.l.now cc) cc))
    c.take_while.ensures.closure c.take_while.ensures.done (λ x b q k. search (rules, tests)))
    ∙ length-prefix_len digit front in
    let le : c.count.result ≤ c.args.most = omega (arith, e, prefix_len-le-length digit front, length-take {A = ℕ}) in
    (e ∙ sym (digits_is _ _ _), le)
