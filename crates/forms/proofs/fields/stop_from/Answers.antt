use Rattle.std.proofs.Common.{rules, tests}
use Rattle.std.proofs.lemmas.Iterator.{YieldsList-from_slice}
use Rattle.std.proofs.lemmas.Iterator.Search.{position_from_yields_List}
use Rattle.forms.proofs.Laws.{is_stop, stop_found}
use Rattle.forms.proofs.fields.stop_from.Goals as goal

pub returns : goal.returns
returns c =
    let l = c.end_part-rest.result.now in
    let p = position_from_yields_List is_stop _ _ c.position.result c.position.ensures.ran (YieldsList-from_slice l cc) (λ x b q k. search (rules, tests)) in
    stop_found c.args.t.now l c.args.from _ _ c.end_part-rest.ensures c.unwrap_or.ensures p
