use Rattle.std.proofs.Common.{◌+◌, drop, arith, sym, ◌∙◌}
use Rattle.manik_list.proofs.Laws.{number_on, number_over}
use Rattle.manik_list.proofs.numbers.digits.Goals as goal

pub returns-in_err-shifted : goal.returns-in_err-shifted
returns-in_err-shifted c =
    let on = number_on _ _ c.loop-c-test.true _ c.loop-c.v _ c.digit-d.ensures.0 c.if-base-d.false in
    let over = number_over (drop (c.loop-c.c-index + 1) c.args.word.now) _ _ c.requires.0 (omega (arith, c.in_err-shifted.ensures)) in
    c.from_residual.ensures ∙ sym (on ∙ over) ∙ c.loop-c.invariant.same

pub returns-in_err-v : goal.returns-in_err-v
returns-in_err-v c =
    let on = number_on _ _ c.loop-c-test.true _ c.loop-c.v _ c.digit-d.ensures.0 c.if-base-d.false in
    let over = number_over (drop (c.loop-c.c-index + 1) c.args.word.now) _ _ c.requires.0 (omega (arith, c.in_ok-shifted.ensures, c.in_err-v.ensures)) in
    c.from_residual-in_err-v.ensures ∙ sym (on ∙ over) ∙ c.loop-c.invariant.same
