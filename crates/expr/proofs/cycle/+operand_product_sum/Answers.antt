use Rattle.std.proofs.Common.{arith, sym, ap, ◌∙◌}
use Rattle.std.proofs.lemmas.Result.{err_from_is_err_and}
use Rattle.expr.specs.Expr.{size_of}
use Rattle.expr.proofs.Laws.{byte_within, items_got, items_not, chain_over, joins_there, joins_not, chain_turn, chain_fault, operand_none, operand_got, operand_plain}
use Rattle.expr.proofs.Theorems.{sum_of_products, product_of_operands}
use Rattle.expr.proofs.cycle.+operand_product_sum.Goals as goal

pub operand-returns-then-more-eq0 : goal.operand-returns-then-more-eq0
unfolding size_of
operand-returns-then-more-eq0 t c = (sym (operand_none _ _ _ _ _ c.sign-k.ensures.0 c.byte.ensures c.if-byte-eq40.true c.if-more-eq0.true), omega arith)

pub operand-returns-then-byte-eq40 : goal.operand-returns-then-byte-eq40
operand-returns-then-byte-eq40 t c =
    (operand_got _ _ _ _ _ c.sign-k.ensures.0 c.byte.ensures c.if-byte-eq40.true c.if-more-eq0.false _ _ _ c.sum-inner.ensures.0 c.closed-whole.ensures.0 c.signed.ensures.0, (let h = byte_within c.args.s.now _ _ c.byte.ensures (λ z. omega (arith, c.if-byte-eq40.true)) in omega arith))

pub operand-returns : goal.operand-returns
operand-returns t c = (operand_plain _ _ _ _ _ c.sign-k.ensures.0 c.byte.ensures c.if-byte-eq40.false _ _ c.leaf-plain.ensures.0 c.signed-2.ensures.0, omega arith)

pub items-returns-in_err-v : goal.items-returns-in_err-v
unfolding size_of
items-returns-in_err-v t c =
    let p = err_from_is_err_and c.from_residual.result c.from_residual.ensures.1 in
    rw (p.1, p.2) (sym (items_not _ _ _ _ (sym c.item.ensures.0 ∙ c.in_err-v.was)), omega arith)

pub items-loop-level-init : goal.items-loop-level-init
unfolding size_of
items-loop-level-init t c = (let h = ap size_of c.in_ok-v.was in omega arith, items_got _ _ _ _ _ (sym c.item.ensures.0 ∙ c.in_ok-v.was))

pub items-returns-in_err-x : goal.items-returns-in_err-x
unfolding size_of
items-returns-in_err-x t c =
    let p = err_from_is_err_and c.from_residual-in_err-x.result c.from_residual-in_err-x.ensures.1 in
    let h = joins_there _ c.args.s.now c.loop-level.at _ _ c.byte.ensures c.joins.ensures c.loop-level-test.true in
    rw (p.1, p.2) (sym (c.loop-level.invariant.1 ∙ chain_fault _ _ _ _ h.0 h.1 _ _ _ c.item-next.ensures.0 c.joined.ensures.0 _ c.in_err-x.was), omega arith)

pub items-overflow_add-at : goal.items-overflow_add-at
unfolding size_of
items-overflow_add-at t c = let h = ap size_of c.in_ok-x.was in omega arith

pub items-loop-level-preserved : goal.items-loop-level-preserved
unfolding size_of
items-loop-level-preserved t c =
    let h = joins_there _ c.args.s.now c.loop-level.at _ _ c.byte.ensures c.joins.ensures c.loop-level-test.true in
    (let g = ap size_of c.in_ok-x.was in omega arith, c.loop-level.invariant.1 ∙ chain_turn _ _ _ _ h.0 h.1 _ _ _ c.item-next.ensures.0 c.joined.ensures.0 _ _ c.in_ok-x.was)

pub items-returns : goal.items-returns
unfolding size_of
items-returns t c = (sym (c.loop-level.invariant.1 ∙ chain_over _ _ c.args.s.now c.loop-level.at _ _ (joins_not _ c.args.s.now c.loop-level.at _ _ c.byte.ensures c.joins.ensures c.loop-level-test.false)), omega arith)

pub product-returns : goal.product-returns
product-returns t c = (c.items.ensures.0 ∙ sym (product_of_operands _ _ _), c.items.ensures.1)

pub sum-returns : goal.sum-returns
sum-returns t c = (c.items.ensures.0 ∙ sym (sum_of_products _ _ _), c.items.ensures.1)
