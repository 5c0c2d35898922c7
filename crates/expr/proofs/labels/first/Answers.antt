use native.Mathlib.Omega.{arith}
use mathlib.Core.Path.{sym, ◌∙◌}
use lib.ListN.{length-drop}
use Rattle.expr.proofs.Laws.{rest_of}
use Rattle.expr.proofs.Names.{place_here, place_on, place_end, is_first, is_second, is_third, is_fourth, is_beyond}
use Rattle.expr.proofs.labels.first.Goals as goal

pub returns-then-key-k-clause-place : goal.returns-then-key-k-clause-place
returns-then-key-k-clause-place g c =
    let p = c.loop-rest.invariant.place in
    let v = c.loop-rest.invariant.within in
    let i = is_first g.T.Keyed.key c.args.k c.loop-rest.rest.now c.in-len4-up.len_at_least _ _ _ c.a-item.is c.key.ensures c.if-key-k.true in
    omega arith

pub returns-then-key-k-2-clause-place : goal.returns-then-key-k-2-clause-place
returns-then-key-k-2-clause-place g c =
    let p = c.loop-rest.invariant.place in
    let v = c.loop-rest.invariant.within in
    let i = is_second g.T.Keyed.key c.args.k c.loop-rest.rest.now c.in-len4-up.len_at_least _ _ _ c.a-item.is c.key.ensures c.if-key-k.false _ _ _ c.b-item.is c.key-in-len4-up.ensures c.if-key-k-2.true in
    omega arith

pub returns-then-key-k-3-clause-place : goal.returns-then-key-k-3-clause-place
returns-then-key-k-3-clause-place g c =
    let p = c.loop-rest.invariant.place in
    let v = c.loop-rest.invariant.within in
    let i = is_third g.T.Keyed.key c.args.k c.loop-rest.rest.now c.in-len4-up.len_at_least _ _ _ c.a-item.is c.key.ensures c.if-key-k.false _ _ _ c.b-item.is c.key-in-len4-up.ensures c.if-key-k-2.false _ _ _ c.c-item.is c.key-in-len4-up-2.ensures c.if-key-k-3.true in
    omega arith

pub returns-then-key-k-4-clause-place : goal.returns-then-key-k-4-clause-place
returns-then-key-k-4-clause-place g c =
    let p = c.loop-rest.invariant.place in
    let v = c.loop-rest.invariant.within in
    let i = is_fourth g.T.Keyed.key c.args.k c.loop-rest.rest.now c.in-len4-up.len_at_least _ _ _ c.a-item.is c.key.ensures c.if-key-k.false _ _ _ c.b-item.is c.key-in-len4-up.ensures c.if-key-k-2.false _ _ _ c.c-item.is c.key-in-len4-up-2.ensures c.if-key-k-3.false _ _ _ c.d-item.is c.key-in-len4-up-3.ensures c.if-key-k-4.true in
    omega arith

pub loop-rest-preserved : goal.loop-rest-preserved
loop-rest-preserved g c =
    let p = c.loop-rest.invariant.place in
    let v = c.loop-rest.invariant.within in
    let w = c.in-len4-up.len_at_least in
    let i = is_beyond g.T.Keyed.key c.args.k c.loop-rest.rest.now c.in-len4-up.len_at_least _ _ _ c.a-item.is c.key.ensures c.if-key-k.false _ _ _ c.b-item.is c.key-in-len4-up.ensures c.if-key-k-2.false _ _ _ c.c-item.is c.key-in-len4-up-2.ensures c.if-key-k-3.false _ _ _ c.d-item.is c.key-in-len4-up-3.ensures c.if-key-k-4.false in
    let r = rest_of c.loop-rest.rest.now 4 in
    let n = length-drop 4 c.loop-rest.rest.now in
    record { place = rw (r, n) (omega arith); within = rw (r, n) (omega arith) }

pub returns-then-key-k-5-clause-place : goal.returns-then-key-k-5-clause-place
returns-then-key-k-5-clause-place g c =
    let p = c.loop-rest.invariant.place in
    let v = c.loop-rest.invariant.within in
    let q = c.loop-i.invariant in
    let a = place_here g.T.Keyed.key c.args.k c.loop-rest.rest.now c.loop-i.i c.x-item.result _ c.loop-i-test.true c.x-item.is (sym c.key-in-loop-i.ensures ∙ c.if-key-k-5.true) in
    omega arith

pub loop-i-preserved : goal.loop-i-preserved
loop-i-preserved g c =
    let q = c.loop-i.invariant in
    let a = place_on g.T.Keyed.key c.args.k c.loop-rest.rest.now c.loop-i.i c.x-item.result _ c.loop-i-test.true c.x-item.is (λ e. c.if-key-k-5.false (c.key-in-loop-i.ensures ∙ e)) in
    omega arith

pub returns-clause-place : goal.returns-clause-place
returns-clause-place g c =
    let p = c.loop-rest.invariant.place in
    let v = c.loop-rest.invariant.within in
    let q = c.loop-i.invariant in
    let a = place_end g.T.Keyed.key c.args.k c.loop-rest.rest.now c.loop-i.i (omega arith) in
    omega arith
