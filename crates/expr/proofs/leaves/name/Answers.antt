use native.Mathlib.Omega.{arith}
use mathlib.Core.Path.{sym, ◌∙◌}
use Rattle.expr.specs.Expr.{size_of}
use Rattle.expr.proofs.Names.{run_most, led_some, word_some, word_none}
use Rattle.expr.proofs.leaves.name.Goals as goal

pub returns-in-Some : goal.returns-in-Some
unfolding size_of
returns-in-Some c =
    let s = c.args.s.now in
    let e = sym c.lead.ensures ∙ c.in-Some.is in
    let n = led_some s _ _ e in
    let m = run_most s in
    (rw c.mean.ensures (word_some s _ c.requires _ _ e), omega (arith, n.2))

pub returns-in-None : goal.returns-in-None
unfolding size_of
returns-in-None c = (word_none _ _ c.requires (sym c.lead.ensures ∙ c.in-None.is), omega arith)
