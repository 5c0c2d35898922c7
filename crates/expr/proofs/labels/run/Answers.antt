use native.Mathlib.Omega.{arith}
use mathlib.Core.Path.{sym, ◌∙◌}
use Rattle.expr.proofs.Names.{run_more, run_here, run_end}
use Rattle.expr.proofs.labels.run.Goals as goal

pub loop-i-preserved : goal.loop-i-preserved
loop-i-preserved c = run_more _ _ c.loop-i.invariant c.loop-i-test.true (sym c.is_named.ensures ∙ c.if-not-is_named.false)

pub returns-then-not-is_named : goal.returns-then-not-is_named
returns-then-not-is_named c = (run_here _ _ c.loop-i.invariant c.loop-i-test.true (sym c.is_named.ensures ∙ c.if-not-is_named.true), omega arith)

pub returns : goal.returns
returns c = let z = run_end c.args.s.now c.loop-i.i c.loop-i.invariant c.loop-i-test.false in (omega arith, omega arith)
