use native.Mathlib.Omega.{arith}
use mathlib.Core.Path.{◌≡◌}
use borrow.Author.Rules.{rules}
use borrow.Author.Tests.{ne_eqb}
use Rattle.expr.specs.Value.{applied}
use Rattle.expr.proofs.values.apply.Goals as goal

pub returns-in_default : goal.returns-in_default
unfolding applied
returns-in_default c =
    let n : c.args.c ≡ 42 → ⊥ = (λ e. omega arith) in
    let m : c.args.c ≡ 43 → ⊥ = (λ e. omega arith) in
    rw (c.fit-in_default.ensures, ne_eqb _ _ m, ne_eqb _ _ n) (search rules)
