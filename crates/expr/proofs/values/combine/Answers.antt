use borrow.Author.Rules.{rules}
use mir.Syntax.{w32}
use mir.ValLaws.{to_z-of_z}
use Rattle.expr.specs.Value.{combined}
use Rattle.expr.proofs.values.combine.Goals as goal

pub returns-in-Is-Is : goal.returns-in-Is-Is
unfolding combined
returns-in-Is-Is c = rw (c.apply.ensures, to_z-of_z w32 c.in-Is-Is.x (record { sfits = search rules }), to_z-of_z w32 c.in-Is-Is.y (record { sfits = search rules }), c.in-Is-Is.is-0, c.in-Is-Is.is-1)

pub returns-in-Large-default : goal.returns-in-Large-default
unfolding combined
returns-in-Large-default c = rw (c.in-Large-default.is-0, c.in-Large-default.is-1)

pub returns-in-Large-default-2 : goal.returns-in-Large-default-2
unfolding combined
returns-in-Large-default-2 c = rw (c.in-Large-default.is-0, c.in-Large-default.is-1)

pub returns-in-Large-default-3 : goal.returns-in-Large-default-3
unfolding combined
returns-in-Large-default-3 c = rw (c.in-Large-default.is-0, c.in-Large-default.is-1)

pub returns-in-Unknown-default : goal.returns-in-Unknown-default
unfolding combined
returns-in-Unknown-default c = rw c.in-Unknown-default.is-0

pub returns-in-Unknown-default-2 : goal.returns-in-Unknown-default-2
unfolding combined
returns-in-Unknown-default-2 c = rw (c.in-Unknown-default.is-0, c.in-Unknown-default.is-1)

pub returns-in-Unknown-default-3 : goal.returns-in-Unknown-default-3
unfolding combined
returns-in-Unknown-default-3 c = rw (c.in-Unknown-default.is-0, c.in-Unknown-default.is-1)
