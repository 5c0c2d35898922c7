use mir.Syntax.{w32}
use mir.ValLaws.{to_z-of_z}
use borrow.Author.Rules.{rules}
use Rattle.asm.specs.Assemble.{value_in}
use Rattle.asm.proofs.lines.value_in.Goals as goal

pub returns-in_default : goal.returns-in_default
unfolding value_in
returns-in_default c = rw c.in_default.is

pub returns-in-Is : goal.returns-in-Is
unfolding value_in
returns-in-Is c = rw (to_z-of_z w32 c.in-Is.z (record { sfits = search rules }), c.in-Ok.is, c.in-Is.is)

pub returns-in-Large : goal.returns-in-Large
unfolding value_in
returns-in-Large c = rw (c.in-Ok.is, c.in-Large.is)

pub returns-in-Unknown : goal.returns-in-Unknown
unfolding value_in
returns-in-Unknown c = rw (c.in-Ok.is, c.in-Unknown.is)
