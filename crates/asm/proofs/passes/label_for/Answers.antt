use Rattle.asm.specs.Assemble.{label_for}
use Rattle.asm.proofs.passes.label_for.Goals as goal

pub returns-then-known : goal.returns-then-known
unfolding label_for
returns-then-known c = rw (c.label.ensures, c.if-known.true)

pub returns-else-known : goal.returns-else-known
unfolding label_for
returns-else-known c = rw c.if-known.false
