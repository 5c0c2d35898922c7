use Rattle.asm.specs.Assemble.{bytes_for}
use Rattle.asm.proofs.passes.bytes_for.Goals as goal

pub returns-then-known : goal.returns-then-known
unfolding bytes_for
returns-then-known c = rw (c.shape_of.ensures, c.if-known.true)

pub returns-else-known : goal.returns-else-known
unfolding bytes_for
returns-else-known c = rw c.if-known.false
