use mir.Syntax.{w32}
use mir.ValLaws.{to_z-of_z}
use Rattle.asm.specs.Assemble.{line_bytes}
use Rattle.asm.proofs.lines.Line.encoded.Goals as goal

pub returns : goal.returns
unfolding line_bytes
returns c = rw (c.bits.ensures, to_z-of_z w32 c.value_in.result (record { sfits = c.value_in.type_inv }), c.value_in.ensures, c.value-value.ensures, c.shape_of.ensures)
