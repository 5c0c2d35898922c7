use Rattle.asm.specs.Assemble.{line_bits}
use mir.Syntax.{w32}
use mir.ValLaws.{to_z-of_z}
use Rattle.asm.proofs.lines.Line.bits.Goals as goal

pub returns : goal.returns
unfolding line_bits
returns c =
    rw (c.bits_at.ensures, c.bits_of.ensures, to_z-of_z w32 c.args.v c.ranges.v, c.number_at-three.ensures, c.third.ensures, c.number_at-two.ensures, c.second.ensures, c.number_at-one.ensures, c.first.ensures, c.shape_of-s.ensures)
