use mir.Syntax.{w32}
use mir.ValLaws.{to_z-of_z}
use Rattle.expr.proofs.Names.{found_means}
use Rattle.expr.proofs.Signed.{signed_bits}
use Rattle.expr.proofs.labels.mean.Goals as goal

pub returns-in-Some : goal.returns-in-Some
returns-in-Some c =
    rw (← found_means c.args.labels.now c.args.k, ← c.place.ensures, c.in-Some.is, to_z-of_z w32 c.cast_signed.result (record { sfits = c.cast_signed.type_inv }), c.cast_signed.ensures, signed_bits)

pub returns-in-None : goal.returns-in-None
returns-in-None c = rw (← found_means c.args.labels.now c.args.k, ← c.place.ensures, c.in-None.is)
