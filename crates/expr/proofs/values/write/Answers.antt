use mir.Syntax.{w32}
use mir.ValLaws.{to_z-of_z}
use lib.IntN.{pos}
use Rattle.expr.proofs.Signed.{fits_written, unfit_written}
use Rattle.expr.proofs.values.write.Goals as goal

pub returns-in-Ok : goal.returns-in-Ok
returns-in-Ok c = rw (c.in-Ok.ensures.1, to_z-of_z w32 (pos c.args.n) c.in-Ok.ensures.0) (fits_written c.args.n c.in-Ok.ensures.0)

pub returns-in-Err : goal.returns-in-Err
returns-in-Err c = unfit_written c.args.n c.in-Err.ensures
