use mir.Syntax.{w32, w64}
use mir.ValLaws.{to_z-of_z}
use Rattle.expr.proofs.Signed.{fits_fitted, unfit_large}
use Rattle.expr.proofs.values.fit.Goals as goal

pub returns-in-Ok : goal.returns-in-Ok
returns-in-Ok c = let e = to_z-of_z w64 c.args.v c.ranges.v in let h = rw e at c.in-Ok.ensures in rw (h.1, to_z-of_z w32 c.args.v h.0) (fits_fitted c.args.v h.0)

pub returns-in-Err : goal.returns-in-Err
returns-in-Err c = let e = to_z-of_z w64 c.args.v c.ranges.v in unfit_large c.args.v (rw e at c.in-Err.ensures)
