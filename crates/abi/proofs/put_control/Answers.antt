use Rattle.abi.proofs.Parts.{control_written}
use Rattle.abi.proofs.put_control.Goals as goal

pub returns : goal.returns
returns c =
    rw (c.put-4.ensures, c.put-3.ensures, c.put-2.ensures, c.put.ensures)
    (control_written c.args.r.now c.args.f c.args.c)
