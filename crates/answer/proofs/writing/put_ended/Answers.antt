use Rattle.answer.proofs.Laws.{write_refused, write_ended}
use mathlib.Core.Path.{sym}
use Rattle.answer.proofs.writing.put_ended.Goals as goal

pub returns-then-n-lt10 : goal.returns-then-n-lt10
returns-then-n-lt10 c = rw c.put_end-a.ensures (sym (write_refused c.args.e _ c.number-n.ensures _ c.if-n-lt10.true))

pub returns : goal.returns
returns c = rw (c.put_state.ensures, c.put_end-a.ensures) (sym (write_ended c.args.e _ c.number-n.ensures _ c.if-n-lt10.false))
