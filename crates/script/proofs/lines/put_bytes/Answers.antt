use Rattle.script.proofs.Laws.{put_more, put_none}
use lib.ListN.{length-set}
use mathlib.Core.Path.{sym, ◌∙◌}
use Rattle.script.proofs.lines.put_bytes.Goals as goal

pub loop-i-preserved : goal.loop-i-preserved
loop-i-preserved c = (
  rw (c.put_byte.ensures, length-set) c.loop-i.invariant.0,
  rw (c.put_byte.ensures, c.pair.ensures)
      (sym (put_more _ _ _ _ c.loop-i-test.true) ∙ c.loop-i.invariant.1),
)

pub returns : goal.returns
returns c = sym (put_none _ _ _ _ c.loop-i-test.false) ∙ c.loop-i.invariant.1
