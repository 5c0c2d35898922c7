use Rattle.std.proofs.Common.{sym, ◌∙◌, arith, length-take}
use Rattle.listing.proofs.Laws.{name_first, name_more, name_blank, name_done}
use Rattle.listing.proofs.names.put_name.Goals as goal

pub loop-letter-init : goal.loop-letter-init
loop-letter-init c = (
  name_first c.args.tables.now.letters _ _ _ c.args.tables.now.all_names (rw (c.start_part-letter-items.ensures, c.end_part.ensures)),
  rw c.start_part-letter-items.ensures (omega (arith, length-take 6 c.end_part.result.now)),
)

pub returns-then-letter-eq32 : goal.returns-then-letter-eq32
returns-then-letter-eq32 c = sym (name_blank _ _ _ (omega arith) c.loop-letter-test.true c.if-letter-eq32.true) ∙ c.loop-letter.invariant.0

pub loop-letter-preserved : goal.loop-letter-preserved
loop-letter-preserved c = (
  rw c.put-at.ensures (sym (name_more _ _ _ (omega arith) c.loop-letter-test.true c.if-letter-eq32.false) ∙ c.loop-letter.invariant.0),
  c.loop-letter.invariant.1,
)

pub returns : goal.returns
returns c = sym (name_done _ _ _ c.loop-letter-test.false) ∙ c.loop-letter.invariant.0
