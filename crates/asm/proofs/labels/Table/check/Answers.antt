use borrow.Author.Tests.{lt-ltb, le-ltb, eq-eqb, ne_eqb}
use Rattle.asm.specs.Assemble.{label_check}
use Rattle.asm.proofs.Laws.{found_set, names_length}
use Rattle.asm.proofs.labels.Table.check.Goals as goal

pub returns-then-k-eq0 : goal.returns-then-k-eq0
unfolding label_check
returns-then-k-eq0 c = rw (eq-eqb _ _ c.if-k-eq0.true)

pub returns-then-is_some : goal.returns-then-is_some
unfolding label_check
returns-then-is_some c = rw (ne_eqb _ _ c.if-k-eq0.false, ← c.labels-set.ensures, ← found_set c.labels-set.result.now c.args.k, ← c.place.ensures, ← c.is_some.ensures, c.if-is_some.true)

pub returns-then-set-lt256 : goal.returns-then-set-lt256
unfolding label_check
returns-then-set-lt256 c = rw (ne_eqb _ _ c.if-k-eq0.false, ← c.labels-set.ensures, ← found_set c.labels-set.result.now c.args.k, ← c.place.ensures, ← c.is_some.ensures, c.if-is_some.false, names_length c.labels-set.result.now, lt-ltb _ _ c.if-set-lt256.true)

pub returns : goal.returns
unfolding label_check
returns c = rw (ne_eqb _ _ c.if-k-eq0.false, ← c.labels-set.ensures, ← found_set c.labels-set.result.now c.args.k, ← c.place.ensures, ← c.is_some.ensures, c.if-is_some.false, names_length c.labels-set.result.now, le-ltb _ _ c.if-set-lt256.false)
