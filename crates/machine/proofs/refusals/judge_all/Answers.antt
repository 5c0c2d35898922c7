use borrow.Author.Tests.{lt-ltb, le-ltb}
use Rattle.machine.specs.Run.{judge}
use Rattle.machine.proofs.refusals.judge_all.Goals as goal

pub returns-then-is_bad_length : goal.returns-then-is_bad_length
unfolding judge
returns-then-is_bad_length c = rw (← c.is_bad_length.ensures, c.if-is_bad_length.true)

pub returns-then-is_bad_room : goal.returns-then-is_bad_room
unfolding judge
returns-then-is_bad_room c = rw (← c.is_bad_room.ensures, c.if-is_bad_room.true, ← c.is_bad_length.ensures, c.if-is_bad_length.false)

pub returns-then-has_bad_mark : goal.returns-then-has_bad_mark
unfolding judge
returns-then-has_bad_mark c = rw (← c.has_bad_mark.ensures, c.if-has_bad_mark.true, ← c.is_bad_room.ensures, c.if-is_bad_room.false, ← c.is_bad_length.ensures, c.if-is_bad_length.false)

pub returns-then-is_out_of_form : goal.returns-then-is_out_of_form
unfolding judge
returns-then-is_out_of_form c = rw (← c.is_out_of_form.ensures, c.if-is_out_of_form.true, ← c.has_bad_mark.ensures, c.if-has_bad_mark.false, ← c.is_bad_room.ensures, c.if-is_bad_room.false, ← c.is_bad_length.ensures, c.if-is_bad_length.false)

pub returns-then-t-b : goal.returns-then-t-b
unfolding judge
returns-then-t-b c = rw (lt-ltb _ _ c.if-t-b.true, ← c.is_out_of_form.ensures, c.if-is_out_of_form.false, ← c.has_bad_mark.ensures, c.if-has_bad_mark.false, ← c.is_bad_room.ensures, c.if-is_bad_room.false, ← c.is_bad_length.ensures, c.if-is_bad_length.false)

pub returns-then-has_above : goal.returns-then-has_above
unfolding judge
returns-then-has_above c = rw (← c.has_above.ensures, c.if-has_above.true, le-ltb _ _ c.if-t-b.false, ← c.is_out_of_form.ensures, c.if-is_out_of_form.false, ← c.has_bad_mark.ensures, c.if-has_bad_mark.false, ← c.is_bad_room.ensures, c.if-is_bad_room.false, ← c.is_bad_length.ensures, c.if-is_bad_length.false)

pub returns : goal.returns
unfolding judge
returns c = rw (← c.has_above.ensures, c.if-has_above.false, le-ltb _ _ c.if-t-b.false, ← c.is_out_of_form.ensures, c.if-is_out_of_form.false, ← c.has_bad_mark.ensures, c.if-has_bad_mark.false, ← c.is_bad_room.ensures, c.if-is_bad_room.false, ← c.is_bad_length.ensures, c.if-is_bad_length.false)
