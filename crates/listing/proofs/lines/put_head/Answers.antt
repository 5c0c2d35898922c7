use Rattle.listing.proofs.Laws.{head_digits}
use Rattle.listing.proofs.lines.put_head.Goals as goal

pub returns : goal.returns
returns c = rw (c.put_all.ensures, c.last_digit-12.ensures, c.last_digit-11.ensures, c.last_digit-10.ensures, c.last_digit-9.ensures, c.last_digit-8.ensures, c.last_digit-7.ensures, c.last_digit-6.ensures, c.last_digit-5.ensures, c.last_digit-4.ensures, c.last_digit-3.ensures, c.last_digit-2.ensures, c.last_digit.ensures, head_digits _ _ _ c.args.tables.now.all_digits)
