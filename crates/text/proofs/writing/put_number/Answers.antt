use Rattle.text.proofs.Spelling.{write_one, write_two}
use Rattle.text.proofs.writing.put_number.Goals as goal

pub returns-then-n-lt10 : goal.returns-then-n-lt10
returns-then-n-lt10 c = rw (c.put.ensures, c.glyph.ensures) (write_one _ _ c.if-n-lt10.true)

pub returns-then-n-lt100 : goal.returns-then-n-lt100
returns-then-n-lt100 c =
    write_two _ _ _ _ _ _ c.put-then-n-lt100.ensures c.put-a.ensures
    c.glyph-then-n-lt100-2.ensures c.glyph-then-n-lt100.ensures
    c.if-n-lt10.false c.if-n-lt100.true
