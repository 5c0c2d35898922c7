use Rattle.std.proofs.Common.{◌≡◌, ◌≤◌, ◌<◌, ◌-◌, arith}
use Rattle.std.proofs.lemmas.Int.{ints}
use borrow.Author.Tests.{lt-ltb, le-ltb}
use Rattle.text.specs.Digits.{signed_text}
use Rattle.text.specs.Pages.{write_on}
use Rattle.text.proofs.writing.put_signed.Goals as goal

pub returns-then-signed-lt0 : goal.returns-then-signed-lt0
unfolding signed_text write_on
returns-then-signed-lt0 c =
    let low : 2147483648 ≤ c.args.n = grind (arith, ints) in
    let size : c.unsigned_abs.result ≡ 4294967296 - c.args.n = grind (arith, ints) in
    rw (c.put_number.ensures, size, c.put-a.ensures, le-ltb _ _ low)

pub returns : goal.returns
unfolding signed_text
returns c =
    let high : c.args.n < 2147483648 = grind (arith, ints) in
    rw (c.put_number-2.ensures, lt-ltb _ _ high)
