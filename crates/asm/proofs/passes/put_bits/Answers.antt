use Prim.Native.Nat.{◌/◌, ◌%◌}
use mathlib.Core.Path.{◌≡◌}
use native.Mathlib.Omega.{arith}
use Rattle.forms.specs.Says.{bytes_in}
use Rattle.text.specs.Pages.{write_on}
use Rattle.asm.proofs.passes.put_bits.Goals as goal

pub returns-in-Half : goal.returns-in-Half
unfolding bytes_in
returns-in-Half c =
    let e : c.in-Half.h / 256 % 256 ≡ c.in-Half.h / 256 = omega arith in
    rw (c.in-Some.is, c.in-Half.is, ← e, ← c.to_be_bytes-bytes.ensures, ← c.put_all.ensures)

pub returns-in-Pair : goal.returns-in-Pair
unfolding bytes_in
returns-in-Pair c =
    let e : c.in-Pair.h / 256 % 256 ≡ c.in-Pair.h / 256 = omega arith in
    let f : c.in-Pair.s / 256 % 256 ≡ c.in-Pair.s / 256 = omega arith in
    let p = rw (c.to_be_bytes.ensures, c.to_be_bytes-in-Pair.ensures, e, f) at c.put_all-in-Pair.ensures in
    rw (c.in-Some.is, c.in-Pair.is) p

pub returns-in_default : goal.returns-in_default
unfolding bytes_in write_on
returns-in_default c = rw c.in_default.is
