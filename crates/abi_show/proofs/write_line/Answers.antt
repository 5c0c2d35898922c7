use Rattle.std.proofs.Common.{◌≡◌, Bool, true, false, refl, ◌∙◌}
use Rattle.std.specs.Int.{from_bool}
use Rattle.word.specs.Bits.{num}
use Rattle.abi_show.specs.Show.{written_to}
use Rattle.abi_show.proofs.write_line.Goals as goal

same_number : (b : Bool) → from_bool b ≡ num b
same_number true = refl
same_number false = refl

pub returns : goal.returns
unfolding written_to
returns c =
    let found = c.from.ensures ∙ same_number c.has_address.result ∙ c.has_address.ensures in
    rw (c.place-6.ensures, c.place-5.ensures, c.detail.ensures, c.place-4.ensures, c.from-2.ensures, c.letter.ensures, c.place-3.ensures, found, c.place-2.ensures, c.address.ensures, c.place.ensures)
