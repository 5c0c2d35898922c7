use Rattle.std.proofs.Common.{◌≡◌, ◌-◌, ◌≤◌, length, drop}
use Rattle.listing.specs.Names.{letters_in, name_at}
use Rattle.text.specs.Pages.{page, write_on}
use Rattle.listing.proofs.names.put_name.Given as goal

abbrev pub invariant-loop-letter : goal.invariant-loop-letter
invariant-loop-letter l =
    (write_on (letters_in (6 - l.letter-index) (drop l.letter-index l.letter-items)) (page l.out l.at) ≡ write_on (name_at l.place) (page l.initial.out l.from))
    × (length l.letter-items ≤ 6)
