use Rattle.listing.specs.Listing.{listing_of}
use Rattle.text.specs.Pages.{page, write_on}
use lib.ListN.{length}
use mathlib.Core.Bool.{true, cond}
use mathlib.Core.Path.{◌≡◌}
use Prim.Native.Nat.{◌+◌, ◌-◌, ◌*◌, ◌≤◌}
use Rattle.listing.proofs.ranges.put_lines.Given as goal

abbrev pub invariant-loop-at : goal.invariant-loop-at
invariant-loop-at l =
    (l.total + length (listing_of l.image l.at l.end) ≡ length (listing_of l.image l.start l.end)) × (l.to ≡ cond l.keep l.total 0)
    × (l.keep ≡ true → write_on (listing_of l.image l.at l.end) (page l.out l.to) ≡ write_on (listing_of l.image l.start l.end) (page l.initial.out 0))
    × (length l.out ≡ length l.initial.out) × (l.total ≤ 24 * l.at) × (l.at ≤ 65540)

abbrev pub decreases-loop-at : goal.decreases-loop-at
decreases-loop-at l = l.end - l.at
