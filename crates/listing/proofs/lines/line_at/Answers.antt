use Rattle.listing.proofs.Ranged.{line_made}
use Rattle.listing.proofs.lines.line_at.Goals as goal

pub returns : goal.returns
returns c = line_made _ _ _ _ _ _ _ c.entry_at-x.ensures c.size.ensures.0 c.byte_sum-next.ensures c.put_entry-length.ensures
