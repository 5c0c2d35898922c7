use Rattle.std.proofs.Common.{refl}
use Rattle.listing.specs.Names.{names}
use Rattle.listing.proofs.names.Tables.new.Goals as goal

pub invariant_of-result : goal.invariant_of-result
unfolding names
invariant_of-result c = record { all_digits = c.glyph_table.ensures; all_names = refl }
