-- `listing::lines::fill_tenths` meets its contract.
-- Assumes nothing.
use Rattle.listing.specs.Listing.{fill_tenths, whole_bytes}
use Rattle.listing.proofs.lines.fill_tenths.Goals as goal

pub returns : goal.returns
unfolding fill_tenths whole_bytes
returns c = c.half_even.ensures
