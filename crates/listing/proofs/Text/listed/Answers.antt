-- `listing::Text::listed` meets its contract.
-- Assumes nothing.
use Rattle.std.proofs.Common.{rules}
use Rattle.listing.specs.Writing.{listed}
use Rattle.listing.proofs.Text.listed.Goals as goal

pub returns : goal.returns
unfolding listed
returns c = search rules
