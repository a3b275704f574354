-- The cycle of calls {put_decimal}: the digits before the last one are those of n / 10. The measure is n.
-- Assumes nothing.
use Rattle.listing.proofs.Text.+put_decimal.Given as goal

abbrev pub decreases-put_decimal : goal.decreases-put_decimal
decreases-put_decimal l = l.n
