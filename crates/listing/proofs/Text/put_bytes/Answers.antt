use Rattle.std.proofs.Common.{refl, ◌∙◌}
use Rattle.listing.proofs.Writes.{wrote_none_lem, bytes_next}
use Rattle.listing.proofs.Text.put_bytes.Goals as goal

pub loop-b-init : goal.loop-b-init
loop-b-init c = (refl, wrote_none_lem _ _)

pub loop-b-preserved : goal.loop-b-preserved
loop-b-preserved c = (c.put_byte.ensures.same ∙ c.loop-b.invariant.0, bytes_next _ _ c.loop-b-test.true c.loop-b.invariant.1 c.put_byte.ensures.puts)
