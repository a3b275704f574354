use Rattle.std.proofs.Common.{refl, ◌∙◌}
use Rattle.listing.specs.Digits.{hex_run}
use Rattle.listing.proofs.Writes.{wrote_none_lem}
use Rattle.listing.proofs.Notation.{hex_next}
use Rattle.listing.proofs.Text.put_hex_run.Goals as goal

pub loop-b-init : goal.loop-b-init
unfolding hex_run
loop-b-init c = (refl, wrote_none_lem _ _)

pub loop-b-preserved : goal.loop-b-preserved
loop-b-preserved c = (
  c.put_byte-in-loop-b.ensures.same ∙ c.put_byte.ensures.same ∙ c.loop-b.invariant.0,
  hex_next _ _ c.loop-b-test.true c.loop-b.invariant.1 c.digit.ensures c.put_byte.ensures.puts c.digit-in-loop-b.ensures c.put_byte-in-loop-b.ensures.puts,
)
