-- `report::feed_log` meets its contract.
-- Assumes nothing.
use Rattle.report.proofs.Refusing.{feed_passed}
use Rattle.report.proofs.Left.{numbers_fit, stored}
use Rattle.report.proofs.Left.{pack_room}
use Rattle.report.proofs.feed_log.Goals as goal

pub numbers_in-numbers-requires : goal.numbers_in-numbers-requires
numbers_in-numbers-requires c = (feed_passed _ _ c.requires).ok.long

pub count_log-fed-requires : goal.count_log-fed-requires
count_log-fed-requires c = (
  (feed_passed _ _ c.requires).sized.some,
  numbers_fit _ _ (feed_passed _ _ c.requires) _ c.numbers_in-numbers.ensures,
)

pub pack-requires : goal.pack-requires
pack-requires c = pack_room _ _ (feed_passed _ _ c.requires) _ _ c.numbers_in-numbers.ensures c.count_log-fed.ensures

pub returns : goal.returns
returns c = stored _ _ (feed_passed _ _ c.requires) _ _ c.numbers_in-numbers.ensures c.count_log-fed.ensures _ c.pack.ensures
