-- `report_text::feed_card` meets its contract.
-- Assumes nothing.
use Rattle.report_text.proofs.Cards.{card_long, card_fed}
use Rattle.report_text.proofs.feed_card.Goals as goal

pub returns-then-card-gt-MAX_CARD_LEN : goal.returns-then-card-gt-MAX_CARD_LEN
returns-then-card-gt-MAX_CARD_LEN c = card_long _ _ c.if-card-gt-MAX_CARD_LEN.true

pub returns : goal.returns
returns c = card_fed _ _ _ _ c.if-card-gt-MAX_CARD_LEN.false c.feed.ensures.0 c.feed.ensures.1
