-- `readout_text::card::list_card` meets its contract: by the size of the input.
-- Assumes nothing.
use Rattle.readout_text.proofs.Sizes.{too_short, too_long_lem, just_sized, still_clear, refused_as, sized_as}
use Rattle.readout_text.proofs.card.list_card.Goals as goal
use Rattle.readout_text.proofs.card.list_card.Goals.{then-input-lt-BLOCK_NUM_BYTES-via-then-input-lt-BLOCK_NUM_BYTES, then-input-lt-BLOCK_NUM_BYTES-via-else-input-lt-BLOCK_NUM_BYTES+then-input-gt-MAX_CARD_LEN}

pub returns-then-input-lt-BLOCK_NUM_BYTES : goal.returns-then-input-lt-BLOCK_NUM_BYTES
returns-then-input-lt-BLOCK_NUM_BYTES c =
    let a = c.args in
    elim c.then-input-lt-BLOCK_NUM_BYTES.branch [
      | then-input-lt-BLOCK_NUM_BYTES-via-then-input-lt-BLOCK_NUM_BYTES w ↦
          refused_as _ _ a.out.now _ _ _ (too_short a.input.now w.if-input-lt-BLOCK_NUM_BYTES.true) c.clear.ensures (rw c.number.ensures at c.refused.ensures)
      | then-input-lt-BLOCK_NUM_BYTES-via-else-input-lt-BLOCK_NUM_BYTES+then-input-gt-MAX_CARD_LEN w ↦
          refused_as _ _ a.out.now _ _ _ (too_long_lem a.input.now w.if-input-gt-MAX_CARD_LEN.true) c.clear.ensures (rw c.number.ensures at c.refused.ensures)
    ]

pub list_sized-requires : goal.list_sized-requires
list_sized-requires c =
    let a = c.args in
    (c.if-input-lt-BLOCK_NUM_BYTES.false, (c.if-input-gt-MAX_CARD_LEN.false, still_clear a.out.now _ c.clear.ensures))

pub returns : goal.returns
returns c =
    let a = c.args in
    sized_as _ _ a.out.now _ _ _ (just_sized a.input.now c.if-input-lt-BLOCK_NUM_BYTES.false c.if-input-gt-MAX_CARD_LEN.false) c.clear.ensures c.list_sized.ensures
