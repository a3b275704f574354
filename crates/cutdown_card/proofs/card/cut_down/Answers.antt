-- `cutdown_card::card::cut_down` meets its contract.
-- Assumes nothing.
use mathlib.Core.Path.{refl, sym}
use lib.Seq.{length-take-le}
use Rattle.cutdown_card.proofs.Sizes.{too_short, too_long_lem, no_room_lem, in_the_buffer}
use Rattle.cutdown_card.proofs.card.cut_down.Goals as goal
use Rattle.cutdown_card.proofs.card.cut_down.Goals.{then-card-lt-BLOCK_NUM_BYTES-via-then-card-lt-BLOCK_NUM_BYTES, then-card-lt-BLOCK_NUM_BYTES-via-else-card-lt-BLOCK_NUM_BYTES+then-card-gt-MAX_CARD_LEN}

pub returns-then-card-lt-BLOCK_NUM_BYTES : goal.returns-then-card-lt-BLOCK_NUM_BYTES
returns-then-card-lt-BLOCK_NUM_BYTES c =
    let a = c.args in
    elim c.then-card-lt-BLOCK_NUM_BYTES.branch [
      | then-card-lt-BLOCK_NUM_BYTES-via-then-card-lt-BLOCK_NUM_BYTES w ↦ too_short a.card.now a.out.now w.if-card-lt-BLOCK_NUM_BYTES.true
      | then-card-lt-BLOCK_NUM_BYTES-via-else-card-lt-BLOCK_NUM_BYTES+then-card-gt-MAX_CARD_LEN w ↦ too_long_lem a.card.now a.out.now w.if-card-gt-MAX_CARD_LEN.true
    ]

pub returns-then-out-len : goal.returns-then-out-len
returns-then-out-len c =
    let a = c.args in
    no_room_lem a.card.now a.out.now c.if-card-lt-BLOCK_NUM_BYTES.false c.if-card-gt-MAX_CARD_LEN.false _ refl c.if-out-len.true

pub slice_bounds-cut_sized-end-2 : goal.slice_bounds-cut_sized-end-2
slice_bounds-cut_sized-end-2 c = sym (length-take-le _ _ c.if-out-len.false)

pub returns : goal.returns
returns c =
    let a = c.args in
    in_the_buffer a.card.now a.out.now c.if-card-lt-BLOCK_NUM_BYTES.false c.if-card-gt-MAX_CARD_LEN.false _ refl c.if-out-len.false _ _ c.cut_sized.ensures
