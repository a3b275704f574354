-- The computed facts on the text: 01's example, numbers, fills, shifts, a refusal.
-- Assumes nothing.
use mathlib.Core.Path.{refl}
use Rattle.queues.specs.Queues.{next, next_from}
use Rattle.listing.specs.Digits.{digit, hex_run, hex, decimal_in, decimal}
use Rattle.listing.specs.Listing.{numbered, number_line, shift_lines, head_line, queue_line, record_line, record_lines, queue_lines, whole_bytes, half_even, fill_tenths, fill_line, end_lines, listing, refusal}
use Rattle.listing.specs.Claims.{Example, LastNumber, Fills, ShiftTexts, RefusalText}

pub example : Example
unfolding next next_from digit hex_run hex decimal_in decimal numbered number_line head_line queue_line record_line record_lines queue_lines whole_bytes half_even fill_tenths fill_line end_lines listing
example = refl

pub last_number : LastNumber
unfolding digit decimal_in decimal
last_number = (refl, refl)

pub fills : Fills
unfolding whole_bytes half_even fill_tenths
fills = (refl, refl)

pub shift_texts : ShiftTexts
unfolding digit decimal_in decimal numbered number_line shift_lines
shift_texts = refl

pub refusal_text : RefusalText
unfolding digit decimal_in decimal numbered number_line refusal
refusal_text = refl
