-- The sizes of a card and of the memory that its listing takes.
-- Assumes nothing.
use mathlib.Core.Path.{◌≡◌, sym, ◌∙◌, ap, ap₂}
use mathlib.Core.Bool.{Bool, false, cond, ◌||◌}
use mathlib.Core.List.{List}
use Prim.Native.Nat.{ℕ, ◌≤◌}
use native.Mathlib.Omega.{arith}
use lib.Dec.{ltb}
use lib.ListN.{length, length-replicate}
use borrow.Author.Tests.{lt-ltb, le-ltb}
use Rattle.slices.specs.Bytes.{zeros}
use Rattle.frame.specs.Block.{blocks}
use Rattle.queues.specs.Queues.{Capacities}
use Rattle.queues.specs.Layout.{Memory, capacities, queue_room, at_most64}
use Rattle.calls.specs.Refusals.{log_refused}
use Rattle.std.specs.Prelude.{Option}
use Rattle.listing.specs.Writing.{written, listed}
use Rattle.listing.specs.Listing.{refusal}
use Rattle.readout_text.specs.Card.{text_in, readout_room, sized_text, not_sized, card_text}
use Rattle.readout_text.specs.Kept.{CardKept}
use Rattle.readout_text.specs.Claims.{TooShort, TooLong}

-- ---- the input

pub too_short : TooShort
unfolding card_text not_sized
too_short input h = ap (λ (b : Bool). cond (b || ltb 65536 (length input)) (refusal 1) (sized_text input)) (lt-ltb (length input) 32768 h)

pub too_long_lem : TooLong
unfolding card_text not_sized
too_long_lem input h =
    ap₂ (λ (a b : Bool). cond (a || b) (refusal 1) (sized_text input)) (le-ltb (length input) 32768 (omega (arith, h))) (lt-ltb 65536 (length input) h)

-- one or two blocks
pub just_sized : (input : List ℕ) → 32768 ≤ length input → length input ≤ 65536 → card_text input ≡ sized_text input
unfolding card_text not_sized
just_sized input h k = ap₂ (λ (a b : Bool). cond (a || b) (refusal 1) (sized_text input)) (le-ltb (length input) 32768 h) (le-ltb 65536 (length input) k)

pub log_sized : (input : List ℕ) → 32768 ≤ length input → length input ≤ 65536 → log_refused input ≡ false
unfolding log_refused
log_sized input h k =
    let low : 1 ≤ blocks input = omega (arith, h) in
    let high : blocks input ≤ 4096 = omega (arith, k) in
    ap₂ (λ (a b : Bool). a || b) (le-ltb (blocks input) 1 low) (le-ltb 4096 (blocks input) high)

-- ---- the memory

room_for : ℕ → ℕ → ℕ → ℕ → Capacities
room_for t ns es ps = record { queues = queue_room t; names = ns; records = es; payloads = ps }

room_is : (m : Memory) → length m.names ≡ 32768 → length m.payloads ≡ 32768 → length m.entries ≡ 1024 → length m.table ≡ 196 → capacities m ≡ readout_room
unfolding capacities queue_room at_most64 room_for
room_is m a b c d =
    ap₂ (λ (k l : ℕ). room_for k l (length m.entries) (length m.payloads)) d a ∙ ap₂ (λ (k l : ℕ). room_for 196 32768 k l) c b

pub sized_left : (input scratch : List ℕ) (m : Memory) (ks out : List ℕ) (r : Option ℕ) (scratch' : List ℕ) (m' : Memory) (ks' out' : List ℕ) → length scratch ≡ 65536 → length m.names ≡ 32768
    → length m.payloads ≡ 32768 → length m.entries ≡ 1024 → length m.table ≡ 196 → out ≡ zeros (length out) → CardKept input scratch m ks out r scratch' m' ks' out'
    → (r ≡ listed (length out) (length (sized_text input))) × (out' ≡ written (zeros (length out)) 0 (sized_text input))
unfolding sized_text
sized_left input scratch m ks out r scratch' m' ks' out' s a b c d clear w =
    let e : text_in input (capacities m) (length scratch) ≡ sized_text input = ap₂ (λ (x : Capacities) (k : ℕ). text_in input x k) (room_is m a b c d) s in (
      w.answer ∙ ap (λ (x : List ℕ). listed (length out) (length x)) e,
      w.text_left ∙ ap₂ (λ (o x : List ℕ). written o 0 x) clear e,
    )

-- ---- the whole, in a buffer t that was cleared from s

pub clear_long : (s t : List ℕ) → t ≡ zeros (length s) → length t ≡ length s
clear_long s t e = ap length e ∙ length-replicate {A = ℕ} (length s) 0

pub still_clear : (s t : List ℕ) → t ≡ zeros (length s) → t ≡ zeros (length t)
still_clear s t e = e ∙ ap zeros (sym (clear_long s t e))

-- the text x of the card is y
module _ (x y s t : List ℕ) (r : Option ℕ) (u : List ℕ) (e : x ≡ y) (clear : t ≡ zeros (length s)) where
  answer_as : r ≡ listed (length t) (length y) → r ≡ listed (length s) (length x)
  answer_as w = w ∙ ap₂ (λ (k : ℕ) (z : List ℕ). listed k (length z)) (clear_long s t clear) (sym e)

  pub refused_as : (r ≡ listed (length t) (length y)) × (u ≡ written t 0 y) → (r ≡ listed (length s) (length x)) × (u ≡ written (zeros (length s)) 0 x)
  refused_as w = (answer_as w.0, w.1 ∙ ap₂ (λ (o z : List ℕ). written o 0 z) clear (sym e))

  pub sized_as : (r ≡ listed (length t) (length y)) × (u ≡ written (zeros (length t)) 0 y) → (r ≡ listed (length s) (length x)) × (u ≡ written (zeros (length s)) 0 x)
  sized_as w = (answer_as w.0, w.1 ∙ ap₂ (λ (k : ℕ) (z : List ℕ). written (zeros k) 0 z) (clear_long s t clear) (sym e))
