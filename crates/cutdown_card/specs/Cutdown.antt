-- Definition (02, Ticket 1).
-- A card cut down to what it holds, as the tool `./cutdown` writes it: replay with `readout`'s memory, then a copy into a target of as many blocks as the card has.
-- Assumes nothing.
use Rattle.std.specs.Prelude.{◌≡◌, Bool, true, false, cond, not, ◌&&◌, List, ℕ, zero, suc, ◌*◌, ltb, length}
use Rattle.slices.specs.Bytes.{zeros}
use Rattle.slices.specs.Put.{put}
use Rattle.frame.specs.Block.{blocks}
use Rattle.queues.specs.Queues.{Queue}
use Rattle.calls.specs.Refused.{refusal_number}
use Rattle.calls.specs.Replay.{Outcome, refused, left, replay_of}
use Rattle.copy_records.specs.Copy.{CopyLent, copy_refusal, copied}
use Rattle.copy_records.specs.Typed.{QueuesTyped}
use Rattle.readout_text.specs.Card.{readout_scratch, readout_room, not_sized}
use Rattle.std.specs.Prelude.{Result}
use Rattle.cutdown_card.specs.declared.NotCut.{NotCut}
use Rattle.std.specs.Prelude.Result.{Ok, Err}
use Rattle.cutdown_card.specs.declared.NotCut.TheVariants.{Refused, NoRoom}

-- ---- what becomes of a card

-- the refusal's number, of replay or of the copy; or the queues that are cut down to
pub data Cut : Type 0 where
  cut_refused : ℕ → Cut
  cut_to : List Queue → Cut

-- what is lent to the copy: a target, these queues in the memory that replay left arranged, and replay's scratch, which is zero
abbrev pub lent_for : List ℕ → List Queue → ℕ → CopyLent
lent_for target qs limit = record { target = target; queues = qs; arranged = true; scratch = zeros limit }

-- by the copy's refusal, 0 where there is none
unfoldable pub cut_by : ℕ → List Queue → Cut
cut_by zero qs = cut_to qs
cut_by (suc n) qs = cut_refused (suc n)

-- replay refuses, or its queues are copied into the target
unfoldable pub cut_into : List ℕ → ℕ → Outcome → Cut
cut_into target limit (refused n) = cut_refused n
cut_into target limit (left qs) = cut_by (copy_refusal (lent_for target qs limit)) qs

-- as many blocks as the card has
abbrev pub blank_card : List ℕ → List ℕ
blank_card card = zeros (blocks card * 32768)

-- a card of one or two blocks is taken, as `readout` takes it; its replay has `readout`'s memory
unfoldable pub cut_down : List ℕ → Cut
cut_down card = cond (not_sized card) (cut_refused 1) (cut_into (blank_card card) readout_scratch (replay_of card readout_room readout_scratch))

-- the fresh card
unfoldable pub fresh_card : List ℕ → List Queue → List ℕ
fresh_card card qs = copied (blank_card card) qs

-- ---- what is answered and written to a buffer

-- a buffer of so many bytes is shorter than the fresh card of one that is taken
unfoldable pub short_for : List ℕ → ℕ → Bool
short_for card room = not (not_sized card) && ltb room (blocks card * 32768)

-- why there is none, with the number of a refusal
pub data Why : Type 0 where
  by_number : ℕ → Why
  no_room : Why

-- an answer with it
unfoldable pub cut_numbered : Result ℕ NotCut → Result ℕ Why
cut_numbered (Ok n) = Ok n
cut_numbered (Err (Refused r)) = Err (by_number (refusal_number r))
cut_numbered (Err NoRoom) = Err no_room

-- the number of bytes written, or the refusal's number
unfoldable pub answered_by : ℕ → Cut → Result ℕ Why
answered_by n (cut_refused k) = Err (by_number k)
answered_by n (cut_to qs) = Ok n

unfoldable pub cut_answer : List ℕ → ℕ → Result ℕ Why
cut_answer card room = cond (short_for card room) (Err no_room) (answered_by (blocks card * 32768) (cut_down card))

-- the fresh card at the buffer's start, or nothing
unfoldable pub written_by : List ℕ → List ℕ → Cut → List ℕ
written_by card out (cut_refused k) = out
written_by card out (cut_to qs) = put out 0 (fresh_card card qs)

unfoldable pub cut_left : List ℕ → List ℕ → List ℕ
cut_left card out = cond (short_for card (length out)) out (written_by card out (cut_down card))

-- ---- the contract

-- what the type of the payload memory says of the queues
abbrev pub CutTyped : Cut → Type 0
CutTyped (cut_refused n) = Unit {0}
CutTyped (cut_to qs) = QueuesTyped qs

-- A card and a buffer, the answer and the buffer left. `typed` is what the type of the payload memory says, where the card was replayed.
pub record CutKept (card out : List ℕ) (r : Result ℕ NotCut) (out' : List ℕ) : Type 0 where
  pub typed : short_for card (length out) ≡ false → CutTyped (cut_down card)
  pub answer : cut_numbered r ≡ cut_answer card (length out)
  pub buffer_left : out' ≡ cut_left card out
