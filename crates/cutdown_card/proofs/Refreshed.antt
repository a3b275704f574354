-- The fresh card: what replay and `readout` give for it, and that cutting it down once more changes nothing.
-- Assumes nothing.
use mathlib.Core.Path.{◌≡◌, refl, sym, ap, ap₂, subst, ◌∙◌}
use mathlib.Core.Bool.{Bool, true, false, cond}
use mathlib.Core.List.{List, [], ◌∷◌, ◌++◌, map}
use Prim.Native.Nat.{ℕ, ◌*◌, ◌≤◌}
use native.Mathlib.Omega.{arith}
use lib.Dec.{ltb}
use lib.ListN.{length, take, drop, length-append, length-replicate}
use lib.Seq.{take_at}
use Rattle.slices.specs.Bytes.{Bytes, zeros}
use Rattle.frame.specs.Block.{blocks}
use Rattle.recordlog.specs.Read.{resume}
use Rattle.recordlog.specs.Claims.{Each}
use Rattle.record.specs.Record.{Record, encode}
use Rattle.record.proofs.Codec.{decodes_back}
use Rattle.queues.specs.Queues.{Queue}
use Rattle.queues.proofs.Both.{never}
use Rattle.recordlog.specs.Laid.{place_all, laid}
use Rattle.calls.specs.Refusals.{refuse, first_refusal, log_refused}
use Rattle.calls.specs.Reading.{readings, lost_in}
use Rattle.calls.specs.Lost.{lost_bytes}
use Rattle.calls.specs.Replay.{Outcome, left, replay_of, replayed_by, replay_call}
use Rattle.calls.specs.Claims.{queues_arranged}
use Rattle.calls.specs.Desks.{marks_in, listed_by, marks_listed}
use Rattle.calls.proofs.AnyLog.{replayed_arranged}
use Rattle.calls.proofs.Answers.{Formed}
use Rattle.lost_bytes.specs.Claims.{Decodes}
use Rattle.lost_bytes.proofs.Hit.{records_lose_nothing}
use Rattle.copy_records.specs.Copy.{CopyLent, copy_records, copy_encoded, copy_end, any_longer, copy_too_long, copy_refusals, copy_refusal, copied}
use Rattle.copy_records.specs.Blocks.{copied_queues}
use Rattle.copy_records.specs.Typed.{QueuesTyped}
use Rattle.copy_records.proofs.Again.{arranged_ordered}
use Rattle.copy_records.proofs.Formed.{Shorter, shorter_none}
use Rattle.copy_records.proofs.Copied.{copied_same}
use Rattle.copy_records.proofs.SameCopy.{copy_alike}
use Rattle.copy_records.proofs.Left.{copy_passed, number, encoded, rest, rest_short, room, target_left, formed}
use Rattle.copy_records.proofs.Stands.{states_copy_blocks}
use Rattle.copy_records.proofs.NoMarks.{states_copy_lists_none}
use Rattle.listing.specs.Listing.{shift_lines, listing}
use Rattle.listing.proofs.Unlisted.{blocks_unlisted}
use Rattle.readout_text.specs.Card.{text_by, text_for, text_in, readout_scratch, readout_room, sized_text, not_sized, card_text}
use Rattle.readout_text.proofs.Sizes.{just_sized}
use Rattle.std.specs.Prelude.{Result}
use Rattle.cutdown_card.specs.declared.NotCut.{NotCut}
use Rattle.std.specs.Prelude.Result.{Ok, Err}
use Rattle.cutdown_card.specs.Cutdown.{Cut, cut_refused, cut_to, lent_for, cut_by, cut_into, blank_card, cut_down, fresh_card, short_for, Why, by_number, no_room, cut_numbered, answered_by, cut_answer, written_by, cut_left, CutTyped, CutKept}
use Rattle.cutdown_card.specs.Claims.{Refreshed, CutdownRefreshes, CutdownInside}
use Rattle.cutdown_card.proofs.Sizes.{put_first, fresh_is, fresh_long, was_sized, was_done, sized_is, sized_long}

-- the bytes of records that are well formed mean them
decoded : (rs : List Record) → Formed rs → Each Decodes (map encode rs)
decoded [] w = tt
decoded (r ∷ rs) w = ((r, decodes_back r w.0), decoded rs w.1)

-- ---- queues that are equal but for block numbers have one copy, and one refusal

module _ (rs qs : List Queue) (e : copy_encoded rs ≡ copy_encoded qs) where
  same_refusal : (z : List ℕ) (n : ℕ) → copy_refusal (lent_for z rs n) ≡ copy_refusal (lent_for z qs n)
  unfolding copy_refusals copy_too_long copy_end
  same_refusal z n =
      ap (λ (xs : List (List ℕ)). first_refusal (refuse 1 (log_refused z) ∷ refuse 6 false ∷ refuse 11 (any_longer (length (zeros n)) xs) ∷ refuse 15 (ltb (blocks z * 32768) (place_all 0 xs)) ∷ [])) e

  same_copy : (z : List ℕ) → copied z rs ≡ copied z qs
  unfolding copied
  same_copy z = ap (λ (xs : List (List ℕ)). laid (blocks z) xs ++ drop (blocks z * 32768) z) e

-- ---- a card that is cut down to the queues qs

module _ (card : List ℕ) (qs : List Queue) (b : Bytes card) (t : QueuesTyped qs) (d : cut_down card ≡ cut_to qs) where
  abbrev fresh : List ℕ
  fresh = fresh_card card qs

  abbrev lent : CopyLent
  lent = lent_for (blank_card card) qs readout_scratch

  taken : copy_refusal lent ≡ 0
  taken = (was_done card qs d).taken

  held_is : replay_of card readout_room readout_scratch ≡ left qs
  held_is = (was_done card qs d).outcome_is

  in_room : queues_arranged readout_room qs ≡ true
  in_room = replayed_arranged card readout_room readout_scratch qs b held_is

  long : length fresh ≡ blocks card * 32768
  long = fresh_long card qs readout_scratch taken

  same_blocks : blocks fresh ≡ blocks card
  same_blocks = omega (arith, long)

  -- the same queues, with the blocks of the fresh card
  abbrev anew : List Queue
  anew = copied_queues qs

  same_encoded : copy_encoded anew ≡ copy_encoded qs
  same_encoded = ap (map encode) (copy_alike anew qs (copied_same qs))

  again_is : replay_of fresh readout_room readout_scratch ≡ left anew
  again_is =
      ap (λ (log : List ℕ). replay_of log readout_room readout_scratch) (sym (fresh_is card qs readout_scratch taken))
      ∙ states_copy_blocks lent readout_room taken in_room t readout_scratch (omega (arith, length-replicate {A = ℕ} readout_scratch 0))

  short : Shorter readout_scratch (copy_encoded qs)
  short = subst (λ (n : ℕ). Shorter n (copy_encoded qs)) (length-replicate {A = ℕ} readout_scratch 0) (copy_passed lent taken).in_scratch

  nothing_lost : lost_bytes fresh readout_scratch ≡ 0
  unfolding encoded
  nothing_lost =
      ap (λ (log : List ℕ). lost_bytes log readout_scratch) (sym (fresh_is card qs readout_scratch taken) ∙ target_left lent taken)
      ∙ records_lose_nothing (number lent taken) readout_scratch (encoded lent taken) (rest lent taken) (rest_short lent taken) (room lent taken) short
      (decoded (copy_records qs) (formed lent taken (arranged_ordered readout_room qs in_room) t))

  -- a copy carries no marks
  none_marked : marks_in (readings fresh readout_scratch) ≡ []
  none_marked =
      ap (λ (log : List ℕ). marks_in (readings log readout_scratch)) (sym (fresh_is card qs readout_scratch taken))
      ∙ states_copy_lists_none lent taken (arranged_ordered readout_room qs in_room) t readout_scratch (shorter_none readout_scratch (copy_encoded qs) short)

  pub lists_them : card_text fresh ≡ listing qs 0 (resume fresh readout_scratch) (length fresh)
  unfolding sized_text text_in text_for text_by replay_call replayed_by marks_listed listed_by shift_lines
  lists_them =
      let h = sized_long card (was_sized card qs d) in
      let ms : List ℕ = marks_in (readings fresh readout_scratch) in
      just_sized fresh (omega (arith, long, h.0)) (omega (arith, long, h.1))
      ∙ ap (λ (o : Outcome). text_for (replayed_by o (lost_in (readings fresh readout_scratch)) (lost_bytes fresh readout_scratch) (resume fresh readout_scratch)) (listed_by o ms) (length fresh)) again_is
      ∙ ap₂ (λ (ns : List ℕ) (n : ℕ). shift_lines ns ++ listing anew n (resume fresh readout_scratch) (length fresh)) none_marked nothing_lost
      ∙ blocks_unlisted anew qs 0 (resume fresh readout_scratch) (length fresh) (copied_same qs)

  fresh_sized : not_sized fresh ≡ false
  fresh_sized =
      let h = sized_long card (was_sized card qs d) in
      sized_is fresh (omega (arith, long, h.0)) (omega (arith, long, h.1))

  same_blank : blank_card fresh ≡ blank_card card
  same_blank = ap (λ (k : ℕ). zeros (k * 32768)) same_blocks

  pub stays_so : cut_down fresh ≡ cut_to anew
  unfolding cut_down cut_into cut_by
  stays_so =
      ap₂ (λ (x : Bool) (o : Outcome). cond x (cut_refused 1) (cut_into (blank_card fresh) readout_scratch o)) fresh_sized again_is
      ∙ ap (λ (z : List ℕ). cut_by (copy_refusal (lent_for z anew readout_scratch)) anew) same_blank
      ∙ ap (λ (n : ℕ). cut_by n anew) (same_refusal anew qs same_encoded (blank_card card) readout_scratch ∙ taken)

  pub refreshed : Refreshed card fresh
  unfolding fresh_card
  refreshed =
      record {
        queues = qs;
        held = held_is;
        again = again_is;
        same = copied_same qs;
        as_long = long;
        lists = lists_them;
        stays = stays_so;
        same_bytes = ap (λ (z : List ℕ). copied z anew) same_blank ∙ same_copy anew qs same_encoded (blank_card card);
      }

-- ---- from the contract

module _ (card out out' : List ℕ) (n : ℕ) (w : CutKept card out (Ok n) out') where
  short_by : (x : Bool) → short_for card (length out) ≡ x → Ok n ≡ cond x (Err no_room) (answered_by (blocks card * 32768) (cut_down card)) → short_for card (length out) ≡ false
  short_by true e h = never (cc)
  short_by false e h = e

  had_room : short_for card (length out) ≡ false
  unfolding cut_answer cut_numbered
  had_room = short_by (short_for card (length out)) refl w.answer

  answer_is : Ok n ≡ answered_by (blocks card * 32768) (cut_down card)
  unfolding cut_answer cut_numbered
  answer_is = w.answer ∙ ap (λ (x : Bool). cond x (Err no_room) (answered_by (blocks card * 32768) (cut_down card))) had_room

  left_is : out' ≡ written_by card out (cut_down card)
  unfolding cut_left
  left_is = w.buffer_left ∙ ap (λ (x : Bool). cond x out (written_by card out (cut_down card))) had_room

  -- the fresh card is what is answered, and stands at the start of what is left
  pub record Stands (qs : List Queue) : Type 0 where
    pub down : cut_down card ≡ cut_to qs
    pub typed : QueuesTyped qs
    pub long : length (fresh_card card qs) ≡ n
    pub left : out' ≡ fresh_card card qs ++ drop (length (fresh_card card qs)) out

  stands_on : (qs : List Queue) → cut_down card ≡ cut_to qs → Stands qs
  unfolding answered_by written_by
  stands_on qs d =
      let e : ◌≡◌ {A = Result ℕ Why} (Ok n) (Ok (blocks card * 32768)) = answer_is ∙ ap (answered_by (blocks card * 32768)) d in
      let f : n ≡ blocks card * 32768 = cc in
      record {
        down = d;
        typed = subst CutTyped d (w.typed had_room);
        long = fresh_long card qs readout_scratch (was_done card qs d).taken ∙ sym f;
        left = left_is ∙ ap (written_by card out) d ∙ put_first out (fresh_card card qs);
      }

  stands_by : {A : Type 0} → ((qs : List Queue) → Stands qs → A) → (c : Cut) → cut_down card ≡ c → A
  unfolding answered_by
  stands_by go (cut_refused k) d = let e : ◌≡◌ {A = Result ℕ Why} (Ok n) (Err (by_number k)) = answer_is ∙ ap (answered_by (blocks card * 32768)) d in never (cc)
  stands_by go (cut_to qs) d = go qs (stands_on qs d)

pub cutdown_refreshes : CutdownRefreshes
cutdown_refreshes card out out' n b w = stands_by card out out' n w go (cut_down card) refl
  where
    go : (qs : List Queue) → Stands card out out' n w qs → Refreshed card (take n out')
    go qs s =
        subst (Refreshed card) (sym (ap (take n) s.left ∙ take_at (fresh_card card qs) (drop (length (fresh_card card qs)) out) n s.long))
        (refreshed card qs b s.typed s.down)

inside : (card out out' : List ℕ) (n : ℕ) → CutKept card out (Ok n) out' → n ≤ length out'
inside card out out' n w = stands_by card out out' n w go (cut_down card) refl
  where
    go : (qs : List Queue) → Stands card out out' n w qs → n ≤ length out'
    go qs s = omega (arith, s.long, ap length s.left, length-append (fresh_card card qs) (drop (length (fresh_card card qs)) out))

pub cutdown_inside : CutdownInside
cutdown_inside card out out' r n e w = inside card out out' n (subst (λ (x : Result ℕ NotCut). CutKept card out x out') e w)
