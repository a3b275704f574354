-- What a copy left stands: its records with the frames that they own lie in the target, and replay gives what is held, with the blocks of the copy.
-- Assumes nothing.
use mathlib.Core.Path.{◌≡◌, refl, sym, ap, subst, ◌∙◌}
use mathlib.Core.Bool.{true}
use mathlib.Core.List.{List, [], ◌∷◌, ◌++◌, map}
use Prim.Native.Nat.{ℕ, ◌*◌, ◌≤◌}
use lib.ListN.{length}
use Rattle.recordlog.specs.Write.{place_after}
use Rattle.recordlog.specs.Laid.{place_all, laid}
use Rattle.recordlog.specs.Claims.{Each}
use Rattle.record.specs.Record.{Record, encode}
use Rattle.queues.specs.Queues.{Capacities}
use Rattle.calls.specs.State.{State}
use Rattle.calls.specs.Machine.{Listed, records_of}
use Rattle.calls.specs.Replay.{left, replay_of}
use Rattle.calls.specs.Unblocked.{unblocked_outcome}
use Rattle.calls.specs.Claims.{queues_arranged}
use Rattle.calls.proofs.Answers.{Formed}
use Rattle.calls.proofs.Follows.{Owns, Standing}
use Rattle.calls.proofs.PlacedRuns.{replaying}
use Rattle.copy_records.specs.Copy.{copy_records, CopyLent, copy_refusal, copy_of}
use Rattle.copy_records.specs.Machine.{listed_from}
use Rattle.copy_records.specs.Blocks.{copied_queues}
use Rattle.copy_records.specs.Typed.{QueuesTyped}
use Rattle.copy_records.specs.Claims.{CopyListed, StatesCopyReplays, StatesCopyBlocks}
use Rattle.copy_records.proofs.Again.{arranged_ordered, copy_records_replay}
use Rattle.copy_records.proofs.Copied.{copied_same}
use Rattle.copy_records.proofs.Left.{number, rest, encoded, target_left, end_left, rest_short, room, some, most, formed, in_limit}

-- ---- the copy's records with the frames that they own

listed-records : (p : ℕ) (rs : List Record) → records_of (listed_from p rs) ≡ rs
unfolding listed_from
listed-records p [] = refl
listed-records p (r ∷ rs) = ap (◌∷◌ r) (listed-records (place_after p (encode r)) rs)

pub copy_listed : CopyListed
copy_listed qs = listed-records 0 (copy_records qs)

listed_owns : (p : ℕ) (rs : List Record) → Owns p (listed_from p rs)
unfolding listed_from
listed_owns p [] = tt
listed_owns p (r ∷ rs) = (refl, listed_owns (place_after p (encode r)) rs)

-- ---- the target, with the queues that replay gives of it

abbrev pub copied_state : CopyLent → Capacities → ℕ → State
copied_state s c limit =
    record { log = (copy_of s).target; place = (copy_of s).end; queues = copied_queues s.queues; arranged = true; capacities = c; scratch = limit }

module _ (s : CopyLent) (c : Capacities) (e : copy_refusal s ≡ 0) (a : queues_arranged c s.queues ≡ true) (t : QueuesTyped s.queues)
    (limit : ℕ) (h : length s.scratch ≤ limit) where
  abbrev list : List Listed
  list = listed_from 0 (copy_records s.queues)

  pub copy_stands : Standing (copied_state s c limit) (listed_from 0 (copy_records s.queues))
  unfolding number rest encoded
  copy_stands =
      record {
        number = number s e;
        tail = rest s e;
        some = some s e;
        most = most s e;
        short = rest_short s e;
        arranged_is = refl;
        log_is = target_left s e ∙ ap (λ (rs : List Record). laid (number s e) (map encode rs) ++ rest s e) (sym same);
        place_is = end_left s e ∙ ap (λ (rs : List Record). place_all 0 (map encode rs)) (sym same);
        room = subst (λ (rs : List Record). place_all 0 (map encode rs) ≤ number s e * 32768) (sym same) (room s e);
        in_scratch = subst (λ (rs : List Record). Each (λ (xs : List ℕ). length xs ≤ limit) (map encode rs)) (sym same) (in_limit s e limit h);
        formed = subst Formed (sym same) (formed s e (arranged_ordered c s.queues a) t);
        owns = listed_owns 0 (copy_records s.queues);
        replayed = copy_records_replay c s.queues a;
      }
    where
      same : records_of list ≡ copy_records s.queues
      same = copy_listed s.queues

  blocks_again : replay_of (copy_of s).target c limit ≡ left (copied_queues s.queues)
  blocks_again = replaying (copied_state s c limit) list copy_stands

pub states_copy_blocks : StatesCopyBlocks
states_copy_blocks s c e a t limit h = blocks_again s c e a t limit h

pub states_copy_replays : StatesCopyReplays
unfolding unblocked_outcome
states_copy_replays s c e a t limit h = ap unblocked_outcome (blocks_again s c e a t limit h) ∙ ap left (copied_same s.queues)
