-- From what replay leaves to the listing: what the listing asks holds, and the text that is left is the one that the definitions give.
-- Assumes nothing.
use mathlib.Core.Path.{◌≡◌, refl, sym, ◌∙◌, ap, ap₂, subst}
use mathlib.Core.Bool.{Bool, true, false, cond}
use mathlib.Core.List.{List, [], ◌++◌}
use Prim.Native.Nat.{ℕ, ◌*◌, ◌≤◌}
use native.Mathlib.Omega.{arith}
use lib.ListN.{length, length-replicate}
use Rattle.slices.specs.Bytes.{zeros}
use Rattle.frame.specs.Block.{blocks}
use Rattle.recordlog.specs.Read.{resume}
use Rattle.queues.specs.declared.RecordEntry.{RecordEntry}
use Rattle.queues.specs.Queues.{Queue}
use Rattle.queues.specs.Layout.{Memory, memory, meaning, arranged, capacities, Leaves}
use Rattle.calls.specs.Refusals.{log_refused}
use Rattle.calls.specs.Reading.{readings, lost_in}
use Rattle.calls.specs.Lost.{lost_bytes}
use Rattle.calls.specs.Replay.{Outcome, refused, left, replay_of, replayed_by, replay_call, outcome_queues, replay_scratch}
use Rattle.calls.specs.Desks.{marks_in, listed_by, marks_listed}
use Rattle.calls.proofs.Passed.{log_taken}
use Rattle.calls.proofs.AnyLog.{resumes_in_log}
use Rattle.read_step.specs.declared.Replayed.{Replayed}
use Rattle.calls.specs.declared.Refusal.{Refusal}
use Rattle.calls.specs.Refused.{refusal_number, numbered}
use Rattle.largest.specs.Table.{kept_left, kept_when, table_left}
use Rattle.contracts.specs.Promises.{replay_answer_by, replay_answer, ReplayKept}
use Rattle.contracts.specs.Turning.{QueuesLeft, QueuesReplayed}
use Rattle.contracts.proofs.ReplayTable.{taken, queues_kept, table_kept_lem}
use Rattle.std.specs.Prelude.{Option, Result, Ok, Err}
use Rattle.listing.specs.Writing.{written, listed}
use Rattle.listing.specs.Internal.{behind, Wrote, Lists, ListsFrom}
use Rattle.listing.specs.Listing.{shift_lines, listing, refusal}
use Rattle.listing.specs.Claims.{LogFits}
use Rattle.listing.proofs.Writes.{wrote-length, wrote, on, reads, listed-behind}
use Rattle.shift_lines.specs.Shifts.{marks_text}
use Rattle.readout_text.specs.Card.{text_by, text_for, text_in}
use Rattle.readout_text.specs.Kept.{CardKept}

-- an answer with the number of its refusal
abbrev as_number : Result Replayed Refusal → Result Replayed ℕ
as_number a = numbered a

-- ---- the further table, which is as long as the record table

module _ (input scratch scratch' : List ℕ) (m m' : Memory) (ks ks' : List ℕ) (a : Result Replayed Refusal) (long : length m.entries ≤ length ks)
    (k : ReplayKept input scratch m ks a scratch' m' ks') where
  -- replay comes to what it comes to without the table
  pub as_replayed : QueuesReplayed input scratch m (numbered a) scratch' m'
  as_replayed = queues_kept input m ks (λ _. long) scratch scratch' m' a ks' k

  table_left_lem : log_refused input ≡ false → ks' ≡ kept_left ks m'
  unfolding kept_when
  table_left_lem legal =
      let e : ks' ≡ table_left (taken input) ks m' = k.largest_left ∙ sym (table_kept_lem input m ks (λ _. long) scratch scratch' m' a as_replayed).largest_left in
      e ∙ ap (λ (b : Bool). table_left (cond b 0 1) ks m') legal

-- ---- what replay came to, and the text for it

module _ (lost bytes p : ℕ) (shifts : List ℕ) (n : ℕ) where
  abbrev told : Outcome → Result Replayed ℕ
  told o = replay_answer (replayed_by o lost bytes p)

  abbrev text : Outcome → List ℕ
  text o = text_for (replayed_by o lost bytes p) (listed_by o shifts) n

  -- where replay answered a refusal, or a number of bytes lost and a place
  pub refused_text : (o : Outcome) (k : ℕ) → Err k ≡ told o → refusal k ≡ text o
  unfolding replay_answer replay_answer_by replayed_by text_for text_by listed_by
  refused_text (refused j) k e = let f : k ≡ j = cc in ap refusal f
  refused_text (left qs) k e = absurd (cc)

  pub replayed_place : (o : Outcome) (y : Replayed) → Ok y ≡ told o → y.resumed ≡ p
  unfolding replay_answer replay_answer_by replayed_by
  replayed_place (refused j) y e = absurd (cc)
  replayed_place (left qs) y e =
      let f : y ≡ record { lost = lost; lost_bytes = bytes; resumed = p } = cc in
      ap (λ (z : Replayed). z.resumed) f

  pub replayed_text : (o : Outcome) (y : Replayed) (qs' : List Queue) → Ok y ≡ told o → qs' ≡ outcome_queues o → shift_lines shifts ++ listing qs' y.lost_bytes y.resumed n ≡ text o
  unfolding replay_answer replay_answer_by replayed_by outcome_queues text_for text_by listed_by
  replayed_text (refused j) y qs' e q = absurd (cc)
  replayed_text (left qs) y qs' e q =
      let f : y ≡ record { lost = lost; lost_bytes = bytes; resumed = p } = cc in
      ap₂ (λ (x : List Queue) (z : Replayed). shift_lines shifts ++ listing x z.lost_bytes z.resumed n) q f

module _ (log scratch scratch' : List ℕ) (m m' : Memory) (a : Result Replayed Refusal) (legal : log_refused log ≡ false) (w : QueuesReplayed log scratch m (numbered a) scratch' m') where
  abbrev given : Outcome
  given = replay_of log (capacities m) (length scratch)

  abbrev lost_in_lem : ℕ
  lost_in_lem = lost_in (readings log (length scratch))

  abbrev bytes_in : ℕ
  bytes_in = lost_bytes log (length scratch)

  abbrev place_in_lem : ℕ
  place_in_lem = resume log (length scratch)

  pub leaves : Leaves m m' (outcome_queues given)
  leaves = subst (λ (b : Bool). QueuesLeft b m m' (outcome_queues given)) legal w.memory_left

  pub answers : numbered a ≡ replay_answer (replayed_by given lost_in_lem bytes_in place_in_lem)
  unfolding replay_call
  answers = w.answer

  place_inside : place_in_lem ≤ length log
  place_inside = let h : place_in_lem ≤ blocks log * 32768 = resumes_in_log log (length scratch) (log_taken log legal).some in omega (arith, h)

  pub may_list : (y : Replayed) → a ≡ Ok y → (arranged m' ≡ true) × LogFits y.resumed (length log)
  may_list y e =
      let at : y.resumed ≡ place_in_lem = replayed_place lost_in_lem bytes_in place_in_lem [] (length log) given y (sym (ap as_number e) ∙ answers) in (
        leaves.still_arranged,
        record { a_block = omega (arith, (log_taken log legal).some); few_blocks = (log_taken log legal).most; inside = omega (arith, place_inside, at) },
      )

zero_scratch : (log s s' : List ℕ) → log_refused log ≡ false → s' ≡ replay_scratch log s → s' ≡ zeros (length s)
unfolding replay_scratch
zero_scratch log s s' legal e = subst (λ (b : Bool). s' ≡ cond b s (zeros (length s))) legal e

-- ---- what is left

-- the marks, and the listing behind them
both_lists : {s t u : List ℕ} {p : ℕ} (xs ys : List ℕ) (r : Option ℕ) → Wrote s 0 xs p t → ListsFrom t p ys r u → Lists s (xs ++ ys) r u
both_lists {s} {t} {u} {p} xs ys r w l =
    let all : Wrote s 0 (xs ++ ys) (behind (length t) p (length ys)) u = on w (wrote refl l.1) in
    (l.0 ∙ ap₂ listed (wrote-length w) all.place ∙ listed-behind (length s) (length (xs ++ ys)), all.buffer)

module _ (input scratch : List ℕ) (m : Memory) (ks out : List ℕ) (legal : log_refused input ≡ false) (long : length m.entries ≤ length ks) (a : Result Replayed Refusal) (scratch' : List ℕ)
    (m' : Memory) (ks' : List ℕ) (k : ReplayKept input scratch m ks a scratch' m' ks') where
  abbrev o : Outcome
  o = replay_of input (capacities m) (length scratch)

  abbrev lost_here : ℕ
  lost_here = lost_in (readings input (length scratch))

  abbrev bytes_here : ℕ
  bytes_here = lost_bytes input (length scratch)

  abbrev place_here : ℕ
  place_here = resume input (length scratch)

  abbrev shifts_here : List ℕ
  shifts_here = marks_in (readings input (length scratch))

  w : QueuesReplayed input scratch m (numbered a) scratch' m'
  w = as_replayed input scratch scratch' m m' ks ks' a long k

  e : numbered a ≡ replay_answer (replayed_by o lost_here bytes_here place_here)
  e = answers input scratch scratch' m m' a legal w

  z : scratch' ≡ zeros (length scratch)
  z = zero_scratch input scratch scratch' legal w.scratch_left

  pub scratch_long : length scratch' ≡ length scratch
  scratch_long = ap length z ∙ length-replicate {A = ℕ} (length scratch) 0

  pub may : (y : Replayed) → a ≡ Ok y → (arranged m' ≡ true) × LogFits y.resumed (length input)
  may = may_list input scratch scratch' m m' a legal w

  kept : (text : List ℕ) (r : Option ℕ) (out' s : List ℕ) → text ≡ text_in input (capacities m) (length scratch) → s ≡ zeros (length scratch) → Lists out text r out'
      → CardKept input scratch m ks out r s m' ks' out'
  kept text r out' s is zero lists =
      record {
        answer = lists.0 ∙ ap (λ (x : List ℕ). listed (length out) (length x)) is;
        text_left = lists.1 ∙ ap (written out 0) is;
        scratch_left = zero;
        memory_left = leaves input scratch scratch' m m' a legal w;
        largest_left = table_left_lem input scratch scratch' m m' ks ks' a long k legal;
      }

  pub refused_kept : (x : Refusal) (n : ℕ) (r : Option ℕ) (out' : List ℕ) → a ≡ Err x → n ≡ refusal_number x → Lists out (refusal n) r out'
      → CardKept input scratch m ks out r scratch' m' ks' out'
  unfolding text_in replay_call marks_listed
  refused_kept x n r out' is f lists =
      kept (refusal n) r out' scratch'
      (ap refusal f ∙ refused_text lost_here bytes_here place_here shifts_here (length input) o (refusal_number x) (sym (ap as_number is) ∙ e)) z lists

  pub replayed_kept : {t₁ : List ℕ} {p : ℕ} (y : Replayed) (x : Option ℕ) (s out' : List ℕ) → a ≡ Ok y → Wrote out 0 (marks_text input (length scratch')) p t₁
      → s ≡ zeros (length scratch') → ListsFrom t₁ p (listing (meaning m') y.lost_bytes y.resumed (length input)) x out' → CardKept input scratch m ks out x s m' ks' out'
  unfolding text_in replay_call marks_listed
  replayed_kept y x s out' is marks zero lists =
      let mean = (leaves input scratch scratch' m m' a legal w).means in
      kept (shift_lines shifts_here ++ listing (meaning m') y.lost_bytes y.resumed (length input)) x out' s
      (replayed_text lost_here bytes_here place_here shifts_here (length input) o y (meaning m') (sym (ap as_number is) ∙ e) mean)
      (zero ∙ ap zeros scratch_long)
      (both_lists (shift_lines shifts_here) (listing (meaning m') y.lost_bytes y.resumed (length input)) x (reads (ap (marks_text input) scratch_long) marks) lists)

-- the memory looked at is the memory left
pub looked_at : {ns ns' ps ps' t t' : List ℕ} {es es' : List RecordEntry} → ns ≡ ns' → ps ≡ ps' → es ≡ es' → t ≡ t' → memory ns ps es t ≡ memory ns' ps' es' t'
looked_at {ns} {ns'} {ps} {ps'} {t} {t'} {es} {es'} a b c d = ap₂ (λ x y. memory x y es t) a b ∙ ap₂ (λ x y. memory ns' ps' x y) c d
