-- Claim.
-- What document 01 says of every lent memory that is arranged, of every reader, of asking again, of the log's tail and of what a call counts; and what demands 2 and 3 say of `lost` and of
-- the place where a writer resumes. Each claim is proved in proofs/ under its name in snake case.
-- Assumes nothing.
use Rattle.std.specs.Prelude.{Result, Err, ◌≡◌, ◌⊎◌, Bool, false, List, ◌∷◌, ◌++◌, ℕ, ◌+◌, ◌*◌, ◌≤◌, ◌<◌, length, drop, map}
use Rattle.frame.specs.declared.Reader.{Reader}
use Rattle.frame.specs.Reader.{fresh}
use Rattle.frame.specs.Block.{blocks, padding}
use Rattle.recordlog.specs.Write.{Frame}
use Rattle.recordlog.specs.Hit.{Hit, type_lost}
use Rattle.record.specs.Record.{Item}
use Rattle.std.specs.declared.ops.Bound.{Bound}
use Rattle.std.specs.declared.ops.Bound.TheVariants.{Excluded as excluded}
use Rattle.queues.specs.Queues.{Stored, item_of, Queue, held, find}
use Rattle.queues.specs.Ranges.{all_in_range, first_item, first_of}
use Rattle.queues.specs.Layout.{Memory, meaning, capacities}
use Rattle.calls.specs.State.{State, Call, create_call, delete_call, truncate_call, append_call, mark_call, CallAnswer, bytes_written}
use Rattle.calls.specs.Refusals.{log_refused, place_not_arranged, state_not_arranged, reader_not_arranged}
use Rattle.calls.specs.Reading.{lost_in}
use Rattle.calls.specs.Lost.{lost_bytes}
use Rattle.calls.specs.Claims.{counted_in}
use Rattle.calls.specs.Reading.{ReadAnswer as Given}
use Rattle.calls.specs.Machine.{Listed, Fed, machine, NoneLonger}
use Rattle.lost_bytes.specs.Costs.{hit_cost}
use Rattle.lost_bytes.specs.Claims.{StruckParts}
use Rattle.call_write.specs.declared.Question.{Question}
use Rattle.call_write.specs.declared.QuestionAnswer.{QuestionAnswer}
use Rattle.contracts.specs.Numbers.{range_numbers, replay_numbers}
use Rattle.read_step.specs.declared.ReadAnswer.{ReadAnswer}
use Rattle.read_step.specs.declared.ReadAnswer.TheVariants.{Refused as read_refused}
use Rattle.calls.specs.declared.Refusal.{Refusal as RefusalOf}
use Rattle.calls.specs.declared.Refusal.TheVariants.{NotArranged}
use Rattle.read_step.specs.declared.Replayed.{Replayed as ReplayedAt}
use Rattle.contracts.specs.Promises.{replayed, Lent, state_of, CallKept, RangeKept, QuestionKept, ReadKept, ReplayKept}
use Rattle.contracts.specs.Run.{Run, Reads}
use Rattle.claims.specs.ReadsOn.{ReadsOn}
use Rattle.claims.specs.Asks.{RangeGave, Asks}

-- ---- 6: "What open or a call left, lent again unchanged, always is."

-- what is lent does not meet 6: no call answers it, and no question
pub record NeverMeetsSix (l : Lent) : Type 0 where
  pub arranged : state_not_arranged (state_of l) ≡ false
  pub calls : (k : Call) (a : CallAnswer) (l' : Lent) → CallKept l k a l' → a.refusal ≡ 6 → ⊥
  pub questions : (n : List ℕ) (q : Question) (a : Result QuestionAnswer RefusalOf) → QuestionKept l.memory l.largest n q a → a ≡ Err NotArranged → ⊥

-- what a call left, whatever arranged memory it was lent; and so what any list of calls left, each lent what the one before left
abbrev pub CallLeavesArranged : Type 0
CallLeavesArranged = (l l' : Lent) (k : Call) (a : CallAnswer) → CallKept l k a l' → state_not_arranged (state_of l) ≡ false → NeverMeetsSix l'

-- what 6 says of what a call was lent; to a mark no queue memory is
unfoldable pub lent_not_arranged : State → Call → Bool
lent_not_arranged s (create_call n) = state_not_arranged s
lent_not_arranged s (delete_call n) = state_not_arranged s
lent_not_arranged s (truncate_call n e) = state_not_arranged s
lent_not_arranged s (append_call n a run ks) = state_not_arranged s
lent_not_arranged s (mark_call n body) = place_not_arranged s

-- a call that was done, or refused by a number above 6, was lent arranged memory
abbrev pub CallWasArranged : Type 0
CallWasArranged = (l l' : Lent) (k : Call) (a : CallAnswer) → CallKept l k a l' → (a.refusal ≡ 0) ⊎ (6 < a.refusal) → lent_not_arranged (state_of l) k ≡ false

-- What open left, whatever memory it was lent, with a further table that is long enough, of every log that is not refused 1, damaged ones too; the writer stands at the place that replay answered, which is 0
-- where it was refused, and any scratch is lent.
abbrev pub ReplayLeavesArranged : Type 0
ReplayLeavesArranged = (log scratch scratch' : List ℕ) (m m' : Memory) (ks ks' : List ℕ) (a : Result ReplayedAt RefusalOf) → log_refused log ≡ false → length m.entries ≤ length ks
    → ReplayKept log scratch m ks a scratch' m' ks' → (s : List ℕ) → NeverMeetsSix (record { log = log; place = (replay_numbers a).resumed; scratch = s; memory = m'; largest = ks' })

-- a reader that does not meet 6: no read answers it, whatever scratch is lent
pub record ReaderNeverMeetsSix (log : List ℕ) (r : Reader) : Type 0 where
  pub arranged : reader_not_arranged log r ≡ false
  pub reads : (s s' : List ℕ) (r' : Reader) (a : ReadAnswer) → ReadKept log s r a s' r' → a ≡ read_refused NotArranged → ⊥

-- the fresh reader, and one that a read left
abbrev pub FreshReaderArranged : Type 0
FreshReaderArranged = (log : List ℕ) → log_refused log ≡ false → ReaderNeverMeetsSix log fresh

abbrev pub ReadLeavesArranged : Type 0
ReadLeavesArranged = (log s s' : List ℕ) (r r' : Reader) (a : ReadAnswer) → ReadKept log s r a s' r' → reader_not_arranged log r ≡ false
    → ReaderNeverMeetsSix log r'

-- ---- reading

-- "Between its opening and end of log a reader gives at most 4,681 records and corruption answers for each block.": whatever scratch each read is lent, and going on
-- after a read refused 11
abbrev pub ReadsOnBound : Type 0
ReadsOnBound = (n : ℕ) (gs : List Given) → ReadsOn n fresh gs → counted_in gs ≤ n * 4681

-- ---- demand 2: nothing is lost, and where a writer resumes

-- no corruption answer and no byte; "The writer resumes at the cursor": at the write position p, or after its padding where the reader had moved on
pub record NothingLost (a : Result ReplayedAt RefusalOf) (p : ℕ) : Type 0 where
  pub resumed : ℕ
  pub answer : a ≡ replayed 0 0 resumed
  pub resumes : (resumed ≡ p) ⊎ (resumed ≡ p + padding p)

-- of every replay of which `RoundTrip` tells that it gives the queues
abbrev pub RoundTripNothingLost : Type 0
RoundTripNothingLost = (h : List Fed) (l : Lent) → Run h l
    → (scratch scratch' : List ℕ) (m m' : Memory) (ks ks' : List ℕ) (a : Result ReplayedAt RefusalOf) → length scratch ≡ length l.scratch → capacities m ≡ capacities l.memory
    → length ks ≡ length l.largest → ReplayKept l.log scratch m ks a scratch' m' ks' → NothingLost a l.place

-- ---- demand 3: one corruption is counted

-- by any reading, and by any replay that is not refused
pub record CountsOne (hit : List ℕ) (limit : ℕ) : Type 0 where
  pub reading : (scratch : List ℕ) (gs : List Given) → length scratch ≡ limit → Reads hit scratch fresh gs → lost_in gs ≡ 1
  pub replay : (scratch scratch' : List ℕ) (m m' : Memory) (ks ks' : List ℕ) (lost bytes resumed : ℕ) → length scratch ≡ limit
      → ReplayKept hit scratch m ks (replayed lost bytes resumed) scratch' m' ks' → lost ≡ 1

-- of every hit of which `OneHitFrame` tells the answers and the queues
abbrev pub OneHitCounted : Type 0
OneHitCounted = (h : List Fed) (l : Lent) → Run h l
    → (before after : List Listed) (owner : Listed) (earlier later : List Frame) (f : Frame) (hit : List ℕ) (limit : ℕ)
    → (machine h).records ≡ before ++ (owner ∷ after)
    → owner.frames ≡ earlier ++ (f ∷ later)
    → Hit l.log hit f
    → NoneLonger limit (machine h).records
    → CountsOne hit limit

-- ---- the bytes lost (02, Ticket 7)

-- no more than the whole blocks have, by any replay that is not refused
abbrev pub ReplayLostWithin : Type 0
ReplayLostWithin = (log scratch scratch' : List ℕ) (m m' : Memory) (ks ks' : List ℕ) (lost bytes resumed : ℕ)
    → ReplayKept log scratch m ks (replayed lost bytes resumed) scratch' m' ks' → bytes ≤ blocks log * 32768

-- none of a log that calls wrote
abbrev pub CallsLoseNothing : Type 0
CallsLoseNothing = (h : List Fed) (l : Lent) → Run h l → lost_bytes l.log (length l.scratch) ≡ 0

-- so many are lost of a log, and so many does any replay tell that is not refused
pub record LosesBytes (hit : List ℕ) (limit n : ℕ) : Type 0 where
  pub reading : lost_bytes hit limit ≡ n
  pub replay : (scratch scratch' : List ℕ) (m m' : Memory) (ks ks' : List ℕ) (lost bytes resumed : ℕ) → length scratch ≡ limit
      → ReplayKept hit scratch m ks (replayed lost bytes resumed) scratch' m' ks' → bytes ≡ n

-- What one hit frame costs: the struck frames and the other frames of their owners. Of every hit of which `OneHitFrame` tells the answers and the queues.
abbrev pub HitCosts : Type 0
HitCosts = (h : List Fed) (l : Lent) → Run h l
    → (before after : List Listed) (owner : Listed) (earlier later : List Frame) (f : Frame) (hit : List ℕ) (limit : ℕ)
    → (machine h).records ≡ before ++ (owner ∷ after)
    → owner.frames ≡ earlier ++ (f ∷ later)
    → Hit l.log hit f
    → NoneLonger limit (machine h).records
    → LosesBytes hit limit (hit_cost (type_lost hit f) f (owner ∷ after))

-- what the struck frames are of it
abbrev pub StruckWithin : Type 0
StruckWithin = (h : List Fed) (l : Lent) → Run h l
    → (before after : List Listed) (owner : Listed) (earlier later : List Frame) (f : Frame) (lost : Bool)
    → (machine h).records ≡ before ++ (owner ∷ after)
    → owner.frames ≡ earlier ++ (f ∷ later)
    → StruckParts lost f (owner ∷ after)

-- ---- "asking again with "after" that position gives the next"

-- i is the first of the queue's records in the range, without its block, and a answers with the next of them, or with none
pub record NextGiven (m : Memory) (n : List ℕ) (lo : Bound ℕ) (hi : Bound ℕ) (i : Item) (a : Result QuestionAnswer RefusalOf) : Type 0 where
  pub queue : Queue
  pub is_held : find n (meaning m) ≡ held queue
  pub first : Stored
  pub is_first : item_of first ≡ i
  pub later : List Stored
  pub range : all_in_range lo hi queue.records ≡ first ∷ later
  pub next : range_numbers m.payloads a ≡ record { refusal = 0; found = first_of later }

abbrev pub AskedAgain : Type 0
AskedAgain = (m : Memory) (ks n : List ℕ) (lo : Bound ℕ) (hi : Bound ℕ) (i : Item) (a : Result QuestionAnswer RefusalOf) → RangeGave m ks n lo hi (first_item i)
    → RangeKept m ks n (excluded i.position) hi a → NextGiven m n lo hi i a

-- and so on to the last: all records of the queue in the range, by position, without their blocks
pub record AllGiven (m : Memory) (n : List ℕ) (lo : Bound ℕ) (hi : Bound ℕ) (is : List Item) : Type 0 where
  pub queue : Queue
  pub is_held : find n (meaning m) ≡ held queue
  pub all : is ≡ map item_of (all_in_range lo hi queue.records)

abbrev pub AskedThrough : Type 0
AskedThrough = (m : Memory) (ks n : List ℕ) (lo : Bound ℕ) (hi : Bound ℕ) (is : List Item) → Asks m ks n hi lo is → AllGiven m n lo hi is

-- ---- "whole blocks of 32,768 bytes; a shorter tail is never touched"

pub record TailKept (log log' : List ℕ) : Type 0 where
  pub same_length : length log' ≡ length log
  pub tail : drop (blocks log * 32768) log' ≡ drop (blocks log * 32768) log

-- of every call, whatever it was lent
abbrev pub CallKeepsTail : Type 0
CallKeepsTail = (l l' : Lent) (k : Call) (a : CallAnswer) → CallKept l k a l' → TailKept l.log l'.log

-- ---- the two counts of a call (02, Ticket 3)

-- what an answer counts: its sum is how far the write position moved; a call that wrote counts the padding of its write position; a refusal has "counts of 0"
pub record CountsKept (l l' : Lent) (a : CallAnswer) : Type 0 where
  pub moved : l'.place ≡ l.place + bytes_written a
  pub padded : 0 < a.frame_bytes → a.padding_bytes ≡ padding l.place
  pub refused_none : 0 < a.refusal → (a.frame_bytes ≡ 0) × (a.padding_bytes ≡ 0)

-- of every call, whatever it was lent
abbrev pub CallKeepsCounts : Type 0
CallKeepsCounts = (l l' : Lent) (k : Call) (a : CallAnswer) → CallKept l k a l' → CountsKept l l' a
