-- Claim.
-- Power lost during the record that a call writes, over the lent memory. Each claim is proved in proofs/ under its name in snake case.
-- Assumes nothing.
use Rattle.std.specs.Prelude.{Result, ◌≡◌, List, [], ◌∷◌, ◌++◌, map, ℕ, ◌≤◌, length, take, drop}
use Rattle.frame.specs.Block.{blocks}
use Rattle.frame.specs.Reader.{fresh}
use Rattle.record.specs.Record.{Record}
use Rattle.queues.specs.Layout.{Memory, meaning, capacities}
use Rattle.calls.specs.State.{Call, CallAnswer}
use Rattle.calls.specs.Reading.{gave_record, gave_end}
use Rattle.calls.specs.Reading.{ReadAnswer as Given}
use Rattle.calls.specs.PlacedList.{placed_of, placed_list}
use Rattle.calls.specs.Replay.{replay_records}
use Rattle.calls.specs.Machine.{Listed, Fed, machine_call, machine, was_refused, records_of, NoneLonger}
use Rattle.calls.specs.declared.Refusal.{Refusal as RefusalOf}
use Rattle.read_step.specs.declared.Replayed.{Replayed as ReplayedAt}
use Rattle.contracts.specs.Promises.{replayed, Lent, CallKept, ReplayKept}
use Rattle.contracts.specs.Run.{Run, Reads}
use Rattle.contracts.specs.Demands.{Gives, ReplaysAs}
use Rattle.cut.specs.Cut.{Unfit, Left, left}
use Rattle.cut_calls.specs.CutRecord.{cut_answered, kept_of, machine_from, answered_after}

-- A call that was not refused and puts one record more at the end of the machine's list.
pub record Wrote (h : List Fed) (l : Lent) (k : Call) (a : CallAnswer) (l' : Lent) (w : Listed) : Type 0 where
  pub kept : CallKept l k a l'
  pub done : a.refusal ≡ 0
  pub more : (machine_call (machine h) k).records ≡ (machine h).records ++ (w ∷ [])

-- "of the next record's bytes, padding included, only the first so many are stored": the log that the call left up to c, and from there on the log that it was lent
abbrev pub cut_lent : Lent → Lent → ℕ → List ℕ
cut_lent l l' c = take c l'.log ++ drop c l.log

-- a replay of a log that was not refused, and what is lent to the first call after it
pub record Opened (log scratch : List ℕ) (m : Memory) (ks : List ℕ) (l₀ : Lent) : Type 0 where
  pub lost : ℕ
  pub lost_bytes : ℕ
  pub kept : ReplayKept log scratch m ks (replayed lost lost_bytes l₀.place) l₀.scratch l₀.memory l₀.largest
  pub log_is : l₀.log ≡ log

-- a list of calls from there on, the latest first, each lent what the one before left
pub data Since (l₀ : Lent) : List Fed → Lent → Type 0 where
  none : Since l₀ [] l₀
  call : {h : List Fed} {l : Lent} (k : Call) (a : CallAnswer) (l' : Lent) → Since l₀ h l → CallKept l k a l'
      → Since l₀ (record { asked = k; refused = was_refused a } ∷ h) l'

-- the records that these calls list
abbrev pub records_from : Lent → List Fed → List Listed
records_from l₀ h = (machine_from (record { records = []; queues = meaning l₀.memory; place = l₀.place }) h).records

-- every reading of this log, in any scratch of this length, gives these answers
abbrev pub ReadsAs : List ℕ → ℕ → List Given → Type 0
ReadsAs log limit given = (scratch : List ℕ) (gs : List Given) → length scratch ≡ limit → Reads log scratch fresh gs → gs ≡ given

-- every replay of this log in memory of the sizes of m₀, with a further table that is long enough, is not refused and gives the queues that m₀ means
abbrev pub ReplayGives : List ℕ → ℕ → Memory → Type 0
ReplayGives log limit m₀ = (scratch scratch' : List ℕ) (m m' : Memory) (ks ks' : List ℕ) (a : Result ReplayedAt RefusalOf) → length scratch ≡ limit → capacities m ≡ capacities m₀
    → length m.entries ≤ length ks → ReplayKept log scratch m ks a scratch' m' ks' → Gives a m m' (meaning m₀)

-- "reading gives all earlier records in order, the last one too if all its frames count as stored, at most one corruption answer, and no other record"; replay, whatever
-- memory is lent with a further table that is long enough, gives what these records give, and in memory of the same sizes the queues before the call, or after it where all is stored.
-- 02, Ticket 10: each record with "the block in which 01's list puts its log record's first frame header".
pub record AfterCut (l l' : Lent) (before : List Listed) (w : Listed) (x : Left) (cut : List ℕ) (limit : ℕ) : Type 0 where
  pub reading : ReadsAs cut limit (map gave_record (records_of before) ++ (cut_answered x w.written ++ (gave_end ∷ [])))
  pub replay : (scratch scratch' : List ℕ) (m m' : Memory) (ks ks' : List ℕ) (a : Result ReplayedAt RefusalOf) → length scratch ≡ limit → length m.entries ≤ length ks
      → ReplayKept cut scratch m ks a scratch' m' ks'
      → ReplaysAs (replay_records (capacities m) [] (placed_list before ++ kept_of x (placed_of w))) a m m'
  pub replay_before : kept_of x (placed_of w) ≡ [] → ReplayGives cut limit l.memory
  pub replay_after : kept_of x (placed_of w) ≡ placed_of w ∷ [] → ReplayGives cut limit l'.memory

abbrev pub PowerCut : Type 0
PowerCut = (h : List Fed) (l : Lent) → Run h l → (k : Call) (a : CallAnswer) (l' : Lent) (w : Listed) → Wrote h l k a l' w
    → (c limit : ℕ) → l.place ≤ c → c ≤ l'.place → Unfit c w.frames → NoneLonger limit ((machine h).records ++ (w ∷ []))
    → AfterCut l l' (machine h).records w (left c w.frames) (cut_lent l l' c) limit

-- "A record written after reopening, where the log has bytes for it, is read back too": every list of calls after it; and replay then gives the queues that they left
pub record AfterCalls (before : List Record) (r : Record) (x : Left) (rs : List Record) (l₂ : Lent) (again : ℕ) : Type 0 where
  pub reading : ReadsAs l₂.log again (map gave_record before ++ (answered_after (blocks l₂.log) x r rs ++ (map gave_record rs ++ (gave_end ∷ []))))
  pub replay : ReplayGives l₂.log again l₂.memory

abbrev pub PowerCutOn : Type 0
PowerCutOn = (h : List Fed) (l : Lent) → Run h l → (k : Call) (a : CallAnswer) (l' : Lent) (w : Listed) → Wrote h l k a l' w
    → (c again : ℕ) → l.place ≤ c → c ≤ l'.place → Unfit c w.frames
    → (scratch : List ℕ) → NoneLonger (length scratch) ((machine h).records ++ (w ∷ [])) → NoneLonger again ((machine h).records ++ (w ∷ []))
    → (m : Memory) (ks : List ℕ) (l₀ : Lent) → Opened (cut_lent l l' c) scratch m ks l₀
    → (h₂ : List Fed) (l₂ : Lent) → Since l₀ h₂ l₂ → NoneLonger again (records_from l₀ h₂)
    → AfterCalls (records_of (machine h).records) w.written (left c w.frames) (records_of (records_from l₀ h₂)) l₂ again
