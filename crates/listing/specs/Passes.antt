-- Helper: for proofs; no promise rests on reading it.
-- What the passes over the record table and the table of queues count and write, by how many entries or rows they have passed.
-- Assumes nothing.
use Rattle.std.specs.Prelude.{cond, List, [], ◌++◌, ℕ, zero, suc, ◌+◌, ◌≤◌, eqb, length, take, drop, get_or, count_by}
use Rattle.record.specs.Record.{item}
use Rattle.queues.specs.declared.RecordEntry.{RecordEntry}
use Rattle.queues.specs.Layout.{blank}
use Rattle.queues.specs.Changes.{word_at}
use Rattle.queues.specs.Access.{RowFits}
use Rattle.queues.specs.Passes.{passed_to, names_to}
use Rattle.listing.specs.Listing.{head_line, record_line}

-- ---- one entry, one row

-- the line of an entry with the payload xs, where it is of queue k
unfoldable pub entry_line : ℕ → RecordEntry → List ℕ → List ℕ
entry_line k e xs = cond (eqb e.queue k) (record_line (item e.position xs)) []

-- the line of the queue with row k, whose name stands after q bytes of the names
unfoldable pub row_line : List ℕ → List ℕ → ℕ → ℕ → ℕ → List ℕ
row_line ns t q k held = head_line (take (word_at t k 0) (drop q ns)) (word_at t k 1) (word_at t k 2) held

-- the row and the name stand in the table and the names
pub record RowLine (ns t : List ℕ) (q k : ℕ) : Type 0 where
  pub row_fits : RowFits t k
  pub name_fits : q + word_at t k 0 ≤ length ns

-- ---- the first entries, the first rows

-- how many of the first n entries are of queue k
abbrev pub count_to : ℕ → List RecordEntry → ℕ → ℕ
count_to k es n = count_by (λ e. eqb e.queue k) (take n es)

-- the lines of those of the first n entries that are of queue k
unfoldable pub lines_to : ℕ → List RecordEntry → List ℕ → ℕ → List ℕ
lines_to k es ps zero = []
lines_to k es ps (suc n) = lines_to k es ps n ++ entry_line k (get_or es n blank) (take (get_or es n blank).length (drop (passed_to es n) ps))

-- the lines of queue k, whose name stands after q bytes: its own, and those of its records among the first n entries
unfoldable pub queue_text : List ℕ → List ℕ → List RecordEntry → List ℕ → ℕ → ℕ → ℕ → List ℕ
queue_text ns ps es t n q k = row_line ns t q k (count_to k es n) ++ lines_to k es ps n

-- the lines of the first k queues
unfoldable pub queues_to : List ℕ → List ℕ → List RecordEntry → List ℕ → ℕ → ℕ → List ℕ
queues_to ns ps es t n zero = []
queues_to ns ps es t n (suc k) = queues_to ns ps es t n k ++ queue_text ns ps es t n (names_to t k) k
