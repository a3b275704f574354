-- From open on the table is never 6, and its answers are those worked out afresh.
-- Assumes nothing.
use mathlib.Core.Path.{◌≡◌, sym, ap, ◌∙◌}
use mathlib.Core.Bool.{true}
use mathlib.Core.List.{List}
use Prim.Native.Nat.{ℕ}
use Rattle.queues.specs.Layout.{Memory, held_entries}
use Rattle.queues.proofs.Both.{both}
use Rattle.queues.proofs.Parts.{place-numbered}
use Rattle.calls.specs.Machine.{Fed}
use Rattle.contracts.specs.Promises.{Lent}
use Rattle.contracts.specs.Run.{opening, Run, begin}
use Rattle.contracts.specs.Run.{Run.call as run_call}
use Rattle.contracts.proofs.Left.{with_arranged, with_kept}
use Rattle.contracts.proofs.ReplayTable.{replay_arranged}
use Rattle.cut_contracts.specs.Claims.{none, call}
use Rattle.cut_contracts.proofs.PowerCut.{since_kept}
use Rattle.largest.specs.Largest.{kept_answer}
use Rattle.largest.specs.Table.{arranged_with}
use Rattle.largest.proofs.Table.{table_tells, table_empty}
use Rattle.largest_contracts.specs.Since.{Starts, not_six, opened}
use Rattle.largest_contracts.specs.Promises.{LargestAfresh}
use Rattle.largest_contracts.specs.Claims.{SinceHolds, RunBegins, RunSince, AnyTableStarts}

starts_hold : {m : Memory} {ks : List ℕ} → Starts m ks → arranged_with m ks ≡ true
starts_hold (not_six m ks e) = e
starts_hold (opened log scratch scratch' m m' ks ks' a e l w) = replay_arranged log scratch scratch' m m' ks ks' a e l w

pub since_holds : SinceHolds
since_holds l₀ l h o s = since_kept s (starts_hold o)

pub largest_afresh : LargestAfresh
largest_afresh l₀ l h n q o s f =
    let w : arranged_with l.memory l.largest ≡ true = since_holds l₀ l h o s in
    ap (λ (k : ℕ). kept_answer k (held_entries l.memory) l.largest) (sym (place-numbered l.memory n))
    ∙ table_tells l.memory l.largest n q (with_arranged l.memory l.largest w) (with_kept l.memory l.largest w) f

-- ---- a run from an empty start

begins : {h : List Fed} {l : Lent} → Run h l → RunBegins h l
begins (begin n tail scratch m ks a b c e f) = record { first = opening n tail scratch m ks; since = none; starts = not_six m ks e }
begins (run_call k a l' r w) =
    let x = begins r in
    record { first = x.first; since = call k a l' x.since w; starts = x.starts }

pub run_since : RunSince
run_since h l r = begins r

pub any_table_starts : AnyTableStarts
any_table_starts m ks a e l = not_six m ks (both a (table_empty m ks a e l))
