-- 6: a reader that a read left does not meet it when lent again.
-- Assumes nothing.
use mathlib.Core.Path.{◌≡◌, refl, sym, ap, ap₂, ◌∙◌}
use mathlib.Core.Bool.{Bool, false, not, ◌||◌}
use mathlib.Core.List.{List}
use Prim.Native.Nat.{ℕ, zero, suc}
use native.Mathlib.Omega.{arith}
use lib.ListN.{length}
use borrow.Author.Tests.{lt-ltb, le-ltb}
use Rattle.frame.specs.declared.Reader.{Reader}
use Rattle.frame.specs.Block.{blocks}
use Rattle.frame.specs.Reader.{fresh}
use Rattle.frame.specs.Internal.{Arranged}
use Rattle.recordlog.specs.Read.{Answer, whole, corruption, end_of_log, too_long, Next, next_record}
use Rattle.recordlog.proofs.Forward.{next_record-turned}
use Rattle.record.specs.declared.MultiPlexedRecord.{MultiPlexedRecord}
use Rattle.std.specs.Prelude.{Option, Some, None}
use Rattle.record.specs.Places.{decoded_at}
use Rattle.calls.specs.Refusals.{reader_not_arranged, read_refusals}
use Rattle.calls.specs.Claims.{applies_in}
use Rattle.calls.specs.Reading.{read_refusal}
use Rattle.calls.proofs.Chain.{lowest_first}
use Rattle.calls.proofs.Passed.{log_taken, read_passed}
use Rattle.calls.specs.declared.Refusal.TheVariants.{NotArranged}
use Rattle.calls.specs.Refused.{refusal_number}
use Rattle.read_step.specs.declared.ReadAnswer.{ReadAnswer}
use Rattle.read_step.specs.declared.ReadAnswer.TheVariants.{Record as record_at, Corruption as corruption_of, EndOfLog as end_of, Refused as read_refused}
use Rattle.read_step.specs.declared.ReadStep.{ReadStep}
use Rattle.contracts.proofs.Readings.{NumberOf, read_number}
use Rattle.read_step.specs.Read.{answer_at, answer_told, read_step_by, read_step}
use Rattle.claims.specs.Claims.{ReaderNeverMeetsSix, FreshReaderArranged, ReadLeavesArranged}
use Rattle.claims.proofs.Six.{or_false, not_given}

-- ---- a read by the number of 1 or 6, 0 where neither applies

pub step_by_lem : (log : List ℕ) (limit : ℕ) (r : Reader) (k : ℕ) → read_refusal log r ≡ k → read_step log limit r ≡ read_step_by k (next_record log limit r) r
unfolding read_step
step_by_lem log limit r k e = ap (λ (i : ℕ). read_step_by i (next_record log limit r) r) e

-- ---- a read answers 6 where it applies, and 1 does not

read_six : (log : List ℕ) (r : Reader) → applies_in 6 (read_refusals log r) ≡ reader_not_arranged log r
unfolding applies_in read_refusals
read_six log r = or_false (reader_not_arranged log r)

-- the number of a refusal
abbrev number_in : ReadAnswer → ℕ
number_in (record_at m) = 0
number_in (corruption_of l) = 0
number_in end_of = 0
number_in (read_refused q) = refusal_number q

record_not_six : (m : Option MultiPlexedRecord) → answer_at m ≡ read_refused NotArranged → ⊥
unfolding answer_at
record_not_six (Some m) e = let z : ◌≡◌ {A = ℕ} 0 6 = ap number_in e in omega arith
record_not_six None e = let z : ◌≡◌ {A = ℕ} 0 6 = ap number_in e in omega arith

told_not_six : (x : Answer) → answer_told x ≡ read_refused NotArranged → ⊥
unfolding answer_told
told_not_six (whole ys) e = record_not_six (decoded_at ys) e
told_not_six (corruption c) e = let z : ◌≡◌ {A = ℕ} 0 6 = ap number_in e in omega arith
told_not_six end_of_log e = let z : ◌≡◌ {A = ℕ} 0 6 = ap number_in e in omega arith
told_not_six too_long e = let z : ◌≡◌ {A = ℕ} 11 6 = ap number_in e in omega arith

step_six : (k : ℕ) (x : Next) (r : Reader) → NumberOf k → (read_step_by k x r).answer ≡ read_refused NotArranged → k ≡ 6
unfolding read_step_by
step_six zero x r n e = absurd (told_not_six x.answer e)
step_six (suc k) x r n e = sym n ∙ ap number_in e

-- ---- which reader does not meet 6

reader_never_meets : (log : List ℕ) (r : Reader) → reader_not_arranged log r ≡ false → ReaderNeverMeetsSix log r
unfolding read_step
reader_never_meets log r e =
    record {
      arranged = e;
      reads = λ s s' r' a w z.
          not_given (read_refusals log r) (lowest_first.reads log r) (read_six log r ∙ e) (step_six (read_refusal log r) (next_record log (length s) r) r (read_number log r) (sym w.answer ∙ z));
    }

-- a reader inside the log
inside_arranged : (log : List ℕ) (r : Reader) → Arranged log r → reader_not_arranged log r ≡ false
unfolding reader_not_arranged
inside_arranged log r a = ap₂ (λ (x y : Bool). not x || y) (lt-ltb r.block (blocks log) a.inside) (le-ltb 32768 r.cursor a.within)

pub fresh_reader_arranged : FreshReaderArranged
fresh_reader_arranged log e = reader_never_meets log fresh (inside_arranged log fresh (record { inside = (log_taken log e).some; within = omega arith }))

pub read_leaves_arranged : ReadLeavesArranged
read_leaves_arranged log s s' r r' a w e = reader_never_meets log r' (go (read_refusal log r) refl)
  where
    go : (k : ℕ) → read_refusal log r ≡ k → reader_not_arranged log r' ≡ false
    go zero z =
        ap (reader_not_arranged log) (w.reader_left ∙ ap (λ (x : ReadStep). x.reader) (step_by_lem log (length s) r 0 z))
        ∙ (unfold read_step_by in inside_arranged log (next_record log (length s) r).reader (next_record-turned log (length s) r (read_passed log r z).arranged).arranged)
    go (suc k) z = ap (reader_not_arranged log) (w.reader_left ∙ ap (λ (x : ReadStep). x.reader) (step_by_lem log (length s) r (suc k) z)) ∙ (unfold read_step_by in e)
