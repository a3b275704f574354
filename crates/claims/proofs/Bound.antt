-- At most 4,681 records and corruption answers for each block, whatever each read is lent: each of these answers leaves fewer frames ahead of the reader, and no answer
-- leaves more.
-- Assumes nothing.
use mathlib.Core.Path.{◌≡◌, refl, sym, ap, subst, ◌∙◌}
use mathlib.Core.Logic.{◌⊎◌, inl, inr}
use mathlib.Core.Bool.{Bool, true, false, ◌||◌, false≢true}
use mathlib.Core.List.{List, [], ◌∷◌}
use Prim.Native.Nat.{ℕ, zero, suc, ◌+◌, ◌*◌, ◌-◌, ◌/◌, ◌≤◌}
use native.Mathlib.Omega.{arith}
use lib.Dec.{leb, ltb, eqb}
use lib.ListN.{length, take, drop}
use Rattle.crc32.specs.Crc.{crc32}
use Rattle.std.specs.Prelude.{Ok, Err}
use Rattle.frame.specs.declared.ReadFrameError.TheVariants.{Corruption as bad_frame, NotAvailable as no_frame}
use Rattle.frame.specs.declared.Reader.{Reader}
use Rattle.std.specs.Prelude.{Option, Some as known, None as unknown}
use Rattle.frame.specs.declared.FrameType.{FrameType}
use Rattle.frame.specs.Reader.{FrameAnswer}
use Rattle.frame.specs.Frame.{type_of, all_zero, header_of, content_of, ends}
use Rattle.frame.specs.Block.{blocks}
use Rattle.frame.specs.Reader.{fresh, judge, look, read_at, must_move, moved, read_frame, used_of, used, ahead}
use Rattle.frame.specs.Internal.{Arranged}
use Rattle.frame.proofs.Measure.{onward}
use Rattle.recordlog.specs.Read.{Answer, whole, corruption, end_of_log, too_long, Next, Begun, idle, within, gather, weigh, join, on_frame, next, next_from, next_record}
use Rattle.recordlog.specs.Claims.{counts}
use Rattle.recordlog.proofs.Forward.{next_record-turned}
use Rattle.record.specs.Record.{Decoded, no_record, one_record, decode}
use Rattle.calls.specs.Reading.{gave_record, gave_corruption, gave_end, gave_refusal, of_record, answer_of, read_refusal, read_by, read_record}
use Rattle.calls.specs.Claims.{counted_in}
use Rattle.calls.specs.Reading.{ReadAnswer as Given}
use Rattle.calls.proofs.Passed.{read_passed}
use Rattle.read_step.specs.declared.ReadAnswer.{ReadAnswer}
use Rattle.read_step.specs.declared.ReadStep.{ReadStep}
use Rattle.read_step.specs.Read.{read_step_by}
use Rattle.contracts.specs.Numbers.{given_by}
use Rattle.contracts.specs.Promises.{ReadKept}
use Rattle.claims.specs.ReadsOn.{ReadsOn}
use Rattle.claims.specs.ReadsOn.{ReadsOn.none, ReadsOn.read}
use Rattle.claims.specs.Claims.{ReadsOnBound}
use Rattle.claims.proofs.Readers.{step_by_lem}

-- ---- no frame takes a reader back, end of log either

judge_later : (z : Bool) (k : Option FrameType) (f e : Bool) (b c n : ℕ) → c ≤ 32768 → b * 4681 + c / 7 ≤ used (judge z k f e b c n).reader
unfolding judge used used_of
judge_later true k f e b c n h = omega arith
judge_later false unknown f e b c n h = omega arith
judge_later false (known t) false e b c n h = omega arith
judge_later false (known t) true false b c n h = omega arith
judge_later false (known t) true true b c n h = omega arith

at_later : (log : List ℕ) (b c : ℕ) → c ≤ 32768 → b * 4681 + c / 7 ≤ used (read_at log b c).reader
unfolding look
at_later log b c h =
    let s : List ℕ = drop (b * 32768 + c) log in
    judge_later (all_zero (take 7 s)) (type_of (header_of s).kind) (leb (c + 7 + (header_of s).len) 32768) (eqb (crc32 ((header_of s).kind ∷ content_of s)) (header_of s).checksum)
    b c (header_of s).len h

frame_later : (log : List ℕ) (r : Reader) → r.cursor ≤ 32768 → used r ≤ used (read_frame log r).reader
unfolding read_frame must_move moved used used_of
frame_later log r h = go r.spoilt refl (must_move r) refl (ltb (suc r.block) (blocks log))
  where
    go : (s : Bool) → r.spoilt ≡ s → (m : Bool) → must_move r ≡ m → (q : Bool) → r.block * 4681 + used_of s r.cursor ≤ used (moved m q log r).reader
    go true e false d q = absurd (false≢true (sym d ∙ ap (λ (b : Bool). b || ltb 32768 (r.cursor + 7)) e))
    go false e false d q = at_later log r.block r.cursor h
    go true e true d true = omega (arith, at_later log (suc r.block) 0 (omega arith))
    go false e true d true = omega (arith, at_later log (suc r.block) 0 (omega arith))
    go s e true d false = subst (λ (b : Bool). r.block * 4681 + used_of b r.cursor ≤ used r) e (omega arith)

-- ---- nor does a read: it leaves the reader that it began with, or one not before it

module _ (first : Reader) (u : ℕ) where
  abbrev Later : Next → Type 0
  Later x = (x.reader ≡ first) ⊎ (u ≤ used x.reader)

  module _ (r : Reader) (go : Begun → Reader → Next) (h : u ≤ used r) (on : (b : Begun) → Later (go b r)) where
    weigh_later : (f e : Bool) (ys : List ℕ) → Later (weigh f e first ys r go)
    unfolding weigh
    weigh_later false e ys = inl refl
    weigh_later true true ys = inr h
    weigh_later true false ys = on (within ys)

    join_later : (limit : ℕ) (t : FrameType) (b : Begun) → Later (join limit t first b r go)
    unfolding join
    join_later limit t idle = on idle
    join_later limit t (within ys) = weigh_later (leb (length ys) limit) (ends t) ys

    on_frame_later : (log : List ℕ) (limit : ℕ) (b : Begun) (a : FrameAnswer) → Later (on_frame log limit first b a r go)
    unfolding on_frame
    on_frame_later log limit b (Ok f) = join_later limit f.kind (gather b f.kind (take f.len (drop f.start log)))
    on_frame_later log limit b (Err (bad_frame c)) = inr h
    on_frame_later log limit b (Err no_frame) = inr h

  next_later : (k : ℕ) (log : List ℕ) (limit : ℕ) (b : Begun) (r : Reader) → Arranged log r → u ≤ used r → Later (next k log limit first b r)
  unfolding next
  next_later zero log limit b r a h = inr h
  next_later (suc k) log limit b r a h =
      let g : u ≤ used (read_frame log r).reader = omega (arith, h, frame_later log r a.within) in
      on_frame_later (read_frame log r).reader (next k log limit first) g
      (λ c. next_later k log limit c (read_frame log r).reader (onward log r a).arranged g) log limit b (read_frame log r).answer

record_later : (log : List ℕ) (limit : ℕ) (r : Reader) → Arranged log r → used r ≤ used (next_record log limit r).reader
unfolding next_record next_from
record_later log limit r a = go (next_later r (used r) (suc (ahead log r)) log limit idle r a (omega arith))
  where
    go : Later r (used r) (next_record log limit r) → used r ≤ used (next_record log limit r).reader
    go (inl e) = omega (arith, ap used e)
    go (inr h) = h

-- ---- one read

counted_record : (d : Decoded) → counted_in (of_record d ∷ []) ≡ 1
unfolding counted_in of_record
counted_record no_record = refl
counted_record (one_record r) = refl

counted_answer : (x : Answer) → counted_in (answer_of x ∷ []) ≡ counts x
unfolding counted_in answer_of counts
counted_answer (whole ys) = counted_record (decode ys)
counted_answer (corruption c) = refl
counted_answer end_of_log = refl
counted_answer too_long = refl

ahead_later : (log : List ℕ) (r r' : Reader) → used r ≤ used r' → ahead log r' ≤ ahead log r
unfolding ahead
ahead_later log r r' h = omega arith

-- a record or a corruption leaves fewer frames ahead, and any other answer no more
fewer_ahead : (log : List ℕ) (limit : ℕ) (r : Reader) → Arranged log r → counts (next_record log limit r).answer + ahead log (next_record log limit r).reader ≤ ahead log r
unfolding counts
fewer_ahead log limit r a = go (next_record log limit r).answer refl
  where
    later : ahead log (next_record log limit r).reader ≤ ahead log r
    later = ahead_later log r (next_record log limit r).reader (record_later log limit r a)

    go : (x : Answer) → (next_record log limit r).answer ≡ x → counts x + ahead log (next_record log limit r).reader ≤ ahead log r
    go (whole ys) e = omega (arith, (next_record-turned log limit r a).falls (ap counts e))
    go (corruption c) e = omega (arith, (next_record-turned log limit r a).falls (ap counts e))
    go end_of_log e = omega (arith, later)
    go too_long e = omega (arith, later)

module _ (log s s' : List ℕ) (r r' : Reader) (a : ReadAnswer) (w : ReadKept log s r a s' r') where
  given_by_lem : (k : ℕ) → read_refusal log r ≡ k → given_by s' a ≡ (read_by k (next_record log (length s) r) r).answer
  unfolding read_record
  given_by_lem k e = w.given ∙ ap (λ (i : ℕ). (read_by i (next_record log (length s) r) r).answer) e

  reader_by : (k : ℕ) → read_refusal log r ≡ k → r' ≡ (read_step_by k (next_record log (length s) r) r).reader
  reader_by k e = w.reader_left ∙ ap (λ (x : ReadStep). x.reader) (step_by_lem log (length s) r k e)

  read_ahead : (k : ℕ) → read_refusal log r ≡ k → counted_in (given_by s' a ∷ []) + ahead log r' ≤ ahead log r
  unfolding read_by read_step_by counted_in
  read_ahead zero e =
      omega (
        arith,
        ap (λ (g : Given). counted_in (g ∷ [])) (given_by_lem 0 e),
        counted_answer (next_record log (length s) r).answer,
        ap (ahead log) (reader_by 0 e),
        fewer_ahead log (length s) r (read_passed log r e).arranged,
      )
  read_ahead (suc k) e = omega (arith, ap (λ (g : Given). counted_in (g ∷ [])) (given_by_lem (suc k) e), ap (ahead log) (reader_by (suc k) e))

-- ---- read after read

counted_more : (g : Given) (gs : List Given) → counted_in (g ∷ gs) ≡ counted_in (g ∷ []) + counted_in gs
unfolding counted_in
counted_more (gave_record x) gs = omega arith
counted_more (gave_corruption l) gs = omega arith
counted_more gave_end gs = omega arith
counted_more (gave_refusal n) gs = omega arith

bound_from : (n : ℕ) (r : Reader) (gs : List Given) → ReadsOn n r gs → counted_in gs ≤ n * 4681 - used r
unfolding counted_in ahead
bound_from n r _ none = omega arith
bound_from n _ _ (read {r} {r'} {gs} log s s' a e w rs) =
    omega (arith, e, counted_more (given_by s' a) gs, read_ahead log s s' r r' a w (read_refusal log r) refl, bound_from n r' gs rs)

pub reads_on_bound : ReadsOnBound
reads_on_bound n gs rs = omega (arith, bound_from n fresh gs rs)
