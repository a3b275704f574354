-- What one hit frame costs in bytes; and that nothing is lost of a log that nobody changed.
-- Assumes nothing.
use mathlib.Core.Path.{◌≡◌, refl, sym, ap, ap₂, subst, ◌∙◌}
use mathlib.Core.Bool.{Bool, true, false, cond, ◌&&◌, ◌||◌}
use mathlib.Core.List.{List, [], ◌∷◌, ◌++◌, map, append-nil}
use Prim.Native.Nat.{ℕ, suc, ◌+◌, ◌*◌, ◌-◌, ◌/◌, ◌≤◌, ◌<◌}
use native.Mathlib.Omega.{arith}
use lib.Dec.{ltb, eqb}
use lib.ListN.{length}
use borrow.Author.Tests.{eq-eqb, ne_eqb, lt-leb}
use Rattle.slices.specs.Bytes.{Bytes}
use Rattle.frame.specs.Block.{blocks}
use Rattle.frame.specs.Reader.{fresh}
use Rattle.frame.specs.Size.{frame_size}
use Rattle.recordlog.specs.Write.{Frame, frames_of, place_after}
use Rattle.recordlog.specs.Laid.{place_all, laid}
use Rattle.recordlog.specs.Read.{idle}
use Rattle.recordlog.specs.Lost.{no_tally}
use Rattle.recordlog.specs.Hit.{Hit, type_lost, loss_of, struck, any_struck}
use Rattle.recordlog.specs.Claims.{Each, hit_size}
use Rattle.recordlog.proofs.Sees.{Event, SeesBy, Any, fresh-arranged}
use Rattle.recordlog.proofs.Sees as Plain
use Rattle.recordlog.proofs.Frames.{Laid, Kinds, after, end_of, end_ge, end_append, laid_right, laid_all, end_all, contents_of, owned, frames_all}
use Rattle.recordlog.proofs.Strike.{keep, keep_append}
use Rattle.recordlog.proofs.Seen.{event, sees_rest}
use Rattle.recordlog.proofs.Assemble.{continuing_behind, continuing_keep}
use Rattle.recordlog.proofs.Back.{fresh_at, log_frames, log_length}
use Rattle.recordlog.proofs.Hit.{each_left, each_right, hit_sees}
use Rattle.record.specs.Record.{encode}
use Rattle.record.proofs.Codec.{decodes_back}
use Rattle.record.proofs.Encode.{encoded_bytes}
use Rattle.calls.specs.State.{State}
use Rattle.calls.specs.Refusals.{log_refused}
use Rattle.calls.specs.Lost.{lost_of, sum_from, sum_over, lost_bytes}
use Rattle.calls.specs.Machine.{Listed, records_of, NoneLonger}
use Rattle.calls.proofs.Passed.{log_taken}
use Rattle.calls.proofs.Answers.{Formed}
use Rattle.calls.proofs.Follows.{encodings, encodings_append, Owns, Standing, log_size}
use Rattle.calls.proofs.Steps.{follows}
use Rattle.calls.proofs.Runs.{same_records, log_legal, each_limit}
use Rattle.calls.proofs.ListParts.{owns_from, hit_length}
use Rattle.lost_bytes.specs.Costs.{unstruck_bytes, others_of, others_in, hit_cost}
use Rattle.lost_bytes.specs.Claims.{Decodes, RecordsLoseNothing, StatesLoseNothing, StatesHitCosts}
use Rattle.lost_bytes.proofs.Events.{Sized, corrupted, lost_blind, sizing, to_sized, sum_of, sum_sees}
use Rattle.lost_bytes.proofs.Records.{sz, sized_append, frame_sum, records, broken, skip, kept_bytes_lem, others_all, spared_records}

sized_frames : (n : ℕ) (fs : List Frame) (es : List Event) → map (sizing n) (map event fs ++ es) ≡ map sz fs ++ map (sizing n) es
sized_frames n [] es = refl
sized_frames n (f ∷ fs) es = ap (◌∷◌ (sz f)) (sized_frames n fs es)

sized_all : (n : ℕ) (fs : List Frame) → map (sizing n) (map event fs) ≡ map sz fs
sized_all n [] = refl
sized_all n (f ∷ fs) = ap (◌∷◌ (sz f)) (sized_all n fs)

-- ---- records that were laid

module _ (n limit : ℕ) (rs : List (List ℕ)) (tail : List ℕ) (ht : length tail < 32768) (hp : place_all 0 rs ≤ n * 32768)
    (hl : Each (λ xs. length xs ≤ limit) rs) (hd : Each Decodes rs) where
  abbrev log : List ℕ
  log = laid n rs ++ tail

  some_lost : 0 < blocks log → sum_from lost_of log limit fresh ≡ 0
  unfolding sum_of lost_of
  some_lost some =
      sum_sees lost_of lost_blind log limit (fresh-arranged log some) (to_sized log 0 (fresh-arranged log some) seen)
      ∙ ap (λ (es : List Sized). sum_of lost_of limit es idle no_tally) (sized_all 0 (frames_all 0 rs) ∙ sym (append-nil (map sz (frames_all 0 rs))))
      ∙ records limit [] 0 rs hl hd
    where
      k : ℕ
      k = n * 32768 - place_all 0 rs

      len : length log ≡ n * 32768 + length tail
      len = log_length n rs tail hp

      whole_blocks : end_of 0 (frames_all 0 rs) + k ≡ blocks log * 32768
      whole_blocks = omega (arith, len, end_all 0 rs)

      seen : SeesBy log (λ r c. frame_size log r ≡ 0) Any fresh (map event (frames_all 0 rs))
      seen = sees_rest log (frames_all 0 rs) 0 fresh k tail (fresh_at log some) (laid_all 0 rs) (log_frames n rs tail) whole_blocks (λ r a. tt)

  none_lost : (b : Bool) → log_refused log ≡ b → cond b 0 (sum_from lost_of log limit fresh) ≡ 0
  none_lost true e = refl
  none_lost false e = some_lost (log_taken log e).some

pub records_lose_nothing : RecordsLoseNothing
unfolding lost_bytes sum_over
records_lose_nothing n limit rs tail ht hp hl hd = none_lost n limit rs tail ht hp hl hd (log_refused (laid n rs ++ tail)) refl

decoding : (ls : List Listed) → Formed (records_of ls) → Each Decodes (encodings ls)
decoding [] w = tt
decoding (l ∷ ls) w = ((l.written, decodes_back l.written w.0), decoding ls w.1)

pub states_lose_nothing : StatesLoseNothing
states_lose_nothing h s r =
    let w = (follows r).stands in
    let ls = (follows r).list in
    ap (λ (log : List ℕ). lost_bytes log s.scratch) w.log_is
    ∙ records_lose_nothing w.number s.scratch (encodings ls) w.tail w.short w.room w.in_scratch (decoding ls w.formed)

-- ---- the frames of the owner

-- a frame before the hit one is not struck
pub struck-before : (lost : Bool) (h f : Frame) → f.start < h.start → struck lost h f ≡ false
unfolding struck
struck-before false h f l = ap (λ (b : Bool). b || false) (ne_eqb f.start h.start (λ z. omega arith))
struck-before true h f l =
    ap₂ ◌||◌ (ne_eqb f.start h.start (λ z. omega arith))
    (ap (λ (b : Bool). b && eqb (f.start / 32768) (h.start / 32768)) (lt-leb (suc h.start) f.start (omega arith)))

pub struck_self : (lost : Bool) (h : Frame) → struck lost h h ≡ true
unfolding struck
struck_self lost h =
    ap (λ (b : Bool). b || (lost && (ltb h.start h.start && eqb (h.start / 32768) (h.start / 32768)))) (eq-eqb h.start h.start refl)

-- its owner's frames: those before it, none of it, and those after it that are kept
owner_bytes : (lost : Bool) (f : Frame) (p : ℕ) (pre post : List Frame) → Laid p (pre ++ (f ∷ post))
    → unstruck_bytes lost f (pre ++ (f ∷ post)) ≡ frame_sum pre + frame_sum (keep lost f post)
unfolding unstruck_bytes frame_sum
owner_bytes lost f p [] post l =
    ap (λ (b : Bool). cond b 0 (7 + length f.content) + unstruck_bytes lost f post) (struck_self lost f)
    ∙ omega (arith, kept_bytes_lem lost f post)
owner_bytes lost f p (g ∷ pre) post l =
    let b : struck lost f g ≡ false = struck-before lost f g (before l) in
    let on : unstruck_bytes lost f (pre ++ (f ∷ post)) ≡ frame_sum pre + frame_sum (keep lost f post) = owner_bytes lost f (after p g) pre post l.1 in
    ap (λ (x : Bool). cond x 0 (7 + length g.content) + unstruck_bytes lost f (pre ++ (f ∷ post))) b ∙ omega (arith, on)
  where
    before : Laid p (g ∷ (pre ++ (f ∷ post))) → g.start < f.start
    before l = omega (arith, l.0.starts, (laid_right (after p g) pre (f ∷ post) l.1).0.starts, end_ge (after p g) pre)

any_struck_lem : (lost : Bool) (f : Frame) (pre post : List Frame) → any_struck lost f (pre ++ (f ∷ post)) ≡ true
unfolding any_struck
any_struck_lem lost f [] post = ap (λ (b : Bool). b || any_struck lost f post) (struck_self lost f)
any_struck_lem lost f (g ∷ pre) post = ap (λ (b : Bool). struck lost f g || b) (any_struck_lem lost f pre post) ∙ or_true (struck lost f g)
  where
    or_true : (b : Bool) → b || true ≡ true
    or_true true = refl
    or_true false = refl

-- ---- records of bytes

module _ (n limit : ℕ) (before after' : List (List ℕ)) (owner tail : List ℕ) (pre post : List Frame) (f : Frame) (hit : List ℕ)
    (hn : 0 < n) (ht : length tail < 32768) (hp : place_all 0 (before ++ (owner ∷ after')) ≤ n * 32768)
    (hl : Each (λ xs. length xs ≤ limit) (before ++ (owner ∷ after'))) (hd : Each Decodes (before ++ (owner ∷ after'))) (hb : Bytes owner)
    (hf : frames_of (place_all 0 before) owner ≡ pre ++ (f ∷ post)) (hh : Hit (laid n (before ++ (owner ∷ after')) ++ tail) hit f) where
  abbrev p1 : ℕ
  p1 = place_all 0 before

  abbrev p2 : ℕ
  p2 = place_after p1 owner

  abbrev lost : Bool
  lost = type_lost hit f

  abbrev size : ℕ
  size = hit_size lost f

  abbrev behind : List Sized
  behind = map sz (keep lost f (post ++ frames_all p2 after'))

  stands : Laid p1 (pre ++ (f ∷ post))
  stands = subst (Laid p1) hf (owned p1 owner).stands

  kinds : Kinds true (pre ++ (f ∷ post))
  kinds = subst (Kinds true) hf (owned p1 owner).kinds

  contents : contents_of (pre ++ (f ∷ post)) ≡ owner
  contents = ap contents_of (sym hf) ∙ (owned p1 owner).contents

  -- the hit frame starts before the next record
  before-next : f.start < p2
  unfolding end_of
  before-next =
      omega (
        arith,
        (laid_right p1 pre (f ∷ post) stands).0.starts,
        end_append p1 pre (f ∷ post),
        ap (end_of p1) hf,
        (owned p1 owner).ends_at,
        end_ge (after (end_of p1 pre) f) post,
      )

  -- what follows the hit frame
  after-sum : sum_of lost_of limit behind idle no_tally ≡ frame_sum (keep lost f post) + others_all lost f p2 after'
  after-sum =
      ap (λ (gs : List Frame). sum_of lost_of limit (map sz gs) idle no_tally) (keep_append lost f post (frames_all p2 after'))
      ∙ ap (λ (es : List Sized). sum_of lost_of limit es idle no_tally) (sized_append (keep lost f post) (keep lost f (frames_all p2 after')))
      ∙ skip limit (map sz (keep lost f (frames_all p2 after'))) (keep lost f post) 0 0 (continuing_keep lost f post (continuing_behind true f post pre kinds))
      ∙ spared_records lost f limit p2 after' (0 + frame_sum (keep lost f post)) 0 before-next (each_right (λ xs. length xs ≤ limit) before (owner ∷ after') hl).1
      (each_right Decodes before (owner ∷ after') hd).1
      ∙ omega arith

  seen-sum : sum_of lost_of limit (map sz (frames_all 0 before ++ pre) ++ (corrupted (loss_of lost) size ∷ behind)) idle no_tally
      ≡ frame_sum pre + size + sum_of lost_of limit behind idle no_tally
  seen-sum =
      ap (λ (es : List Sized). sum_of lost_of limit es idle no_tally) (apart (frames_all 0 before))
      ∙ records limit (map sz pre ++ (corrupted (loss_of lost) size ∷ behind)) 0 before (each_left (λ xs. length xs ≤ limit) before (owner ∷ after') hl)
      (each_left Decodes before (owner ∷ after') hd)
      ∙ broken limit (loss_of lost) size behind f post pre kinds (omega (arith, ap length contents, (each_right (λ xs. length xs ≤ limit) before (owner ∷ after') hl).0))
    where
      apart : (fs : List Frame) → map sz (fs ++ pre) ++ (corrupted (loss_of lost) size ∷ behind) ≡ map sz fs ++ (map sz pre ++ (corrupted (loss_of lost) size ∷ behind))
      apart [] = refl
      apart (g ∷ fs) = ap (◌∷◌ (sz g)) (apart fs)

  owner_cost : others_of lost f (frames_of p1 owner) ≡ frame_sum pre + frame_sum (keep lost f post)
  unfolding others_of
  owner_cost =
      ap (others_of lost f) hf
      ∙ ap (λ (b : Bool). cond b (unstruck_bytes lost f (pre ++ (f ∷ post))) 0) (any_struck_lem lost f pre post)
      ∙ owner_bytes lost f p1 pre post stands

  hit_lost : sum_from lost_of hit limit fresh ≡ size + (others_of lost f (frames_of p1 owner) + others_all lost f p2 after')
  hit_lost =
      let x = hit_sees n limit before after' owner tail pre post f hit hn ht hp hl hb hf hh in
      let a = fresh-arranged hit x.0 in
      sum_sees lost_of lost_blind hit limit a (to_sized hit size a x.1)
      ∙ ap (λ (es : List Sized). sum_of lost_of limit es idle no_tally)
      (sized_frames size (frames_all 0 before ++ pre) (Plain.corrupted (loss_of lost) ∷ map event (keep lost f (post ++ frames_all p2 after')))
      ∙ ap (λ (es : List Sized). map sz (frames_all 0 before ++ pre) ++ (corrupted (loss_of lost) size ∷ es)) (sized_all size (keep lost f (post ++ frames_all p2 after'))))
      ∙ seen-sum
      ∙ omega (arith, after-sum, owner_cost)

-- ---- lists of calls

others-listed : (lost : Bool) (f : Frame) (p : ℕ) (ls : List Listed) → Owns p ls → others_all lost f p (encodings ls) ≡ others_in lost f ls
unfolding others_all others_in
others-listed lost f p [] w = refl
others-listed lost f p (l ∷ ls) w =
    ap₂ ◌+◌ (ap (others_of lost f) (sym w.0)) (others-listed lost f (place_after p (encode l.written)) ls w.1)

module _ (s : State) (before after' : List Listed) (owner : Listed) (w : Standing s (before ++ (owner ∷ after')))
    (earlier later : List Frame) (f : Frame) (hit : List ℕ) (limit : ℕ)
    (hf : owner.frames ≡ earlier ++ (f ∷ later)) (hh : Hit s.log hit f) (hl : NoneLonger limit (before ++ (owner ∷ after'))) where
  parts : encodings (before ++ (owner ∷ after')) ≡ encodings before ++ (encode owner.written ∷ encodings after')
  parts = encodings_append before (owner ∷ after')

  owns_behind : Owns (place_all 0 (encodings before)) (owner ∷ after')
  owns_behind = owns_from 0 before (owner ∷ after') w.owns

  listed : (ls : List Listed) → Formed (records_of (ls ++ (owner ∷ after'))) → Formed (owner.written ∷ records_of after')
  listed [] u = u
  listed (l ∷ ls) u = listed ls u.1

  legal : log_refused hit ≡ false
  legal = log_legal hit w.number (length w.tail) (hit_length s.log hit f hh ∙ log_size s (before ++ (owner ∷ after')) w) w.short w.some w.most

  costs : lost_bytes hit limit ≡ hit_cost (type_lost hit f) f (owner ∷ after')
  unfolding lost_bytes sum_over hit_cost others_in
  costs =
      ap (λ (b : Bool). cond b 0 (sum_from lost_of hit limit fresh)) legal
      ∙ hit_lost w.number limit (encodings before) (encodings after') (encode owner.written) w.tail earlier later f hit w.some w.short
      (subst (λ (rs : List (List ℕ)). place_all 0 rs ≤ w.number * 32768) parts w.room)
      (subst (Each (λ (xs : List ℕ). length xs ≤ limit)) parts (each_limit limit (before ++ (owner ∷ after')) hl))
      (subst (Each Decodes) parts (decoding (before ++ (owner ∷ after')) w.formed))
      (encoded_bytes owner.written (listed before w.formed).0)
      (sym owns_behind.0 ∙ hf)
      (subst (λ (log : List ℕ). Hit log hit f) (w.log_is ∙ ap (λ (rs : List (List ℕ)). laid w.number rs ++ w.tail) parts) hh)
      ∙ ap₂ (λ (i j : ℕ). hit_size (type_lost hit f) f + (i + j)) (ap (others_of (type_lost hit f) f) (sym owns_behind.0))
      (others-listed (type_lost hit f) f (place_after (place_all 0 (encodings before)) (encode owner.written)) after' owns_behind.1)

pub states_hit_costs : StatesHitCosts
states_hit_costs h s r before after' owner earlier later f hit limit e hf hh hl =
    costs s before after' owner (subst (Standing s) (sym (same_records r) ∙ e) (follows r).stands) earlier later f hit limit hf hh (subst (NoneLonger limit) e hl)
