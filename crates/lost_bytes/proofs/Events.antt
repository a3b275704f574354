-- A sum over the reading as two things: the frames that a reader sees with their sizes, and the sum over the reads that a list of frames makes.
-- Assumes nothing.
use mathlib.Core.Path.{◌≡◌, refl, sym, ap, ap₂, ◌∙◌}
use mathlib.Core.Bool.{Bool, true, false}
use mathlib.Core.List.{List, [], ◌∷◌, map}
use Prim.Native.Nat.{ℕ, zero, suc, ◌+◌, ◌-◌, ◌≤◌, ◌<◌}
use native.Mathlib.Omega.{arith}
use lib.Dec.{leb}
use lib.ListN.{length, take, drop, length-drop}
use lib.Seq.{length-take-le}
use Rattle.std.specs.Prelude.{Ok, Err}
use Rattle.frame.specs.declared.ReadFrameError.TheVariants.{Corruption as bad_frame, NotAvailable as no_frame}
use Rattle.frame.specs.Frame.{begins, ends}
use Rattle.frame.specs.declared.Reader.{Reader}
use Rattle.frame.specs.declared.FrameType.{FrameType}
use Rattle.frame.specs.Reader.{FrameAnswer}
use Rattle.frame.specs.declared.Corruption.{Corruption}
use Rattle.frame.specs.Reader.{sound, corrupt, not_available}
use Rattle.frame.specs.Reader.{ahead, read_frame}
use Rattle.frame.specs.Size.{header_cursor, size_of, frame_size}
use Rattle.frame.specs.Internal.{Arranged}
use Rattle.frame.proofs.Measure.{onward, ahead_falls}
use Rattle.recordlog.specs.declared.Tally.{Tally}
use Rattle.recordlog.specs.Read.{Answer, whole, corruption, end_of_log, too_long, Next, Begun, idle, within, gather, weigh, join, on_frame, next, next_from, next_record}
use Rattle.recordlog.specs.Lost.{tally, no_tally, take_up, weigh_tally, join_tally, on_tally, tallies, tally_from, tally_of}
use Rattle.recordlog.proofs.Sees.{Event, SeesBy, not_corrupt, not_sound_lem}
use Rattle.recordlog.proofs.Sees as Plain
use Rattle.calls.specs.Lost.{lost_of, on_sum, sum_reads, sum_from}
use Rattle.lost_bytes.specs.Given.{given_of}

-- a frame as it is read, and its bytes; a sound one with the place of its header
pub data Sized : Type 0 where
  good : FrameType → List ℕ → ℕ → ℕ → Sized
  corrupted : Corruption → ℕ → Sized

-- ---- the sum over the reads that frames make

-- a number for each read that does not look at where its record began
abbrev pub bare : Tally → Tally
bare t = tally t.lost t.taken 0

abbrev pub Blind : (Answer → Tally → ℕ) → Type 0
Blind w = (a : Answer) (t : Tally) → w a t ≡ w a (bare t)

pub lost_blind : Blind lost_of
unfolding lost_of
lost_blind (whole ys) t = refl
lost_blind (corruption c) t = refl
lost_blind end_of_log t = refl
lost_blind too_long t = refl

pub given_blind : Blind given_of
unfolding given_of
given_blind (whole ys) t = refl
given_blind (corruption c) t = refl
given_blind end_of_log t = refl
given_blind too_long t = refl

unfoldable pub weighed_sum : (Answer → Tally → ℕ) → Bool → Bool → List ℕ → Tally → (Begun → Tally → ℕ) → ℕ
weighed_sum w false _ ys t go = w too_long no_tally
weighed_sum w true true ys t go = w (whole ys) t + go idle no_tally
weighed_sum w true false ys t go = go (within ys) t

unfoldable pub joined_sum : (Answer → Tally → ℕ) → ℕ → FrameType → Begun → Tally → (Begun → Tally → ℕ) → ℕ
joined_sum w limit k idle t go = go idle t
joined_sum w limit k (within ys) t go = weighed_sum w (leb (length ys) limit) (ends k) ys t go

-- the sum over the reads that these frames make
unfoldable pub sum_of : (Answer → Tally → ℕ) → ℕ → List Sized → Begun → Tally → ℕ
sum_of w limit [] b t = w end_of_log (tally (t.lost + t.taken) 0 0)
sum_of w limit (corrupted c z ∷ es) b t = w (corruption c) (tally (t.lost + t.taken + z) 0 0) + sum_of w limit es idle no_tally
sum_of w limit (good k xs z q ∷ es) b t = joined_sum w limit k (gather b k xs) (take_up (begins k) b z 0 t) (sum_of w limit es)

-- ---- what a reader sees

pub data SeesSized (log : List ℕ) : Reader → List Sized → Type 0 where
  none : {r : Reader} → (read_frame log r).answer ≡ not_available → SeesSized log r []
  bad : {r : Reader} {es : List Sized} (c : Corruption) (z : ℕ) → (read_frame log r).answer ≡ corrupt c → frame_size log r ≡ z
      → SeesSized log (read_frame log r).reader es → SeesSized log r (corrupted c z ∷ es)
  fine : {r : Reader} {es : List Sized} (t : FrameType) (s n : ℕ) (xs : List ℕ) (z q : ℕ) → (read_frame log r).answer ≡ sound t s n → take n (drop s log) ≡ xs
      → frame_size log r ≡ z → s - 7 ≡ q → SeesSized log (read_frame log r).reader es → SeesSized log r (good t xs z q ∷ es)

-- no more frames than lie ahead
pub sized_ahead : (log : List ℕ) {r : Reader} {es : List Sized} → Arranged log r → SeesSized log r es → length es ≤ ahead log r
sized_ahead log a (none e) = omega arith
sized_ahead log {r} a (bad c z e f s) =
    omega (arith, sized_ahead log (onward log r a).arranged s, ahead_falls log r a (not_corrupt (read_frame log r).answer c e))
sized_ahead log {r} a (fine t p n xs z q e d f g s) =
    omega (arith, sized_ahead log (onward log r a).arranged s, ahead_falls log r a (not_sound_lem (read_frame log r).answer t p n e))

-- every reader sees some list of frames
see : (log : List ℕ) (r : Reader) → (((read_frame log r).answer ≡ not_available → ⊥) → (es : List Sized) × SeesSized log (read_frame log r).reader es)
    → (es : List Sized) × SeesSized log r es
see log r on = go (read_frame log r).answer refl
  where
    go : (a : FrameAnswer) → (read_frame log r).answer ≡ a → (es : List Sized) × SeesSized log r es
    go (Err no_frame) e = ([], none e)
    go (Err (bad_frame c)) e = let x = on (not_corrupt (read_frame log r).answer c e) in (corrupted c (frame_size log r) ∷ x.0, bad c (frame_size log r) e refl x.1)
    go (Ok f) e =
        let x = on (not_sound_lem (read_frame log r).answer f.kind f.start f.len e) in (
          good f.kind (take f.len (drop f.start log)) (frame_size log r) (f.start - 7) ∷ x.0,
          fine f.kind f.start f.len (take f.len (drop f.start log)) (frame_size log r) (f.start - 7) e refl refl refl x.1,
        )

sees_within : (k : ℕ) (log : List ℕ) (r : Reader) → Arranged log r → ahead log r ≤ k → (es : List Sized) × SeesSized log r es
sees_within zero log r a h = see log r (λ n. absurd (omega (arith, ahead_falls log r a n)))
sees_within (suc k) log r a h =
    see log r (λ n. sees_within k log (read_frame log r).reader (onward log r a).arranged (omega (arith, ahead_falls log r a n)))

pub sees_sized : (log : List ℕ) (r : Reader) → Arranged log r → (es : List Sized) × SeesSized log r es
sees_sized log r a = sees_within (ahead log r) log r a (omega arith)

-- a sound frame has a header and its data
size_sound : (log : List ℕ) (r : Reader) (t : FrameType) (s n : ℕ) (xs : List ℕ) → Arranged log r → (read_frame log r).answer ≡ sound t s n → take n (drop s log) ≡ xs
    → frame_size log r ≡ 7 + length xs
unfolding frame_size size_of
size_sound log r t s n xs a e d =
    let i : s + n ≤ length log = (onward log r a).data_inside t s n e in
    let l : length (take n (drop s log)) ≡ n = length-take-le n (drop s log) (omega (arith, length-drop s log)) in
    let m : n ≡ length xs = sym l ∙ ap length d in
    ap (λ (x : FrameAnswer). size_of x (header_cursor r) (read_frame log r).reader.cursor) e ∙ ap (λ (i : ℕ). 7 + i) m

-- a frame seen, where each corruption is about n bytes
abbrev pub sizing : ℕ → Event → Sized
sizing n (Plain.good t xs q) = good t xs (7 + length xs) q
sizing n (Plain.corrupted c) = corrupted c n

pub to_sized : (log : List ℕ) (n : ℕ) {Z : Reader → Type 0} {r : Reader} {es : List Event} → Arranged log r → SeesBy log (λ r c. frame_size log r ≡ n) Z r es
    → SeesSized log r (map (sizing n) es)
to_sized log n a (Plain.none e z) = none e
to_sized log n {r = r} a (Plain.bad c e q s) = bad c n e q (to_sized log n (onward log r a).arranged s)
to_sized log n {r = r} a (Plain.fine t p i xs q e d f s) =
    fine t p i xs (7 + length xs) q e d (size_sound log r t p i xs a e d) f (to_sized log n (onward log r a).arranged s)

-- ---- the sum over the reads is that over the frames seen

-- the reads from one that is under way on
abbrev onward_sum : (Answer → Tally → ℕ) → ℕ → List ℕ → ℕ → Next → Tally → ℕ
onward_sum w n log limit x t = on_sum w x.answer t x.reader (sum_reads w n log limit)

bare_up : (c : Bool) (b : Begun) (z p : ℕ) (t : Tally) → bare (take_up c b z p t) ≡ take_up c b z 0 (bare t)
unfolding take_up
bare_up true b z p t = refl
bare_up false idle z p t = refl
bare_up false (within ys) z p t = refl

module _ (w : Answer → Tally → ℕ) (blind : Blind w) where
  module _ (n limit : ℕ) (log : List ℕ) (r first : Reader) (es : List Sized) (go : Begun → Reader → Next) (goes : Begun → Tally → Tally)
      (on : (b : Begun) (t : Tally) → onward_sum w n log limit (go b r) (goes b t) ≡ sum_of w limit es b (bare t))
      (again : sum_reads w n log limit r ≡ sum_of w limit es idle no_tally) where
    weighs : (f e : Bool) (ys : List ℕ) (t : Tally)
        → onward_sum w n log limit (weigh f e first ys r go) (weigh_tally f e ys t goes) ≡ weighed_sum w f e ys (bare t) (sum_of w limit es)
    unfolding weigh weigh_tally weighed_sum on_sum
    weighs false e ys t = refl
    weighs true true ys t = ap₂ ◌+◌ (blind (whole ys) t) again
    weighs true false ys t = on (within ys) t

    joins : (k : FrameType) (g : Begun) (t : Tally)
        → onward_sum w n log limit (join limit k first g r go) (join_tally limit k g t goes) ≡ joined_sum w limit k g (bare t) (sum_of w limit es)
    unfolding join join_tally joined_sum
    joins k idle t = on idle t
    joins k (within ys) t = weighs (leb (length ys) limit) (ends k) ys t

  fused : (log : List ℕ) (limit : ℕ) {r : Reader} {es : List Sized} → Arranged log r → SeesSized log r es → (n m : ℕ) (first : Reader) (b : Begun) (t : Tally)
      → length es < m → length es ≤ n → onward_sum w n log limit (next m log limit first b r) (tallies m log limit r b t) ≡ sum_of w limit es b (bare t)
  unfolding next on_frame tallies on_tally on_sum sum_reads next_record next_from tally_of tally_from sum_of
  fused log limit a (none e) n zero first b t lm ln = absurd (omega arith)
  fused log limit {r} a (none e) n (suc m) first b t lm ln =
      ap (λ (x : FrameAnswer). onward_sum w n log limit (on_frame log limit first b x (read_frame log r).reader (next m log limit first))
      (on_tally log limit b t x (frame_size log r) (tallies m log limit (read_frame log r).reader))) e
  fused log limit a (bad c z e f s) n zero first b t lm ln = absurd (omega arith)
  fused log limit a (bad c z e f s) zero (suc m) first b t lm ln = absurd (omega arith)
  fused log limit {r} a (bad {es = es} c z e f s) (suc n) (suc m) first b t lm ln =
      let g : sum_reads w (suc n) log limit (read_frame log r).reader ≡ sum_of w limit es idle no_tally
      = fused log limit (onward log r a).arranged s n (suc (ahead log (read_frame log r).reader)) (read_frame log r).reader idle no_tally
      (omega (arith, sized_ahead log (onward log r a).arranged s)) (omega arith) in
      ap (λ (x : FrameAnswer). onward_sum w (suc n) log limit (on_frame log limit first b x (read_frame log r).reader (next m log limit first))
      (on_tally log limit b t x (frame_size log r) (tallies m log limit (read_frame log r).reader))) e
      ∙ ap₂ (λ (i j : ℕ). w (corruption c) (tally (t.lost + t.taken + i) 0 0) + j) f g
  fused log limit a (fine k p i xs z q e d f h s) n zero first b t lm ln = absurd (omega arith)
  fused log limit a (fine k p i xs z q e d f h s) zero (suc m) first b t lm ln = absurd (omega arith)
  fused log limit {r} a (fine {es = es} k p i xs z q e d f h s) (suc n) (suc m) first b t lm ln =
      ap (λ (x : FrameAnswer). onward_sum w (suc n) log limit (on_frame log limit first b x (read_frame log r).reader (next m log limit first))
      (on_tally log limit b t x (frame_size log r) (tallies m log limit (read_frame log r).reader))) e
      ∙ ap₂ (λ (ys : List ℕ) (j : ℕ). onward_sum w (suc n) log limit (join limit k first (gather b k ys) (read_frame log r).reader (next m log limit first))
      (join_tally limit k (gather b k ys) (take_up (begins k) b j (p - 7) t) (tallies m log limit (read_frame log r).reader))) d f
      ∙ joins (suc n) limit log (read_frame log r).reader first es (next m log limit first) (tallies m log limit (read_frame log r).reader)
      (λ g u. fused log limit (onward log r a).arranged s (suc n) m first g u (omega arith) (omega arith))
      (fused log limit (onward log r a).arranged s n (suc (ahead log (read_frame log r).reader)) (read_frame log r).reader idle no_tally
      (omega (arith, sized_ahead log (onward log r a).arranged s)) (omega arith))
      k (gather b k xs) (take_up (begins k) b z (p - 7) t)
      ∙ ap (λ (u : Tally). joined_sum w limit k (gather b k xs) u (sum_of w limit es)) (bare_up (begins k) b z (p - 7) t)

  -- so the sum from a reader on is that of the frames that it sees
  pub sum_sees : (log : List ℕ) (limit : ℕ) {r : Reader} {es : List Sized} → Arranged log r → SeesSized log r es → sum_from w log limit r ≡ sum_of w limit es idle no_tally
  unfolding sum_from sum_reads next_record next_from tally_of tally_from
  sum_sees log limit {r} a s = fused log limit a s (ahead log r) (suc (ahead log r)) r idle no_tally (omega (arith, sized_ahead log a s)) (sized_ahead log a s)
