-- The cut log as frames: those that count as stored, the bytes that stand for the first that does not, zeros.
-- Assumes nothing.
use mathlib.Core.Path.{◌≡◌, refl, sym, ap, ap₂, ◌∙◌}
use mathlib.Core.Bool.{Bool, true, false, cond}
use mathlib.Core.List.{List, [], ◌∷◌, ◌++◌, append_assoc, append-nil}
use Prim.Native.Nat.{ℕ, ◌*◌, ◌-◌, ◌≤◌, ◌<◌}
use native.Mathlib.Omega.{arith}
use lib.ListN.{length, length-replicate}
use Rattle.slices.specs.Bytes.{zeros}
use Rattle.frame.specs.Frame.{frame_bytes}
use Rattle.frame.proofs.Headers.{length_frame}
use Rattle.recordlog.specs.Write.{Frame, frames_of, bytes_of, place_after}
use Rattle.recordlog.specs.Laid.{place_all, laid}
use Rattle.recordlog.proofs.Append.{place-append}
use Rattle.recordlog.proofs.Frames.{Stands, Laid, after, length_bytes, bytes_append, frames_all, laid_all, end_all, all_append, written_frames}
use Rattle.cut.specs.Cut.{cut_at, stored, Unfit, UnfitFrame, complete, left_of, left}
use Rattle.cut.specs.Claims.{cut_log}
use Rattle.cut.proofs.Lists.{cut_none, cut_all, cut_append, cut_zeros, cut_stored, missing_some}

-- ---- frames one after the other, cut at c

-- what stands for a frame
abbrev pub remains : ℕ → Frame → List ℕ
remains c f = cut_at (c - f.start) (frame_bytes f.kind f.content)

cut_frame : (c p : ℕ) (f : Frame) (fs : List Frame) → Stands p f
    → cut_at (c - p) (bytes_of (f ∷ fs)) ≡ zeros f.padding ++ (remains c f ++ cut_at (c - after p f) (bytes_of fs))
unfolding bytes_of
cut_frame c p f fs h =
    let a : c - p - length (zeros f.padding) ≡ c - f.start = omega (arith, h.starts, h.pads, length-replicate {A = ℕ} f.padding 0) in
    let b : c - f.start - length (frame_bytes f.kind f.content) ≡ c - after p f = omega (arith, h.starts, length_frame f.kind f.content) in
    cut_append (c - p) (zeros f.padding) (frame_bytes f.kind f.content ++ bytes_of fs)
    ∙ ap₂ (λ (u v : List ℕ). u ++ v) (cut_zeros (c - p) f.padding)
    (ap (λ (m : ℕ). cut_at m (frame_bytes f.kind f.content ++ bytes_of fs)) a
    ∙ cut_append (c - f.start) (frame_bytes f.kind f.content) (bytes_of fs)
    ∙ ap (λ (m : ℕ). remains c f ++ cut_at m (bytes_of fs)) b)

-- the frames before the first that does not count as stored, that one, and those after it
pub record Broken (c p : ℕ) (fs : List Frame) : Type 0 where
  pub pre : List Frame
  pub at : Frame
  pub post : List Frame
  pub split : fs ≡ pre ++ (at ∷ post)
  pub not_stored : stored c at ≡ false
  pub here : left c fs ≡ left_of c at
  pub unfit : Unfit c fs → UnfitFrame c at
  pub bytes : cut_at (c - p) (bytes_of fs) ≡ bytes_of pre ++ (zeros at.padding ++ (remains c at ++ zeros (length (bytes_of post))))

pub record Unbroken (c p : ℕ) (fs : List Frame) : Type 0 where
  pub here : left c fs ≡ complete
  pub bytes : cut_at (c - p) (bytes_of fs) ≡ bytes_of fs

pub data Split (c p : ℕ) (fs : List Frame) : Type 0 where
  unbroken : Unbroken c p fs → Split c p fs
  broken : Broken c p fs → Split c p fs

-- the first frame counts as stored, and the rest is so
split_on_lem : (c p : ℕ) (f : Frame) (fs : List Frame) → Stands p f → stored c f ≡ true → Split c (after p f) fs → Split c p (f ∷ fs)
unfolding left bytes_of
split_on_lem c p f fs h s (unbroken u) =
    unbroken (record {
      here = ap (λ (b : Bool). cond b (left c fs) (left_of c f)) s ∙ u.here;
      bytes =
          cut_frame c p f fs h
          ∙ ap₂ (λ (a b : List ℕ). zeros f.padding ++ (a ++ b)) (cut_stored (c - f.start) (frame_bytes f.kind f.content) (unfold stored in s)) u.bytes;
    })
split_on_lem c p f fs h s (broken u) =
    broken (record {
      pre = f ∷ u.pre;
      at = u.at;
      post = u.post;
      split = ap (λ (gs : List Frame). f ∷ gs) u.split;
      not_stored = u.not_stored;
      here = ap (λ (b : Bool). cond b (left c fs) (left_of c f)) s ∙ u.here;
      unfit = λ n. u.unfit n.1;
      bytes =
          cut_frame c p f fs h
          ∙ ap₂ (λ (a b : List ℕ). zeros f.padding ++ (a ++ b)) (cut_stored (c - f.start) (frame_bytes f.kind f.content) (unfold stored in s)) u.bytes
          ∙ ap (λ (a : List ℕ). zeros f.padding ++ a) (sym (append_assoc (frame_bytes f.kind f.content) (bytes_of u.pre) rest))
          ∙ sym (append_assoc (zeros f.padding) (frame_bytes f.kind f.content ++ bytes_of u.pre) rest);
    })
  where
    rest : List ℕ
    rest = zeros u.at.padding ++ (remains c u.at ++ zeros (length (bytes_of u.post)))

-- the first frame does not: all after it is missing
split_here : (c p : ℕ) (f : Frame) (fs : List Frame) → Stands p f → stored c f ≡ false → Broken c p (f ∷ fs)
unfolding left bytes_of
split_here c p f fs h s =
    let m : c - f.start < length (frame_bytes f.kind f.content) = missing_some (c - f.start) (frame_bytes f.kind f.content) (unfold stored in s) in
    let z : c - after p f ≡ 0 = omega (arith, h.starts, length_frame f.kind f.content) in
    record {
      pre = [];
      at = f;
      post = fs;
      split = refl;
      not_stored = s;
      here = ap (λ (b : Bool). cond b (left c fs) (left_of c f)) s;
      unfit = λ n. n.0;
      bytes =
          cut_frame c p f fs h
          ∙ ap (λ (b : List ℕ). zeros f.padding ++ (remains c f ++ b)) (ap (λ (m : ℕ). cut_at m (bytes_of fs)) z ∙ cut_none (bytes_of fs));
    }

pub split_frames : (c p : ℕ) (fs : List Frame) → Laid p fs → Split c p fs
split_frames c p [] l = unbroken (record { here = unfold left in refl; bytes = unfold bytes_of in cut_all (c - p) [] (omega arith) })
split_frames c p (f ∷ fs) l = go (stored c f) refl (split_frames c (after p f) fs l.1)
  where
    go : (b : Bool) → stored c f ≡ b → Split c (after p f) fs → Split c p (f ∷ fs)
    go true e s = split_on_lem c p f fs l.0 e s
    go false e s = broken (split_here c p f fs l.0 e)

-- ---- the log

module _ (n c : ℕ) (before : List (List ℕ)) (xs tail : List ℕ) (behind : place_all 0 before ≤ c) where
  frames_before : frames_all 0 (before ++ (xs ∷ [])) ≡ frames_all 0 before ++ frames_of (place_all 0 before) xs
  unfolding frames_all
  frames_before =
      all_append 0 before (xs ∷ [])
      ∙ ap (λ (fs : List Frame). frames_all 0 before ++ fs) (append-nil (frames_of (place_all 0 before) xs))

  place-before : place_all 0 (before ++ (xs ∷ [])) ≡ place_after (place_all 0 before) xs
  unfolding place_all
  place-before = place-append 0 before (xs ∷ [])

  laid_parts : laid n (before ++ (xs ∷ []))
      ≡ bytes_of (frames_all 0 before) ++ (bytes_of (frames_of (place_all 0 before) xs) ++ zeros (n * 32768 - place_after (place_all 0 before) xs))
  unfolding laid
  laid_parts =
      ap₂ (λ (a : List ℕ) (q : ℕ). a ++ zeros (n * 32768 - q))
      (written_frames 0 (before ++ (xs ∷ [])) ∙ ap bytes_of frames_before ∙ bytes_append (frames_all 0 before) (frames_of (place_all 0 before) xs)) place-before
      ∙ append_assoc (bytes_of (frames_all 0 before)) (bytes_of (frames_of (place_all 0 before) xs)) (zeros (n * 32768 - place_after (place_all 0 before) xs))

  pub cut_log_lem : cut_log n before xs c ++ tail
      ≡ bytes_of (frames_all 0 before) ++ (cut_at (c - place_all 0 before) (bytes_of (frames_of (place_all 0 before) xs)) ++ (zeros (n * 32768 - place_after (place_all 0 before) xs) ++ tail))
  unfolding cut_log
  cut_log_lem =
      ap (λ (s : List ℕ). s ++ tail)
      (ap (cut_at c) laid_parts
      ∙ cut_append c a (b ++ zeros k)
      ∙ ap₂ (λ (u v : List ℕ). u ++ v) (cut_all c a (omega (arith, len)))
      (ap (λ (m : ℕ). cut_at m (b ++ zeros k)) q ∙ cut_append (c - place_all 0 before) b (zeros k)
      ∙ ap (λ (v : List ℕ). cut_at (c - place_all 0 before) b ++ v) (cut_zeros (c - place_all 0 before - length b) k)))
      ∙ append_assoc a (cut_at (c - place_all 0 before) b ++ zeros k) tail
      ∙ ap (λ (s : List ℕ). a ++ s) (append_assoc (cut_at (c - place_all 0 before) b) (zeros k) tail)
    where
      a : List ℕ
      a = bytes_of (frames_all 0 before)

      b : List ℕ
      b = bytes_of (frames_of (place_all 0 before) xs)

      k : ℕ
      k = n * 32768 - place_after (place_all 0 before) xs

      len : length a ≡ place_all 0 before
      len = omega (arith, length_bytes 0 (frames_all 0 before) (laid_all 0 before), end_all 0 before)

      q : c - length a ≡ c - place_all 0 before
      q = ap (λ (i : ℕ). c - i) len
