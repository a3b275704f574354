-- What a cut log is, in the four cases of what was left of the record.
-- Assumes nothing.
use mathlib.Core.Path.{◌≡◌, refl, sym, ap, ap₂, subst, ◌∙◌}
use mathlib.Core.Bool.{Bool, true, false}
use mathlib.Core.List.{List, [], ◌∷◌, ◌++◌, map, append_assoc}
use Prim.Native.Nat.{ℕ, ◌+◌, ◌*◌, ◌-◌, ◌%◌, ◌≤◌, ◌<◌}
use native.Mathlib.Omega.{arith}
use lib.Dec.{leb}
use borrow.Author.Tests.{leb-true, leb-false}
use lib.ListN.{length, take, get_or, length-append, replicate-append-replicate}
use Rattle.slices.specs.Bytes.{zeros}
use Rattle.fields.specs.Le.{le}
use Rattle.fields.proofs.Le.{length-le_bytes}
use Rattle.crc32.specs.Crc.{crc32}
use Rattle.frame.specs.Frame.{type_number, frame_bytes, all_zero}
use Rattle.frame.specs.Block.{padding}
use Rattle.frame.proofs.Headers.{header, le-sum}
use Rattle.recordlog.specs.Write.{Frame, frames_of, bytes_of, place_after}
use Rattle.recordlog.specs.Laid.{place_all, laid}
use Rattle.recordlog.specs.Claims.{Each}
use Rattle.recordlog.specs.Read.{idle}
use Rattle.recordlog.specs.Began.{header_place}
use Rattle.frame.specs.declared.Corruption.TheVariants.{WrongChecksum as wrong_checksum, UnknownType as unknown_type}
use Rattle.recordlog.proofs.Sees.{Event}
use Rattle.recordlog.proofs.Sited.{Sited, given as given_whole, lost, assemble}
use Rattle.recordlog.proofs.SitedRecords.{Restarts, given_all}
use Rattle.recordlog.proofs.Frames.{Stands, Laid, after, end_of, end_append, laid-left, laid_right, laid-append, length_bytes, bytes_append, frames_all, laid_all, end_all, owned}
use Rattle.recordlog.proofs.Seen.{event}
use Rattle.recordlog.proofs.Back.{log_length}
use Rattle.cut.specs.Cut.{Left, complete, headed, nothing, torn, left_when, left, covered}
use Rattle.cut.specs.Claims.{cut_log, Cutting}
use Rattle.cut.proofs.Lists.{length_cut}
use Rattle.recordlog.proofs.Append.{place-append}
use Rattle.cut.proofs.Shape.{remains, Broken, Unbroken, Split, unbroken, broken, split_frames, cut_log_lem}
use Rattle.cut.proofs.Torn.{part, cut_data, sum_bytes, headed_bytes, nothing_bytes, torn_bytes, part_length, part_type, part_some}
use Rattle.cut.proofs.Dropped.{puts_whole, puts_broken}

-- `given` with the place of the record's first header; the record is written at p
unfoldable pub given_at : Left → ℕ → List ℕ → List Sited
given_at complete p xs = given_whole (header_place p) xs ∷ []
given_at headed p xs = lost wrong_checksum ∷ []
given_at nothing p xs = []
given_at (torn s) p xs = lost unknown_type ∷ []

-- none of these is longer
abbrev pub Fits : ℕ → List (List ℕ) → List ℕ → Type 0
Fits limit before xs = Each (λ ys. length ys ≤ limit) before × (length xs ≤ limit)

-- frames, then zeros: the record is whole, or nothing of it is left that is read
pub record Clean (n : ℕ) (before : List (List ℕ)) (xs tail log : List ℕ) (l : Left) : Type 0 where
  pub frames : List Frame
  pub k : ℕ
  pub stands : Laid 0 frames
  pub is : log ≡ bytes_of frames ++ (zeros k ++ tail)
  pub total : end_of 0 frames + k ≡ n * 32768
  pub plain : (rs : List (List ℕ)) → covered n l rs ≡ false
  pub puts : (limit : ℕ) → Fits limit before xs → (es : List Event) → Restarts limit es
      → assemble limit (map event frames ++ es) idle 0 ≡ given_all 0 before ++ (given_at l (place_all 0 before) xs ++ assemble limit es idle 0)

-- frames, a whole header with other data, zeros
pub record Headed (n : ℕ) (before : List (List ℕ)) (xs tail log : List ℕ) : Type 0 where
  pub frames : List Frame
  pub at : Frame
  pub sum : List ℕ
  pub datas : List ℕ
  pub k : ℕ
  pub stands : Laid 0 frames
  pub four : length sum ≡ 4
  pub fits : (end_of 0 frames + padding (end_of 0 frames)) % 32768 + 7 + length datas ≤ 32768
  pub told : crc32 (type_number at.kind ∷ datas) ≡ le sum → ⊥
  pub is : log ≡ bytes_of frames ++ (zeros (padding (end_of 0 frames)) ++ header sum (length datas) (type_number at.kind) (datas ++ (zeros k ++ tail)))
  pub total : end_of 0 frames + padding (end_of 0 frames) + 7 + length datas + k ≡ n * 32768
  pub puts : (limit : ℕ) → Fits limit before xs → (es : List Event) → Restarts limit es
      → assemble limit (map event frames ++ es) idle 0 ≡ given_all 0 before ++ assemble limit es idle 0

-- frames, seven bytes that are a part of a header, zeros
pub record Torn (n : ℕ) (before : List (List ℕ)) (xs tail log : List ℕ) : Type 0 where
  pub frames : List Frame
  pub seven : List ℕ
  pub k : ℕ
  pub stands : Laid 0 frames
  pub size : length seven ≡ 7
  pub some : all_zero seven ≡ true → ⊥
  pub untyped : get_or seven 6 0 ≡ 0
  pub is : log ≡ bytes_of frames ++ (zeros (padding (end_of 0 frames)) ++ (seven ++ (zeros k ++ tail)))
  pub total : end_of 0 frames + padding (end_of 0 frames) + 7 + k ≡ n * 32768
  pub puts : (limit : ℕ) → Fits limit before xs → (es : List Event) → Restarts limit es
      → assemble limit (map event frames ++ es) idle 0 ≡ given_all 0 before ++ assemble limit es idle 0

pub data State (n : ℕ) (before : List (List ℕ)) (xs tail log : List ℕ) (l : Left) : Type 0 where
  is_clean : Clean n before xs tail log l → State n before xs tail log l
  is_headed : Headed n before xs tail log → l ≡ headed → State n before xs tail log l
  is_torn : (t : Torn n before xs tail log) → l ≡ torn (end_of 0 t.frames + padding (end_of 0 t.frames)) → State n before xs tail log l

module _ (n limit c : ℕ) (before : List (List ℕ)) (xs tail : List ℕ) (h : Cutting n limit c before xs tail) where
  pub log_size : length (cut_log n before xs c ++ tail) ≡ n * 32768 + length tail
  unfolding cut_log place_all
  log_size =
      omega (
        arith,
        length-append (cut_log n before xs c) tail,
        length_cut c (laid n (before ++ (xs ∷ []))),
        length-append (laid n (before ++ (xs ∷ []))) tail,
        log_length n (before ++ (xs ∷ [])) tail (omega (arith, h.room, place-append 0 before (xs ∷ []))),
      )

  all_stored : Unbroken c (place_all 0 before) (frames_of (place_all 0 before) xs) → Clean n before xs tail (cut_log n before xs c ++ tail) complete
  unfolding given_at covered
  all_stored u = record {
    frames = frames_all 0 before ++ frames_of (place_all 0 before) xs;
    k = n * 32768 - place_after (place_all 0 before) xs;
    stands =
        laid-append 0 (frames_all 0 before) (frames_of (place_all 0 before) xs) (laid_all 0 before)
        (subst (λ (i : ℕ). Laid i (frames_of (place_all 0 before) xs)) (sym (end_all 0 before)) (owned (place_all 0 before) xs).stands);
    is =
        cut_log_lem n c before xs tail h.behind
        ∙ ap (λ (s : List ℕ). bytes_of (frames_all 0 before) ++ (s ++ rest)) u.bytes
        ∙ sym (append_assoc (bytes_of (frames_all 0 before)) (bytes_of (frames_of (place_all 0 before) xs)) rest)
        ∙ ap (λ (s : List ℕ). s ++ rest) (sym (bytes_append (frames_all 0 before) (frames_of (place_all 0 before) xs)));
    total =
        omega (
          arith,
          h.room,
          end_append 0 (frames_all 0 before) (frames_of (place_all 0 before) xs),
          ap (λ (i : ℕ). end_of i (frames_of (place_all 0 before) xs)) (end_all 0 before),
          (owned (place_all 0 before) xs).ends_at,
        );
    plain = λ rs. refl;
    puts = λ m g es on. puts_whole m before xs es g.0 g.1;
  }
    where
      rest : List ℕ
      rest = zeros (n * 32768 - place_after (place_all 0 before) xs) ++ tail

  -- the first frame that does not count as stored
  module _ (b : Broken c (place_all 0 before) (frames_of (place_all 0 before) xs)) where
    before_it : List Frame
    before_it = frames_all 0 before ++ b.pre

    e : ℕ
    e = end_of 0 before_it

    k : ℕ
    k = length (bytes_of b.post) + (n * 32768 - place_after (place_all 0 before) xs)

    e_is : e ≡ end_of (place_all 0 before) b.pre
    unfolding e before_it
    e_is = end_append 0 (frames_all 0 before) b.pre ∙ ap (λ (i : ℕ). end_of i b.pre) (end_all 0 before)

    laid_p : Laid (place_all 0 before) (b.pre ++ (b.at ∷ b.post))
    laid_p = subst (Laid (place_all 0 before)) b.split (owned (place_all 0 before) xs).stands

    laid_all_it : Laid 0 before_it
    unfolding before_it
    laid_all_it =
        laid-append 0 (frames_all 0 before) b.pre (laid_all 0 before)
        (subst (λ (i : ℕ). Laid i b.pre) (sym (end_all 0 before)) (laid-left (place_all 0 before) b.pre (b.at ∷ b.post) laid_p))

    behind_it : Laid e (b.at ∷ b.post)
    behind_it = subst (λ (i : ℕ). Laid i (b.at ∷ b.post)) (sym e_is) (laid_right (place_all 0 before) b.pre (b.at ∷ b.post) laid_p)

    stands_it : Stands e b.at
    stands_it = behind_it.0

    total_it : after e b.at + k ≡ n * 32768
    unfolding end_of k
    total_it =
        omega (
          arith,
          h.room,
          (owned (place_all 0 before) xs).ends_at,
          ap (end_of (place_all 0 before)) b.split,
          end_append (place_all 0 before) b.pre (b.at ∷ b.post),
          ap (λ (i : ℕ). end_of (after i b.at) b.post) e_is,
          length_bytes (after e b.at) b.post behind_it.1,
        )

    log_it : cut_log n before xs c ++ tail ≡ bytes_of before_it ++ (zeros (padding e) ++ (remains c b.at ++ (zeros k ++ tail)))
    unfolding before_it k
    log_it =
        cut_log_lem n c before xs tail h.behind
        ∙ ap (λ (s : List ℕ). bytes_of (frames_all 0 before) ++ (s ++ (zeros m ++ tail))) b.bytes
        ∙ ap (λ (s : List ℕ). bytes_of (frames_all 0 before) ++ s) (append_assoc (bytes_of b.pre) (zeros b.at.padding ++ (remains c b.at ++ zeros j)) (zeros m ++ tail))
        ∙ sym (append_assoc (bytes_of (frames_all 0 before)) (bytes_of b.pre) ((zeros b.at.padding ++ (remains c b.at ++ zeros j)) ++ (zeros m ++ tail)))
        ∙ ap₂ (λ (u v : List ℕ). u ++ v) (sym (bytes_append (frames_all 0 before) b.pre))
        (append_assoc (zeros b.at.padding) (remains c b.at ++ zeros j) (zeros m ++ tail)
        ∙ ap₂ (λ (i : ℕ) (v : List ℕ). zeros i ++ v) stands_it.pads
        (append_assoc (remains c b.at) (zeros j) (zeros m ++ tail)
        ∙ ap (λ (v : List ℕ). remains c b.at ++ v)
        (sym (append_assoc (zeros j) (zeros m) tail) ∙ ap (λ (v : List ℕ). v ++ tail) (replicate-append-replicate j m 0))))
      where
        j : ℕ
        j = length (bytes_of b.post)

        m : ℕ
        m = n * 32768 - place_after (place_all 0 before) xs

    puts_it : (m : ℕ) → Fits m before xs → (es : List Event) → Restarts m es
        → assemble m (map event before_it ++ es) idle 0 ≡ given_all 0 before ++ assemble m es idle 0
    unfolding before_it
    puts_it m g es on = puts_broken m before xs es g.0 g.1 b.pre b.at b.post b.split on

    whole_header : b.at.start + 7 ≤ c → Headed n before xs tail (cut_log n before xs c ++ tail)
    unfolding e
    whole_header g = record {
      frames = before_it;
      at = b.at;
      sum = sum_bytes c b.at;
      datas = cut_data c b.at;
      k = k;
      stands = laid_all_it;
      four = length-le_bytes 4 (crc32 (type_number b.at.kind ∷ b.at.content));
      fits = omega (arith, stands_it.fits, size);
      told = λ q. b.unfit h.unfit b.not_stored g (q ∙ le-sum (type_number b.at.kind ∷ b.at.content));
      is = log_it ∙ ap (λ (s : List ℕ). bytes_of before_it ++ (zeros (padding e) ++ s)) (headed_bytes c b.at (zeros k ++ tail) g);
      total = omega (arith, total_it, size);
      puts = puts_it;
    }
      where
        size : length (cut_data c b.at) ≡ length b.at.content
        size = length_cut (c - (b.at.start + 7)) b.at.content

    no_bytes : all_zero (take (c - b.at.start) (frame_bytes b.at.kind b.at.content)) ≡ true → Clean n before xs tail (cut_log n before xs c ++ tail) nothing
    unfolding e given_at covered
    no_bytes z = record {
      frames = before_it;
      k = padding e + (7 + length b.at.content + k);
      stands = laid_all_it;
      is =
          log_it
          ∙ ap (λ (s : List ℕ). bytes_of before_it ++ (zeros (padding e) ++ (s ++ (zeros k ++ tail)))) (nothing_bytes c b.at z)
          ∙ ap (λ (s : List ℕ). bytes_of before_it ++ s)
          (ap (λ (s : List ℕ). zeros (padding e) ++ s) (joined (7 + length b.at.content) k) ∙ joined (padding e) (7 + length b.at.content + k));
      total = omega (arith, total_it);
      plain = λ rs. refl;
      puts = puts_it;
    }
      where
        joined : (i j : ℕ) → zeros i ++ (zeros j ++ tail) ≡ zeros (i + j) ++ tail
        joined i j = sym (append_assoc (zeros i) (zeros j) tail) ∙ ap (λ (s : List ℕ). s ++ tail) (replicate-append-replicate i j 0)

    part_header : c < b.at.start + 7 → all_zero (take (c - b.at.start) (frame_bytes b.at.kind b.at.content)) ≡ false
        → Torn n before xs tail (cut_log n before xs c ++ tail)
    unfolding e
    part_header g z = record {
      frames = before_it;
      seven = part c b.at;
      k = length b.at.content + k;
      stands = laid_all_it;
      size = part_length c b.at;
      some = part_some c b.at g z;
      untyped = part_type c b.at g;
      is =
          log_it
          ∙ ap (λ (s : List ℕ). bytes_of before_it ++ (zeros (padding e) ++ s))
          (ap (λ (s : List ℕ). s ++ (zeros k ++ tail)) (torn_bytes c b.at g)
          ∙ append_assoc (part c b.at) (zeros (length b.at.content)) (zeros k ++ tail)
          ∙ ap (λ (s : List ℕ). part c b.at ++ s)
          (sym (append_assoc (zeros (length b.at.content)) (zeros k) tail) ∙ ap (λ (s : List ℕ). s ++ tail) (replicate-append-replicate (length b.at.content) k 0)));
      total = omega (arith, total_it);
      puts = puts_it;
    }

    broken_state : (x y : Bool) → leb (b.at.start + 7) c ≡ x → all_zero (take (c - b.at.start) (frame_bytes b.at.kind b.at.content)) ≡ y
        → State n before xs tail (cut_log n before xs c ++ tail) (left_when x y b.at.start)
    unfolding left_when part_header e
    broken_state true y ex ey = is_headed (whole_header (leb-true (b.at.start + 7) c ex)) refl
    broken_state false true ex ey = is_clean (no_bytes ey)
    broken_state false false ex ey = is_torn (part_header (leb-false (b.at.start + 7) c ex) ey) (ap torn stands_it.starts)

  pub state : State n before xs tail (cut_log n before xs c ++ tail) (left c (frames_of (place_all 0 before) xs))
  state = go (split_frames c (place_all 0 before) (frames_of (place_all 0 before) xs) (owned (place_all 0 before) xs).stands)
    where
      go : Split c (place_all 0 before) (frames_of (place_all 0 before) xs) → State n before xs tail (cut_log n before xs c ++ tail) (left c (frames_of (place_all 0 before) xs))
      go (unbroken u) = subst (State n before xs tail (cut_log n before xs c ++ tail)) (sym u.here) (is_clean (all_stored u))
      go (broken b) =
          subst (State n before xs tail (cut_log n before xs c ++ tail)) (sym b.here)
          (broken_state b (leb (b.at.start + 7) c) (all_zero (take (c - b.at.start) (frame_bytes b.at.kind b.at.content))) refl refl)
