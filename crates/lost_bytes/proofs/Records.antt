-- What frames of written records cost: lists alone, no log. A whole record costs nothing, one that is broken off its frames, frames without a beginning theirs.
-- Assumes nothing.
use mathlib.Core.Path.{◌≡◌, refl, sym, ap, subst, ◌∙◌}
use mathlib.Core.Logic.{◌⊎◌, inl, inr}
use mathlib.Core.Bool.{Bool, true, false, cond, ◌||◌}
use mathlib.Core.List.{List, [], ◌∷◌, ◌++◌, map, append_assoc, append-nil}
use Prim.Native.Nat.{ℕ, ◌+◌, ◌≤◌, ◌<◌}
use native.Mathlib.Omega.{arith}
use lib.ListN.{length, length-append}
use borrow.Author.Tests.{le-leb}
use Rattle.frame.specs.Frame.{begins, ends}
use Rattle.frame.specs.declared.FrameType.{FrameType}
use Rattle.frame.specs.declared.Corruption.{Corruption}
use Rattle.recordlog.specs.declared.Tally.{Tally}
use Rattle.recordlog.specs.Write.{Frame, frames_of, place_after}
use Rattle.recordlog.specs.Read.{Begun, idle, within, gather_when, gather}
use Rattle.recordlog.specs.Lost.{tally, no_tally, take_up}
use Rattle.recordlog.specs.Hit.{struck, any_struck}
use Rattle.recordlog.specs.Claims.{Each}
use Rattle.recordlog.proofs.Frames.{Laid, Kinds, contents_of, owned, frames_all}
use Rattle.recordlog.proofs.Strike.{keep, keep_append, keep_id, first_struck}
use Rattle.recordlog.proofs.Assemble.{begins_kind, ends_kind, kinds_head, Continuing, continuing_behind, continuing_keep}
use Rattle.record.specs.Record.{Decoded}
use Rattle.calls.specs.Lost.{undecoded, lost_of}
use Rattle.lost_bytes.specs.Costs.{unstruck_bytes, others_of}
use Rattle.lost_bytes.specs.Claims.{Decodes}
use Rattle.lost_bytes.proofs.Events.{Sized, good, corrupted, weighed_sum, joined_sum, sum_of}

-- a frame, and its bytes
abbrev pub sz : Frame → Sized
sz f = good f.kind f.content (7 + length f.content) f.start

pub sized_append : (fs gs : List Frame) → map sz (fs ++ gs) ≡ map sz fs ++ map sz gs
sized_append [] gs = refl
sized_append (f ∷ fs) gs = ap (◌∷◌ (sz f)) (sized_append fs gs)

unfoldable pub frame_sum : List Frame → ℕ
frame_sum [] = 0
frame_sum (f ∷ fs) = 7 + length f.content + frame_sum fs

-- ---- one frame

module _ (limit : ℕ) (k : FrameType) (xs : List ℕ) (z l : ℕ) (go : Begun → Tally → ℕ) where
  passes : (q : ℕ) → begins k ≡ false → joined_sum lost_of limit k (gather idle k xs) (take_up (begins k) idle z 0 (tally l 0 q)) go ≡ go idle (tally (l + z) 0 q)
  unfolding joined_sum gather gather_when take_up
  passes q e = ap (λ (b : Bool). joined_sum lost_of limit k (gather_when b idle xs) (take_up b idle z 0 (tally l 0 q)) go) e

  opens : (q : ℕ) → begins k ≡ true → length xs ≤ limit
      → joined_sum lost_of limit k (gather idle k xs) (take_up (begins k) idle z 0 (tally l 0 q)) go ≡ weighed_sum lost_of true (ends k) xs (tally (l + 0) z 0) go
  unfolding joined_sum gather gather_when take_up
  opens q e h =
      ap (λ (b : Bool). joined_sum lost_of limit k (gather_when b idle xs) (take_up b idle z 0 (tally l 0 q)) go) e
      ∙ ap (λ (b : Bool). weighed_sum lost_of b (ends k) xs (tally (l + 0) z 0) go) (le-leb (length xs) limit h)

  goes_on_lem : (ys : List ℕ) (o q : ℕ) → begins k ≡ false → length ys + length xs ≤ limit
      → joined_sum lost_of limit k (gather (within ys) k xs) (take_up (begins k) (within ys) z 0 (tally l o q)) go ≡ weighed_sum lost_of true (ends k) (ys ++ xs) (tally l (o + z) q) go
  unfolding joined_sum gather gather_when take_up
  goes_on_lem ys o q e h =
      ap (λ (b : Bool). joined_sum lost_of limit k (gather_when b (within ys) xs) (take_up b (within ys) z 0 (tally l o q)) go) e
      ∙ ap (λ (b : Bool). weighed_sum lost_of b (ends k) (ys ++ xs) (tally l (o + z) q) go) (le-leb (length (ys ++ xs)) limit (omega (arith, length-append ys xs)))

-- a record handed out
given : (ys : List ℕ) (l o q : ℕ) (go : Begun → Tally → ℕ) → Decodes ys → weighed_sum lost_of true true ys (tally l o q) go ≡ l + go idle no_tally
unfolding weighed_sum lost_of undecoded
given ys l o q go d =
    let z : l + 0 + go idle no_tally ≡ l + go idle no_tally = omega arith in
    ap (λ (x : Decoded). l + undecoded x o + go idle no_tally) d.1 ∙ z

-- ---- one record

rest_record : (limit : ℕ) (es : List Sized) (fs : List Frame) (ys : List ℕ) (l o q : ℕ) → Kinds false fs → length ys + length (contents_of fs) ≤ limit
    → Decodes (ys ++ contents_of fs) → sum_of lost_of limit (map sz fs ++ es) (within ys) (tally l o q) ≡ l + sum_of lost_of limit es idle no_tally
unfolding sum_of weighed_sum contents_of
rest_record limit es [] ys l o q k h d = absurd k
rest_record limit es (f ∷ []) ys l o q k h d =
    let z : ℕ = 7 + length f.content in
    goes_on_lem limit f.kind f.content z l (sum_of lost_of limit es) ys o q (ap begins k ∙ begins_kind false true) (omega (arith, length-append f.content []))
    ∙ ap (λ (b : Bool). weighed_sum lost_of true b (ys ++ f.content) (tally l (o + z) q) (sum_of lost_of limit es)) (ap ends k ∙ ends_kind false true)
    ∙ given (ys ++ f.content) l (o + z) q (sum_of lost_of limit es) (subst (λ (xs : List ℕ). Decodes (ys ++ xs)) (append-nil f.content) d)
rest_record limit es (f ∷ g ∷ fs) ys l o q k h d =
    let z : ℕ = 7 + length f.content in
    goes_on_lem limit f.kind f.content z l (sum_of lost_of limit (map sz (g ∷ fs) ++ es)) ys o q (ap begins k.0 ∙ begins_kind false false)
    (omega (arith, length-append f.content (contents_of (g ∷ fs))))
    ∙ ap (λ (b : Bool). weighed_sum lost_of true b (ys ++ f.content) (tally l (o + z) q) (sum_of lost_of limit (map sz (g ∷ fs) ++ es))) (ap ends k.0 ∙ ends_kind false false)
    ∙ rest_record limit es (g ∷ fs) (ys ++ f.content) l (o + z) q k.1
    (omega (arith, length-append f.content (contents_of (g ∷ fs)), length-append ys f.content))
    (subst Decodes (sym (append_assoc ys f.content (contents_of (g ∷ fs)))) d)

-- a whole record: what was lost before it in the same read, and no more
pub whole_record : (limit : ℕ) (es : List Sized) (fs : List Frame) (l q : ℕ) → Kinds true fs → length (contents_of fs) ≤ limit → Decodes (contents_of fs)
    → sum_of lost_of limit (map sz fs ++ es) idle (tally l 0 q) ≡ l + sum_of lost_of limit es idle no_tally
unfolding sum_of weighed_sum contents_of
whole_record limit es [] l q k h d = absurd k
whole_record limit es (f ∷ []) l q k h d =
    let z : ℕ = 7 + length f.content in
    let n : l + 0 + sum_of lost_of limit es idle no_tally ≡ l + sum_of lost_of limit es idle no_tally = omega arith in
    opens limit f.kind f.content z l (sum_of lost_of limit es) q (ap begins k ∙ begins_kind true true) (omega (arith, length-append f.content []))
    ∙ ap (λ (b : Bool). weighed_sum lost_of true b f.content (tally (l + 0) z 0) (sum_of lost_of limit es)) (ap ends k ∙ ends_kind true true)
    ∙ given f.content (l + 0) z 0 (sum_of lost_of limit es) (subst Decodes (append-nil f.content) d)
    ∙ n
whole_record limit es (f ∷ g ∷ fs) l q k h d =
    let z : ℕ = 7 + length f.content in
    let n : l + 0 + sum_of lost_of limit es idle no_tally ≡ l + sum_of lost_of limit es idle no_tally = omega arith in
    opens limit f.kind f.content z l (sum_of lost_of limit (map sz (g ∷ fs) ++ es)) q (ap begins k.0 ∙ begins_kind true false)
    (omega (arith, length-append f.content (contents_of (g ∷ fs))))
    ∙ ap (λ (b : Bool). weighed_sum lost_of true b f.content (tally (l + 0) z 0) (sum_of lost_of limit (map sz (g ∷ fs) ++ es))) (ap ends k.0 ∙ ends_kind true false)
    ∙ rest_record limit es (g ∷ fs) f.content (l + 0) z 0 k.1 (omega (arith, length-append f.content (contents_of (g ∷ fs)))) d
    ∙ n

-- ---- a record broken off by a corruption of n bytes

module _ (limit : ℕ) (c : Corruption) (n : ℕ) (es : List Sized) (f : Frame) (post : List Frame) where
  abbrev rest : ℕ
  rest = sum_of lost_of limit es idle no_tally

  broken_rest : (pre : List Frame) (ys : List ℕ) (l o q : ℕ) → Kinds false (pre ++ (f ∷ post)) → length ys + length (contents_of (pre ++ (f ∷ post))) ≤ limit
      → sum_of lost_of limit (map sz pre ++ (corrupted c n ∷ es)) (within ys) (tally l o q) ≡ l + o + frame_sum pre + n + rest
  unfolding sum_of weighed_sum contents_of lost_of frame_sum
  broken_rest [] ys l o q k h = omega arith
  broken_rest (g ∷ pre) ys l o q k h =
      let kh = kinds_head false g pre f post k in
      let z : ℕ = 7 + length g.content in
      goes_on_lem limit g.kind g.content z l (sum_of lost_of limit (map sz pre ++ (corrupted c n ∷ es))) ys o q (ap begins kh.0 ∙ begins_kind false false)
      (omega (arith, length-append g.content (contents_of (pre ++ (f ∷ post)))))
      ∙ ap (λ (b : Bool). weighed_sum lost_of true b (ys ++ g.content) (tally l (o + z) q) (sum_of lost_of limit (map sz pre ++ (corrupted c n ∷ es)))) (ap ends kh.0 ∙ ends_kind false false)
      ∙ broken_rest pre (ys ++ g.content) l (o + z) q kh.1
      (omega (arith, length-append g.content (contents_of (pre ++ (f ∷ post))), length-append ys g.content))
      ∙ omega arith

  pub broken : (pre : List Frame) → Kinds true (pre ++ (f ∷ post)) → length (contents_of (pre ++ (f ∷ post))) ≤ limit
      → sum_of lost_of limit (map sz pre ++ (corrupted c n ∷ es)) idle no_tally ≡ frame_sum pre + n + rest
  unfolding sum_of weighed_sum contents_of lost_of frame_sum
  broken [] k h = omega arith
  broken (g ∷ pre) k h =
      let kh = kinds_head true g pre f post k in
      let z : ℕ = 7 + length g.content in
      opens limit g.kind g.content z 0 (sum_of lost_of limit (map sz pre ++ (corrupted c n ∷ es))) 0 (ap begins kh.0 ∙ begins_kind true false)
      (omega (arith, length-append g.content (contents_of (pre ++ (f ∷ post)))))
      ∙ ap (λ (b : Bool). weighed_sum lost_of true b g.content (tally 0 z 0) (sum_of lost_of limit (map sz pre ++ (corrupted c n ∷ es)))) (ap ends kh.0 ∙ ends_kind true false)
      ∙ broken_rest pre g.content 0 z 0 kh.1 (omega (arith, length-append g.content (contents_of (pre ++ (f ∷ post)))))
      ∙ omega arith

-- ---- frames that begin nothing

pub skip : (limit : ℕ) (es : List Sized) (fs : List Frame) (l q : ℕ) → Continuing fs
    → sum_of lost_of limit (map sz fs ++ es) idle (tally l 0 q) ≡ sum_of lost_of limit es idle (tally (l + frame_sum fs) 0 q)
unfolding sum_of frame_sum
skip limit es [] l q k = let z : l ≡ l + 0 = omega arith in ap (λ (i : ℕ). sum_of lost_of limit es idle (tally i 0 q)) z
skip limit es (f ∷ fs) l q k =
    let z : l + (7 + length f.content) + frame_sum fs ≡ l + (7 + length f.content + frame_sum fs) = omega arith in
    passes limit f.kind f.content (7 + length f.content) l (sum_of lost_of limit (map sz fs ++ es)) q k.0
    ∙ skip limit es fs (l + (7 + length f.content)) q k.1
    ∙ ap (λ (i : ℕ). sum_of lost_of limit es idle (tally i 0 q)) z

-- ---- records one after the other

pub records : (limit : ℕ) (es : List Sized) (p : ℕ) (rs : List (List ℕ)) → Each (λ xs. length xs ≤ limit) rs → Each Decodes rs
    → sum_of lost_of limit (map sz (frames_all p rs) ++ es) idle no_tally ≡ sum_of lost_of limit es idle no_tally
unfolding frames_all
records limit es p [] h d = refl
records limit es p (xs ∷ rs) h d =
    let rest : ℕ = sum_of lost_of limit (map sz (frames_all (place_after p xs) rs) ++ es) idle no_tally in
    let z : 0 + rest ≡ rest = omega arith in
    ap (λ (s : List Sized). sum_of lost_of limit s idle no_tally)
    (ap (λ (s : List Sized). s ++ es) (sized_append (frames_of p xs) (frames_all (place_after p xs) rs))
    ∙ append_assoc (map sz (frames_of p xs)) (map sz (frames_all (place_after p xs) rs)) es)
    ∙ whole_record limit (map sz (frames_all (place_after p xs) rs) ++ es) (frames_of p xs) 0 0 (owned p xs).kinds (omega (arith, h.0, ap length (owned p xs).contents))
    (subst Decodes (sym (owned p xs).contents) d.0)
    ∙ z
    ∙ records limit es (place_after p xs) rs h.1 d.1

-- ---- records after the hit frame

module _ (lost : Bool) (h : Frame) where
  -- the frames kept have the bytes of those that are not struck
  pub kept_bytes_lem : (fs : List Frame) → frame_sum (keep lost h fs) ≡ unstruck_bytes lost h fs
  unfolding frame_sum keep unstruck_bytes
  kept_bytes_lem [] = refl
  kept_bytes_lem (f ∷ fs) = go (struck lost h f) (kept_bytes_lem fs)
    where
      go : (b : Bool) → frame_sum (keep lost h fs) ≡ unstruck_bytes lost h fs
          → frame_sum (cond b (keep lost h fs) (f ∷ keep lost h fs)) ≡ cond b 0 (7 + length f.content) + unstruck_bytes lost h fs
      go true e = omega (arith, e)
      go false e = ap (λ (n : ℕ). 7 + length f.content + n) e

  -- a record of which no frame is struck, and one of which the first is
  none_struck : (fs : List Frame) → any_struck lost h fs ≡ false → others_of lost h fs ≡ 0
  unfolding others_of
  none_struck fs z = ap (λ (b : Bool). cond b (unstruck_bytes lost h fs) 0) z

  drops_first : (f : Frame) (fs : List Frame) → struck lost h f ≡ true → keep lost h (f ∷ fs) ≡ keep lost h fs
  unfolding keep
  drops_first f fs z = ap (λ (b : Bool). cond b (keep lost h fs) (f ∷ keep lost h fs)) z

  others_first : (f : Frame) (fs : List Frame) → struck lost h f ≡ true → others_of lost h (f ∷ fs) ≡ frame_sum (keep lost h fs)
  unfolding others_of any_struck unstruck_bytes
  others_first f fs z =
      let n : 0 + unstruck_bytes lost h fs ≡ unstruck_bytes lost h fs = omega arith in
      ap (λ (b : Bool). cond (b || any_struck lost h fs) (cond b 0 (7 + length f.content) + unstruck_bytes lost h fs) 0) z ∙ n ∙ sym (kept_bytes_lem fs)

  -- the other frames of the owners among records that lie from p on
  unfoldable pub others_all : ℕ → List (List ℕ) → ℕ
  others_all p [] = 0
  others_all p (xs ∷ rs) = others_of lost h (frames_of p xs) + others_all (place_after p xs) rs

  module _ (limit : ℕ) where
    one-spared : (fs : List Frame) (p : ℕ) (es : List Sized) (l q : ℕ) → Kinds true fs → Laid p fs → h.start < p → length (contents_of fs) ≤ limit → Decodes (contents_of fs)
        → (n : ℕ) → ((i j : ℕ) → sum_of lost_of limit es idle (tally i 0 j) ≡ i + n)
        → sum_of lost_of limit (map sz (keep lost h fs) ++ es) idle (tally l 0 q) ≡ l + (others_of lost h fs + n)
    one-spared [] p es l q k a s m d n on = absurd k
    one-spared (f ∷ fs) p es l q k a s m d n on = go (first_struck lost h p f fs a s)
      where
        go : (any_struck lost h (f ∷ fs) ≡ false) ⊎ (struck lost h f ≡ true)
            → sum_of lost_of limit (map sz (keep lost h (f ∷ fs)) ++ es) idle (tally l 0 q) ≡ l + (others_of lost h (f ∷ fs) + n)
        go (inl z) =
            ap (λ (gs : List Frame). sum_of lost_of limit (map sz gs ++ es) idle (tally l 0 q)) (keep_id lost h (f ∷ fs) z)
            ∙ whole_record limit es (f ∷ fs) l q k m d
            ∙ omega (arith, none_struck (f ∷ fs) z, on 0 0)
        go (inr z) =
            ap (λ (gs : List Frame). sum_of lost_of limit (map sz gs ++ es) idle (tally l 0 q)) (drops_first f fs z)
            ∙ skip limit es (keep lost h fs) l q (continuing_keep lost h fs (continuing_behind true f fs [] k))
            ∙ on (l + frame_sum (keep lost h fs)) q
            ∙ omega (arith, others_first f fs z)

    pub spared_records : (p : ℕ) (rs : List (List ℕ)) (l q : ℕ) → h.start < p → Each (λ xs. length xs ≤ limit) rs → Each Decodes rs
        → sum_of lost_of limit (map sz (keep lost h (frames_all p rs))) idle (tally l 0 q) ≡ l + others_all p rs
    unfolding frames_all keep sum_of lost_of others_all place_after
    spared_records p [] l q s m d = omega arith
    spared_records p (xs ∷ rs) l q s m d =
        ap (λ (gs : List Frame). sum_of lost_of limit (map sz gs) idle (tally l 0 q)) (keep_append lost h (frames_of p xs) (frames_all (place_after p xs) rs))
        ∙ ap (λ (r : List Sized). sum_of lost_of limit r idle (tally l 0 q)) (sized_append (keep lost h (frames_of p xs)) (keep lost h (frames_all (place_after p xs) rs)))
        ∙ one-spared (frames_of p xs) p (map sz (keep lost h (frames_all (place_after p xs) rs))) l q (owned p xs).kinds (owned p xs).stands s
        (omega (arith, m.0, ap length (owned p xs).contents)) (subst Decodes (sym (owned p xs).contents) d.0)
        (others_all (place_after p xs) rs) (λ i j. spared_records (place_after p xs) rs i j (omega arith) m.1 d.1)
