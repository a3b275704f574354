-- Reading a cut log, with or without records written after the cut.
-- Assumes nothing.
use mathlib.Core.Path.{◌≡◌, refl, sym, ap, ap₂, subst, ◌∙◌}
use mathlib.Core.Bool.{true, cond}
use mathlib.Core.List.{List, [], ◌∷◌, ◌++◌, map}
use Prim.Native.Nat.{ℕ, suc, ◌+◌, ◌*◌, ◌-◌, ◌/◌, ◌≤◌, ◌<◌}
use native.Mathlib.Omega.{arith}
use lib.Dec.{eqb}
use lib.ListN.{length, drop}
use lib.Seq.{drop-drop, drop_at}
use Rattle.slices.specs.Bytes.{zeros}
use Rattle.frame.specs.Frame.{type_number}
use Rattle.frame.specs.Block.{padding, blocks}
use Rattle.frame.specs.declared.Corruption.TheVariants.{WrongChecksum as wrong_checksum, UnknownType as unknown_type}
use Rattle.frame.specs.declared.Reader.{Reader}
use Rattle.frame.specs.Reader.{fresh, place, read_frame}
use Rattle.frame.proofs.Headers.{header}
use Rattle.frame.proofs.Step.{start_fits, drop-zeros}
use Rattle.recordlog.specs.Write.{Frame, frames_of, place_after, bytes_of}
use Rattle.recordlog.specs.Laid.{place_all}
use Rattle.recordlog.specs.Claims.{read_all, Each}
use Rattle.recordlog.specs.Read.{Answer, whole, end_of_log, idle, reads_from}
use Rattle.recordlog.proofs.Sees.{Event, corrupted, Sees, Any, finished, reads_from_sees, fresh-arranged}
use Rattle.recordlog.proofs.Sited.{Sited, lost, ended, unsited, sited_from, sited_forgets, assemble, sited_sees}
use Rattle.recordlog.proofs.SitedRecords.{given_all}
use Rattle.recordlog.proofs.Frames.{end_of, end_ge, frames_all, laid_all, end_all}
use Rattle.recordlog.proofs.Seen.{event, behind-padding, sees_frames, sees_rest, rest_there}
use Rattle.recordlog.proofs.Back.{fresh_at, Near, near}
use Rattle.cut.specs.Cut.{Left, complete, headed, nothing, torn, left}
use Rattle.cut.specs.Claims.{cut_log, given, cut_answers, Cutting, CutRead}
use Rattle.cut.proofs.See.{beyond, spoilt_at, behind_headed, sees_headed, sees_torn, sees_torn_on, torn_left}
use Rattle.cut.proofs.Dropped.{restarts_bad, restarts_records, puts-records}
use Rattle.cut.proofs.State.{given_at, Fits, Clean, Headed, Torn, State, is_clean, is_headed, is_torn, log_size, state}

-- ---- without the places

unsited-append : (xs ys : List Sited) → map unsited (xs ++ ys) ≡ map unsited xs ++ map unsited ys
unsited-append [] ys = refl
unsited-append (x ∷ xs) ys = ap (λ (s : List Answer). unsited x ∷ s) (unsited-append xs ys)

unsited_all : (p : ℕ) (rs : List (List ℕ)) → map unsited (given_all p rs) ≡ map whole rs
unfolding given_all unsited
unsited_all p [] = refl
unsited_all p (xs ∷ rs) = ap (λ (s : List Answer). whole xs ∷ s) (unsited_all (place_after p xs) rs)

pub unsited_at : (l : Left) (p : ℕ) (xs : List ℕ) → map unsited (given_at l p xs) ≡ given l xs
unfolding given_at given unsited
unsited_at complete p xs = refl
unsited_at headed p xs = refl
unsited_at nothing p xs = refl
unsited_at (torn s) p xs = refl

-- records, then some answers, records again
pub unsited_parts : (before : List (List ℕ)) (s : List Sited) (q : ℕ) (rs : List (List ℕ))
    → map unsited (given_all 0 before ++ (s ++ (given_all q rs ++ (ended ∷ [])))) ≡ map whole before ++ (map unsited s ++ (map whole rs ++ (end_of_log ∷ [])))
unfolding unsited
unsited_parts before s q rs =
    unsited-append (given_all 0 before) (s ++ (given_all q rs ++ (ended ∷ [])))
    ∙ ap₂ (λ (a b : List Answer). a ++ b) (unsited_all 0 before)
    (unsited-append s (given_all q rs ++ (ended ∷ []))
    ∙ ap (λ (a : List Answer). map unsited s ++ a)
    (unsited-append (given_all q rs) (ended ∷ []) ∙ ap (λ (a : List Answer). a ++ (end_of_log ∷ [])) (unsited_all q rs)))

pub unsited_given : (before : List (List ℕ)) (l : Left) (xs : List ℕ) (q : ℕ) (rs : List (List ℕ))
    → map unsited (given_all 0 before ++ (given_at l (place_all 0 before) xs ++ (given_all q rs ++ (ended ∷ []))))
    ≡ map whole before ++ (given l xs ++ (map whole rs ++ (end_of_log ∷ [])))
unsited_given before l xs q rs =
    unsited_parts before (given_at l (place_all 0 before) xs) q rs
    ∙ ap (λ (a : List Answer). map whole before ++ (a ++ (map whole rs ++ (end_of_log ∷ [])))) (unsited_at l (place_all 0 before) xs)

-- ---- the answers come to the end of the log

finished_records : (rs : List (List ℕ)) (s : List Answer) → finished (map whole rs ++ s) ≡ finished s
unfolding finished
finished_records [] s = refl
finished_records (xs ∷ rs) s = finished_records rs s

finished_given : (l : Left) (xs : List ℕ) (s : List Answer) → finished (given l xs ++ s) ≡ finished s
unfolding finished given
finished_given complete xs s = refl
finished_given headed xs s = refl
finished_given nothing xs s = refl
finished_given (torn i) xs s = refl

finished_all : (before : List (List ℕ)) (l : Left) (xs : List ℕ) (q : ℕ) (rs : List (List ℕ))
    → finished (map unsited (given_all 0 before ++ (given_at l (place_all 0 before) xs ++ (given_all q rs ++ (ended ∷ []))))) ≡ true
unfolding finished
finished_all before l xs q rs =
    ap finished (unsited_given before l xs q rs)
    ∙ finished_records before (given l xs ++ (map whole rs ++ (end_of_log ∷ [])))
    ∙ finished_given l xs (map whole rs ++ (end_of_log ∷ [])) ∙ finished_records rs (end_of_log ∷ [])

-- the reads from the fresh reader on give the records before, what is left of the record xs, and the records rs, which were written from q on; at the end of the log
-- they leave a reader of which Z holds
pub record GivesAt (Z : Reader → Type 0) (log : List ℕ) (limit : ℕ) (before : List (List ℕ)) (l : Left) (xs : List ℕ) (q : ℕ) (rs : List (List ℕ)) : Type 0 where
  pub sites : sited_from log limit fresh ≡ given_all 0 before ++ (given_at l (place_all 0 before) xs ++ (given_all q rs ++ (ended ∷ [])))
  pub left : Z (reads_from log limit fresh).reader

gives_at : {Z : Reader → Type 0} (log : List ℕ) (limit : ℕ) (before : List (List ℕ)) (l : Left) (xs : List ℕ) (q : ℕ) (rs : List (List ℕ)) {es : List Event} → 0 < blocks log
    → Sees log Z fresh es → assemble limit es idle 0 ≡ given_all 0 before ++ (given_at l (place_all 0 before) xs ++ (given_all q rs ++ (ended ∷ [])))
    → GivesAt Z log limit before l xs q rs
gives_at log limit before l xs q rs h s e =
    let g = reads_from_sees log limit h s in
    record {
      sites = there;
      left = g.left (ap finished (sym g.answers ∙ sym (sited_forgets log limit fresh) ∙ ap (map unsited) there) ∙ finished_all before l xs q rs);
    }
  where
    there : sited_from log limit fresh ≡ given_all 0 before ++ (given_at l (place_all 0 before) xs ++ (given_all q rs ++ (ended ∷ [])))
    there = sited_sees log limit (fresh-arranged log h) s ∙ e

-- ---- frames, zeros

module _ {n : ℕ} (limit : ℕ) {before : List (List ℕ)} {xs tail log₀ : List ℕ} {l : Left} (s : Clean n before xs tail log₀ l) (fit : Fits limit before xs) (hn : 0 < n)
    (rs : List (List ℕ)) (hr : Each (λ ys. length ys ≤ limit) rs) (log : List ℕ) (k : ℕ) (size : blocks log ≡ n)
    (is : log ≡ bytes_of s.frames ++ (bytes_of (frames_all (end_of 0 s.frames) rs) ++ (zeros k ++ tail)))
    (total : place_all (end_of 0 s.frames) rs + k ≡ n * 32768) where
  clean_sees : Sees log (Near (place_all (end_of 0 s.frames) rs)) fresh (map event s.frames ++ map event (frames_all (end_of 0 s.frames) rs))
  clean_sees =
      sees_frames log s.frames 0 fresh (bytes_of gs ++ (zeros k ++ tail)) (map event gs) (fresh_at log (omega arith)) s.stands is
      (omega (arith, end_ge e gs, end_all e rs))
      (λ r a. sees_rest log gs e r k tail a (laid_all e rs) there (omega (arith, end_all e rs))
      (λ r' a'. subst (λ (i : ℕ). Near i (read_frame log r').reader) (end_all e rs)
      (near log (end_of e gs) k tail r' a' (rest_there log gs e (zeros k ++ tail) (laid_all e rs) there) (omega (arith, end_all e rs)))))
    where
      e : ℕ
      e = end_of 0 s.frames

      gs : List Frame
      gs = frames_all e rs

      there : drop e log ≡ bytes_of gs ++ (zeros k ++ tail)
      there = rest_there log s.frames 0 (bytes_of gs ++ (zeros k ++ tail)) s.stands is

  pub clean_gives : GivesAt (Near (place_all (end_of 0 s.frames) rs)) log limit before l xs (end_of 0 s.frames) rs
  clean_gives =
      gives_at log limit before l xs (end_of 0 s.frames) rs (omega arith) clean_sees
      (s.puts limit fit (map event (frames_all (end_of 0 s.frames) rs)) (restarts_records limit (end_of 0 s.frames) rs)
      ∙ ap (λ (x : List Sited). given_all 0 before ++ (given_at l (place_all 0 before) xs ++ x)) (puts-records limit (end_of 0 s.frames) rs hr))

-- ---- frames, a whole header with other data, zeros

-- where the data end
abbrev pub ends_at : {n : ℕ} {before : List (List ℕ)} {xs tail log₀ : List ℕ} → Headed n before xs tail log₀ → ℕ
ends_at s = end_of 0 s.frames + padding (end_of 0 s.frames) + 7 + length s.datas

module _ {n : ℕ} (limit : ℕ) {before : List (List ℕ)} {xs tail log₀ : List ℕ} (s : Headed n before xs tail log₀) (fit : Fits limit before xs) (hn : 0 < n)
    (rs : List (List ℕ)) (hr : Each (λ ys. length ys ≤ limit) rs) (log : List ℕ) (k : ℕ) (size : blocks log ≡ n)
    (is : log ≡ bytes_of s.frames ++ (zeros (padding (end_of 0 s.frames))
    ++ header s.sum (length s.datas) (type_number s.at.kind) (s.datas ++ (bytes_of (frames_all (ends_at s) rs) ++ (zeros k ++ tail)))))
    (total : place_all (ends_at s) rs + k ≡ n * 32768) where
  headed_sees : Sees log (Near (place_all (ends_at s) rs)) fresh (map event s.frames ++ (corrupted wrong_checksum ∷ map event (frames_all (ends_at s) rs)))
  headed_sees =
      sees_frames log s.frames 0 fresh (zeros (padding e) ++ y) (corrupted wrong_checksum ∷ map event gs) (fresh_at log (omega arith)) s.stands is (omega arith)
      (λ r a. sees_headed log e r a s.at.kind s.sum s.datas s.four s.fits (omega arith) s.told gs k tail here (laid_all q rs) ends
      (λ r' a'. subst (λ (i : ℕ). Near i (read_frame log r').reader) (end_all q rs)
      (near log (end_of q gs) k tail r' a'
      (rest_there log gs q (zeros k ++ tail) (laid_all q rs)
      (behind_headed log e r a s.at.kind s.sum s.datas s.four s.fits (omega arith) s.told (bytes_of gs ++ (zeros k ++ tail)) here)) ends)))
    where
      e : ℕ
      e = end_of 0 s.frames

      q : ℕ
      q = ends_at s

      gs : List Frame
      gs = frames_all q rs

      y : List ℕ
      y = header s.sum (length s.datas) (type_number s.at.kind) (s.datas ++ (bytes_of gs ++ (zeros k ++ tail)))

      here : drop (e + padding e) log ≡ y
      here = behind-padding log y e (padding e) refl (rest_there log s.frames 0 (zeros (padding e) ++ y) s.stands is)

      ends : end_of q gs + k ≡ blocks log * 32768
      ends = omega (arith, end_all q rs)

      far : q ≤ blocks log * 32768
      far = omega (arith, ends, end_ge q gs)

  pub headed_gives : GivesAt (Near (place_all (ends_at s) rs)) log limit before headed xs (ends_at s) rs
  unfolding given_at
  headed_gives =
      gives_at log limit before headed xs (ends_at s) rs (omega arith) headed_sees
      (s.puts limit fit (corrupted wrong_checksum ∷ map event (frames_all (ends_at s) rs)) (restarts_bad limit wrong_checksum (map event (frames_all (ends_at s) rs)))
      ∙ ap (λ (x : List Sited). given_all 0 before ++ x) (unfold assemble in ap (λ (x : List Sited). lost wrong_checksum ∷ x) (puts-records limit (ends_at s) rs hr)))

-- ---- frames, a part of a header, zeros

module _ {n : ℕ} (limit : ℕ) {before : List (List ℕ)} {xs tail log₀ : List ℕ} (s : Torn n before xs tail log₀) (fit : Fits limit before xs) (hn : 0 < n) (log : List ℕ) (k : ℕ) (size : blocks log ≡ n)
    (rest : List ℕ) (is : log ≡ bytes_of s.frames ++ (zeros (padding (end_of 0 s.frames)) ++ (s.seven ++ rest))) where
  torn_there : drop (end_of 0 s.frames + padding (end_of 0 s.frames)) log ≡ s.seven ++ rest
  torn_there =
      behind-padding log (s.seven ++ rest) (end_of 0 s.frames) (padding (end_of 0 s.frames)) refl
      (rest_there log s.frames 0 (zeros (padding (end_of 0 s.frames)) ++ (s.seven ++ rest)) s.stands is)

  -- no records after it
  torn_sees : drop (beyond (end_of 0 s.frames)) log ≡ zeros k ++ tail → beyond (end_of 0 s.frames) + k ≡ n * 32768
      → Sees log (λ r. place r ≡ place (read_frame log (spoilt_at (end_of 0 s.frames))).reader) fresh (map event s.frames ++ (corrupted unknown_type ∷ []))
  torn_sees d w =
      sees_frames log s.frames 0 fresh (zeros (padding e) ++ (s.seven ++ rest)) (corrupted unknown_type ∷ []) (fresh_at log (omega arith)) s.stands is
      (omega (arith, s.total))
      (λ r a. sees_torn log e r a s.seven rest s.size (omega (arith, s.total)) torn_there s.some s.untyped k tail d (omega arith) refl)
    where
      e : ℕ
      e = end_of 0 s.frames

  pub torn_gives : drop (beyond (end_of 0 s.frames)) log ≡ zeros k ++ tail → beyond (end_of 0 s.frames) + k ≡ n * 32768 → (i : ℕ)
      → GivesAt (λ r. place r ≡ place (read_frame log (spoilt_at (end_of 0 s.frames))).reader) log limit before (torn i) xs (beyond (end_of 0 s.frames)) []
  unfolding given_at given_all
  torn_gives d w i =
      gives_at log limit before (torn i) xs (beyond (end_of 0 s.frames)) [] (omega arith) (torn_sees d w)
      (s.puts limit fit (corrupted unknown_type ∷ []) (restarts_bad limit unknown_type []) ∙ (unfold assemble in refl))

  -- records after its block
  torn_on_sees : (rs : List (List ℕ)) → drop (beyond (end_of 0 s.frames)) log ≡ bytes_of (frames_all (beyond (end_of 0 s.frames)) rs) ++ (zeros k ++ tail)
      → place_all (beyond (end_of 0 s.frames)) rs + k ≡ n * 32768
      → Sees log Any fresh (map event s.frames ++ (corrupted unknown_type ∷ map event (frames_all (beyond (end_of 0 s.frames)) rs)))
  torn_on_sees rs d w =
      sees_frames log s.frames 0 fresh (zeros (padding e) ++ (s.seven ++ rest)) (corrupted unknown_type ∷ map event (frames_all (beyond e) rs)) (fresh_at log (omega arith)) s.stands is
      (omega (arith, s.total))
      (λ r a. sees_torn_on log e r a s.seven rest s.size (omega (arith, s.total)) torn_there s.some s.untyped (frames_all (beyond e) rs) k tail (laid_all (beyond e) rs) d
      (omega (arith, end_all (beyond e) rs)))
    where
      e : ℕ
      e = end_of 0 s.frames

  pub torn_on_gives : (rs : List (List ℕ)) → Each (λ ys. length ys ≤ limit) rs
      → drop (beyond (end_of 0 s.frames)) log ≡ bytes_of (frames_all (beyond (end_of 0 s.frames)) rs) ++ (zeros k ++ tail)
      → place_all (beyond (end_of 0 s.frames)) rs + k ≡ n * 32768 → (i : ℕ)
      → GivesAt Any log limit before (torn i) xs (beyond (end_of 0 s.frames)) rs
  unfolding given_at
  torn_on_gives rs hr d w i =
      gives_at log limit before (torn i) xs b rs (omega arith) (torn_on_sees rs d w)
      (s.puts limit fit (corrupted unknown_type ∷ map event (frames_all b rs)) (restarts_bad limit unknown_type (map event (frames_all b rs)))
      ∙ ap (λ (x : List Sited). given_all 0 before ++ x) (unfold assemble in ap (λ (x : List Sited). lost unknown_type ∷ x) (puts-records limit b rs hr)))
    where
      b : ℕ
      b = beyond (end_of 0 s.frames)

-- ---- the cut log itself

module _ {n : ℕ} (limit : ℕ) {before : List (List ℕ)} {xs tail log : List ℕ} (fit : Fits limit before xs) (hn : 0 < n) (size : blocks log ≡ n) where
  pub clean_read : {l : Left} (s : Clean n before xs tail log l)
      → GivesAt (Near (end_of 0 s.frames)) log limit before l xs (end_of 0 s.frames) []
  unfolding frames_all bytes_of place_all
  clean_read s = clean_gives limit s fit hn [] tt log s.k size s.is s.total

  pub headed_read : (s : Headed n before xs tail log)
      → GivesAt (Near (ends_at s)) log limit before headed xs (ends_at s) []
  unfolding frames_all bytes_of place_all
  headed_read s = headed_gives limit s fit hn [] tt log s.k size s.is s.total

  module _ (s : Torn n before xs tail log) where
    pub beyond_fits : end_of 0 s.frames + padding (end_of 0 s.frames) + 7 ≤ beyond (end_of 0 s.frames)
    beyond_fits = omega (arith, start_fits (end_of 0 s.frames))

    pub beyond_inside : beyond (end_of 0 s.frames) ≤ n * 32768
    beyond_inside = omega (arith, s.total)

    pub behind_seven : drop (end_of 0 s.frames + padding (end_of 0 s.frames) + 7) log ≡ zeros s.k ++ tail
    behind_seven =
        sym (drop-drop 7 (end_of 0 s.frames + padding (end_of 0 s.frames)) log)
        ∙ ap (drop 7) (torn_there limit s fit hn log s.k size (zeros s.k ++ tail) s.is)
        ∙ drop_at s.seven (zeros s.k ++ tail) 7 s.size

    pub torn_beyond : drop (beyond (end_of 0 s.frames)) log ≡ zeros (n * 32768 - beyond (end_of 0 s.frames)) ++ tail
    torn_beyond =
        ap (λ (i : ℕ). drop i log) i ∙ sym (drop-drop m (h + 7) log) ∙ ap (drop m) behind_seven
        ∙ drop-zeros m s.k (n * 32768 - b) tail (omega (arith, s.total, beyond_inside, beyond_fits))
      where
        h : ℕ
        h = end_of 0 s.frames + padding (end_of 0 s.frames)

        b : ℕ
        b = beyond (end_of 0 s.frames)

        m : ℕ
        m = b - (h + 7)

        i : b ≡ h + 7 + m
        i = omega (arith, beyond_fits)

    -- the place where the writer resumes: the header itself in the last block, else the next block's start
    unfoldable pub torn_place : ℕ
    torn_place = cond (eqb (suc ((end_of 0 s.frames + padding (end_of 0 s.frames)) / 32768)) n) (end_of 0 s.frames + padding (end_of 0 s.frames)) (beyond (end_of 0 s.frames))

    pub torn_read : (i : ℕ) → GivesAt (λ r. place r ≡ torn_place) log limit before (torn i) xs (beyond (end_of 0 s.frames)) []
    unfolding torn_place
    torn_read i =
        let g = torn_gives limit s fit hn log (n * 32768 - b) size (zeros s.k ++ tail) s.is torn_beyond (omega (arith, beyond_inside)) i in
        record {
          sites = g.sites;
          left =
              g.left ∙ torn_left log (end_of 0 s.frames) (n * 32768 - b) tail torn_beyond (omega (arith, beyond_inside))
              ∙ ap (λ (m : ℕ). cond (eqb (suc ((end_of 0 s.frames + padding (end_of 0 s.frames)) / 32768)) m) (end_of 0 s.frames + padding (end_of 0 s.frames)) b) size;
        }
      where
        b : ℕ
        b = beyond (end_of 0 s.frames)

pub cut_blocks : (n limit c : ℕ) (before : List (List ℕ)) (xs tail : List ℕ) → Cutting n limit c before xs tail → blocks (cut_log n before xs c ++ tail) ≡ n
cut_blocks n limit c before xs tail h = omega (arith, log_size n limit c before xs tail h, h.short_tail)

-- the answers, in each case
sites_lem : (n limit c : ℕ) (before : List (List ℕ)) (xs tail : List ℕ) → Cutting n limit c before xs tail → (l : Left)
    → State n before xs tail (cut_log n before xs c ++ tail) l
    → sited_from (cut_log n before xs c ++ tail) limit fresh ≡ given_all 0 before ++ (given_at l (place_all 0 before) xs ++ (ended ∷ []))
unfolding given_all
sites_lem n limit c before xs tail h l (is_clean s) = (clean_read limit (h.limits, h.limit_next) h.some_blocks (cut_blocks n limit c before xs tail h) s).sites
sites_lem n limit c before xs tail h l (is_headed s e) =
    (headed_read limit (h.limits, h.limit_next) h.some_blocks (cut_blocks n limit c before xs tail h) s).sites
    ∙ ap (λ (m : Left). given_all 0 before ++ (given_at m (place_all 0 before) xs ++ (ended ∷ []))) (sym e)
sites_lem n limit c before xs tail h l (is_torn s e) =
    (torn_read limit (h.limits, h.limit_next) h.some_blocks (cut_blocks n limit c before xs tail h) s (end_of 0 s.frames + padding (end_of 0 s.frames))).sites
    ∙ ap (λ (m : Left). given_all 0 before ++ (given_at m (place_all 0 before) xs ++ (ended ∷ []))) (sym e)

-- with the places of the first headers
pub cut_sited : (n limit c : ℕ) (before : List (List ℕ)) (xs tail : List ℕ) → Cutting n limit c before xs tail
    → sited_from (cut_log n before xs c ++ tail) limit fresh
    ≡ given_all 0 before ++ (given_at (left c (frames_of (place_all 0 before) xs)) (place_all 0 before) xs ++ (ended ∷ []))
cut_sited n limit c before xs tail h = sites_lem n limit c before xs tail h (left c (frames_of (place_all 0 before) xs)) (state n limit c before xs tail h)

pub cut_read : CutRead
unfolding read_all cut_answers given_all
cut_read n limit c before xs tail h =
    sym (sited_forgets (cut_log n before xs c ++ tail) limit fresh)
    ∙ ap (map unsited) (cut_sited n limit c before xs tail h)
    ∙ unsited_given before (left c (frames_of (place_all 0 before) xs)) xs 0 []
