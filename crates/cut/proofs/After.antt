-- Records written after reopening a cut log are read back.
-- Assumes nothing.
use mathlib.Core.Path.{◌≡◌, refl, sym, ap, ap₂, subst, ◌∙◌}
use mathlib.Core.Logic.{◌⊎◌, inl, inr}
use mathlib.Core.Bool.{Bool, true, false, cond}
use mathlib.Core.List.{List, [], ◌∷◌, ◌++◌, map, append_assoc}
use Prim.Native.Nat.{ℕ, suc, ◌+◌, ◌*◌, ◌-◌, ◌/◌, ◌≤◌, ◌<◌}
use native.Mathlib.Omega.{arith}
use lib.Dec.{eqb}
use lib.ListN.{length, drop, length-append, length-replicate, replicate-append-replicate}
use lib.Seq.{take_at, drop_at, drop-drop, drop-append-add}
use Rattle.slices.specs.Bytes.{zeros}
use Rattle.slices.specs.Put.{put}
use Rattle.fields.specs.Le.{le_bytes}
use Rattle.fields.proofs.Le.{length-le_bytes}
use Rattle.frame.specs.Frame.{type_number}
use Rattle.frame.specs.Block.{padding, blocks}
use Rattle.frame.specs.Reader.{fresh}
use Rattle.frame.proofs.Headers.{header}
use Rattle.recordlog.specs.Write.{frames_of, bytes_of, record_bytes, place_after}
use Rattle.recordlog.specs.Laid.{place_all, records_bytes}
use Rattle.recordlog.specs.Claims.{read_all, Each}
use Rattle.recordlog.specs.Read.{Answer, whole, end_of_log, resume}
use Rattle.recordlog.proofs.Sited.{Sited, ended, unsited, sited_from, sited_forgets}
use Rattle.recordlog.proofs.SitedRecords.{given_all}
use Rattle.recordlog.proofs.Frames.{end_of, length_bytes, frames_all, length_record, length-written}
use Rattle.recordlog.proofs.Needed.{needs}
use Rattle.cut.specs.Cut.{Left, headed, nothing, torn, left, covered}
use Rattle.cut.specs.Claims.{cut_log, given, write_all, given_after, Cutting, CutWritten}
use Rattle.cut.proofs.See.{beyond}
use Rattle.cut.proofs.State.{given_at, Fits, Clean, Headed, Torn, State, is_clean, is_headed, is_torn, state}
use Rattle.cut.proofs.Reading.{unsited_at, unsited_parts, ends_at, clean_gives, headed_gives, torn_on_gives, clean_read, headed_read, torn_read, torn_place, beyond_inside, beyond_fits, cut_blocks}
use Rattle.cut.proofs.Writing.{Written, written, write_all_lem, given_same}

-- a run put over one that is no longer
put_covers : (front u y r : List ℕ) (h : ℕ) → length front ≡ h → length u ≤ length r → put (front ++ (u ++ y)) h r ≡ front ++ (r ++ drop (length r - length u) y)
unfolding put
put_covers front u y r h l g =
    let e : length r ≡ length u + (length r - length u) = omega arith in
    ap₂ (λ (a b : List ℕ). a ++ (r ++ b)) (take_at front (u ++ y) h l)
    (sym (drop-drop (length r) h (front ++ (u ++ y))) ∙ ap (drop (length r)) (drop_at front (u ++ y) h l)
    ∙ ap (λ (i : ℕ). drop i (u ++ y)) e ∙ drop-append-add u y (length r - length u))

-- `given_after` with the place of the first header of the record that was cut; it was written at p
unfoldable pub given_at_after : ℕ → Left → ℕ → List ℕ → List (List ℕ) → List Sited
given_at_after n l p xs rs = cond (covered n l rs) [] (given_at l p xs)

-- a record needs a header
longer : (q : ℕ) (ys : List ℕ) (rs : List (List ℕ)) → 7 ≤ length (records_bytes q (ys ∷ rs))
unfolding records_bytes place_after
longer q ys rs = omega (arith, length-append (record_bytes q ys) (records_bytes (place_after q ys) rs), length_record q ys, needs q (length ys))

module _ (n limit : ℕ) (before : List (List ℕ)) (xs tail log : List ℕ) (fit : Fits limit before xs) (hn : 0 < n) (ht : length tail < 32768)
    (rs : List (List ℕ)) (hr : Each (λ ys. length ys ≤ limit) rs) (q : ℕ) (room : place_all q rs ≤ n * 32768) where
  clean_after : {l : Left} (s : Clean n before xs tail log l) → (q ≡ end_of 0 s.frames) ⊎ (q ≡ end_of 0 s.frames + padding (end_of 0 s.frames))
      → sited_from (write_all log q rs) limit fresh ≡ given_all 0 before ++ (given_at l (place_all 0 before) xs ++ (given_all q rs ++ (ended ∷ [])))
  clean_after {l} s g =
      (clean_gives limit s fit hn rs hr (write_all log q rs) (e + s.k - place_all e rs) (omega (arith, w.size, s.total)) w.is (omega (arith, w.inside, s.total))).sites
      ∙ ap (λ (x : List Sited). given_all 0 before ++ (given_at l (place_all 0 before) xs ++ (x ++ (ended ∷ [])))) (sym (given_same e q rs g))
    where
      e : ℕ
      e = end_of 0 s.frames

      w : Written (bytes_of s.frames) e s.k tail rs (write_all log q rs)
      w =
          subst (λ (t : List ℕ). Written (bytes_of s.frames) e s.k tail rs (write_all t q rs)) (sym s.is)
          (written (bytes_of s.frames) tail e s.k (omega (arith, length_bytes 0 s.frames s.stands)) rs q g (omega (arith, s.total)))

  headed_after : (s : Headed n before xs tail log) → (q ≡ ends_at s) ⊎ (q ≡ ends_at s + padding (ends_at s))
      → sited_from (write_all log q rs) limit fresh ≡ given_all 0 before ++ (given_at headed (place_all 0 before) xs ++ (given_all q rs ++ (ended ∷ [])))
  headed_after s g =
      (headed_gives limit s fit hn rs hr (write_all log q rs) (e + s.k - place_all e rs) (omega (arith, w.size, s.total)) (w.is ∙ sym (with_rest (bytes_of (frames_all e rs) ++ (zeros (e + s.k - place_all e rs) ++ tail))))
      (omega (arith, w.inside, s.total))).sites
      ∙ ap (λ (x : List Sited). given_all 0 before ++ (given_at headed (place_all 0 before) xs ++ (x ++ (ended ∷ [])))) (sym (given_same e q rs g))
    where
      e : ℕ
      e = ends_at s

      d : ℕ
      d = padding (end_of 0 s.frames)

      t : ℕ
      t = type_number s.at.kind

      front : List ℕ
      front = bytes_of s.frames ++ (zeros d ++ header s.sum (length s.datas) t s.datas)

      with_rest : (y : List ℕ) → bytes_of s.frames ++ (zeros d ++ header s.sum (length s.datas) t (s.datas ++ y)) ≡ front ++ y
      with_rest y =
          sym
          (append_assoc (bytes_of s.frames) (zeros d ++ header s.sum (length s.datas) t s.datas) y
          ∙ ap (λ (a : List ℕ). bytes_of s.frames ++ a)
          (append_assoc (zeros d) (header s.sum (length s.datas) t s.datas) y
          ∙ ap (λ (a : List ℕ). zeros d ++ a)
          (append_assoc s.sum (le_bytes 2 (length s.datas) ++ (t ∷ s.datas)) y
          ∙ ap (λ (a : List ℕ). s.sum ++ a) (append_assoc (le_bytes 2 (length s.datas)) (t ∷ s.datas) y))))

      front_length : length front ≡ e
      front_length =
          omega (
            arith,
            length-append (bytes_of s.frames) (zeros d ++ header s.sum (length s.datas) t s.datas),
            length-append (zeros d) (header s.sum (length s.datas) t s.datas),
            length-append s.sum (le_bytes 2 (length s.datas) ++ (t ∷ s.datas)),
            length-append (le_bytes 2 (length s.datas)) (t ∷ s.datas),
            length-le_bytes 2 (length s.datas),
            length-replicate {A = ℕ} d 0,
            length_bytes 0 s.frames s.stands,
            s.four,
          )

      w : Written front e s.k tail rs (write_all log q rs)
      w =
          subst (λ (l : List ℕ). Written front e s.k tail rs (write_all l q rs)) (sym (s.is ∙ with_rest (zeros s.k ++ tail)))
          (written front tail e s.k front_length rs q g (omega (arith, s.total)))

  -- after the block of a header that has no type
  torn_after : (s : Torn n before xs tail log) → q ≡ beyond (end_of 0 s.frames) → blocks log ≡ n → (i : ℕ)
      → sited_from (write_all log q rs) limit fresh ≡ given_all 0 before ++ (given_at (torn i) (place_all 0 before) xs ++ (given_all q rs ++ (ended ∷ [])))
  torn_after s g size i =
      (torn_on_gives limit s fit hn (write_all log q rs) (b + j - place_all b rs) (omega (arith, w.size, beyond_inside limit fit hn size s)) (zeros m ++ new) (w.is ∙ regroup) rs hr
      (ap (drop b) w.is ∙ drop_at front new b front_length) (omega (arith, w.inside, beyond_inside limit fit hn size s)) i).sites
      ∙ ap (λ (p : ℕ). given_all 0 before ++ (given_at (torn i) (place_all 0 before) xs ++ (given_all p rs ++ (ended ∷ [])))) (sym g)
    where
      e : ℕ
      e = end_of 0 s.frames

      b : ℕ
      b = beyond e

      d : ℕ
      d = padding e

      m : ℕ
      m = b - (e + d + 7)

      j : ℕ
      j = n * 32768 - b

      front : List ℕ
      front = bytes_of s.frames ++ (zeros d ++ (s.seven ++ zeros m))

      new : List ℕ
      new = bytes_of (frames_all b rs) ++ (zeros (b + j - place_all b rs) ++ tail)

      group : (y : List ℕ) → front ++ y ≡ bytes_of s.frames ++ (zeros d ++ (s.seven ++ (zeros m ++ y)))
      group y =
          append_assoc (bytes_of s.frames) (zeros d ++ (s.seven ++ zeros m)) y
          ∙ ap (λ (a : List ℕ). bytes_of s.frames ++ a)
          (append_assoc (zeros d) (s.seven ++ zeros m) y ∙ ap (λ (a : List ℕ). zeros d ++ a) (append_assoc s.seven (zeros m) y))

      regroup : front ++ new ≡ bytes_of s.frames ++ (zeros d ++ (s.seven ++ (zeros m ++ new)))
      regroup = group new

      front_length : length front ≡ b
      front_length =
          omega (
            arith,
            length-append (bytes_of s.frames) (zeros d ++ (s.seven ++ zeros m)),
            length-append (zeros d) (s.seven ++ zeros m),
            length-append s.seven (zeros m),
            length-replicate {A = ℕ} d 0,
            length-replicate {A = ℕ} m 0,
            length_bytes 0 s.frames s.stands,
            s.size,
            beyond_fits limit fit hn size s,
          )

      k_is : m + j ≡ s.k
      k_is = omega (arith, s.total, beyond_fits limit fit hn size s, beyond_inside limit fit hn size s)

      log_is : log ≡ front ++ (zeros j ++ tail)
      log_is =
          s.is
          ∙ ap (λ (a : List ℕ). bytes_of s.frames ++ (zeros d ++ (s.seven ++ a)))
          (ap (λ (a : List ℕ). a ++ tail) (ap zeros (sym k_is) ∙ sym (replicate-append-replicate m j 0)) ∙ append_assoc (zeros m) (zeros j) tail)
          ∙ sym (group (zeros j ++ tail))

      w : Written front b j tail rs (write_all log q rs)
      w =
          subst (λ (l : List ℕ). Written front b j tail rs (write_all l q rs)) (sym log_is)
          (written front tail b j front_length rs q (inl g) (omega (arith, beyond_inside limit fit hn size s)))

-- over it, in the last block
covered-after : (n limit : ℕ) (before : List (List ℕ)) (xs tail log : List ℕ) → Fits limit before xs → 0 < n → length tail < 32768
    → (ys : List ℕ) (rs : List (List ℕ)) → Each (λ zs. length zs ≤ limit) (ys ∷ rs) → (q : ℕ) → place_all q (ys ∷ rs) ≤ n * 32768
    → (s : Torn n before xs tail log) → q ≡ end_of 0 s.frames + padding (end_of 0 s.frames) → blocks log ≡ n
    → sited_from (write_all log q (ys ∷ rs)) limit fresh ≡ given_all 0 before ++ (given_all q (ys ∷ rs) ++ (ended ∷ []))
unfolding given_at covered
covered-after n limit before xs tail log fit hn ht ys rs hr q room s g size =
    ap (λ (t : List ℕ). sited_from t limit fresh) same
    ∙ clean_after n limit before xs tail plain_log fit hn ht (ys ∷ rs) hr q room plainly (inr g)
  where
    e : ℕ
    e = end_of 0 s.frames

    d : ℕ
    d = padding e

    k : ℕ
    k = d + (7 + s.k)

    plain_log : List ℕ
    plain_log = bytes_of s.frames ++ (zeros k ++ tail)

    plainly : Clean n before xs tail plain_log nothing
    plainly = record {
      frames = s.frames;
      k = k;
      stands = s.stands;
      is = refl;
      total = omega (arith, s.total);
      plain = λ _. refl;
      puts = s.puts;
    }

    front : List ℕ
    front = bytes_of s.frames ++ zeros d

    front_length : length front ≡ q
    front_length = omega (arith, length-append (bytes_of s.frames) (zeros d), length-replicate {A = ℕ} d 0, length_bytes 0 s.frames s.stands)

    r : List ℕ
    r = records_bytes q (ys ∷ rs)

    log_is : log ≡ front ++ (s.seven ++ (zeros s.k ++ tail))
    log_is = s.is ∙ sym (append_assoc (bytes_of s.frames) (zeros d) (s.seven ++ (zeros s.k ++ tail)))

    plain_is : plain_log ≡ front ++ (zeros 7 ++ (zeros s.k ++ tail))
    plain_is =
        ap (λ (a : List ℕ). bytes_of s.frames ++ a)
        (ap (λ (a : List ℕ). a ++ tail) (sym (replicate-append-replicate d (7 + s.k) 0) ∙ ap (λ (a : List ℕ). zeros d ++ a) (sym (replicate-append-replicate 7 s.k 0)))
        ∙ append_assoc (zeros d) (zeros 7 ++ zeros s.k) tail ∙ ap (λ (a : List ℕ). zeros d ++ a) (append_assoc (zeros 7) (zeros s.k) tail))
        ∙ sym (append_assoc (bytes_of s.frames) (zeros d) (zeros 7 ++ (zeros s.k ++ tail)))

    plain_length : length plain_log ≡ n * 32768 + length tail
    plain_length =
        omega (
          arith,
          length-append (bytes_of s.frames) (zeros k ++ tail),
          length-append (zeros k) tail,
          length-replicate {A = ℕ} k 0,
          length_bytes 0 s.frames s.stands,
          s.total,
        )

    long : length log ≡ length plain_log
    long =
        omega (
          arith,
          ap length log_is,
          ap length plain_is,
          length-append front (s.seven ++ (zeros s.k ++ tail)),
          length-append front (zeros 7 ++ (zeros s.k ++ tail)),
          length-append s.seven (zeros s.k ++ tail),
          length-append (zeros 7) (zeros s.k ++ tail),
          s.size,
        )

    same : write_all log q (ys ∷ rs) ≡ write_all plain_log q (ys ∷ rs)
    same =
        write_all_lem (ys ∷ rs) log q (omega (arith, long, plain_length, length-written q (ys ∷ rs))) (omega (arith, long, plain_length))
        ∙ ap (λ (t : List ℕ). put t q r) log_is
        ∙ put_covers front s.seven (zeros s.k ++ tail) r q front_length (omega (arith, s.size, longer q ys rs))
        ∙ ap (λ (i : ℕ). front ++ (r ++ drop (length r - i) (zeros s.k ++ tail))) s.size
        ∙ sym (put_covers front (zeros 7) (zeros s.k ++ tail) r q front_length (longer q ys rs))
        ∙ ap (λ (t : List ℕ). put t q r) (sym plain_is)
        ∙ sym (write_all_lem (ys ∷ rs) plain_log q (omega (arith, plain_length, length-written q (ys ∷ rs))) (omega (arith, plain_length)))

-- ---- in each case, from where the writer resumes

-- what is to be shown: `limit` is that of the reading after which the writer resumes, `again` that of the reading after the writing
abbrev ReadBack : ℕ → ℕ → ℕ → List (List ℕ) → List ℕ → List ℕ → List (List ℕ) → Left → Type 0
ReadBack n limit again before xs log rs l =
    sited_from (write_all log (resume log limit) rs) again fresh
    ≡ given_all 0 before ++ (given_at_after n l (place_all 0 before) xs rs ++ (given_all (resume log limit) rs ++ (ended ∷ [])))

module _ (n limit again : ℕ) (before : List (List ℕ)) (xs tail log : List ℕ) (fit : Fits limit before xs) (fits : Fits again before xs)
    (hn : 0 < n) (ht : length tail < 32768) (size : blocks log ≡ n)
    (rs : List (List ℕ)) (hr : Each (λ ys. length ys ≤ again) rs) (room : place_all (resume log limit) rs ≤ n * 32768) where
  -- it is what is given, but where that is covered
  uncovered : (l : Left) → covered n l rs ≡ false
      → sited_from (write_all log (resume log limit) rs) again fresh
      ≡ given_all 0 before ++ (given_at l (place_all 0 before) xs ++ (given_all (resume log limit) rs ++ (ended ∷ [])))
      → ReadBack n limit again before xs log rs l
  unfolding given_at_after
  uncovered l e g =
      g ∙ ap (λ (b : Bool). given_all 0 before ++ (cond b [] (given_at l (place_all 0 before) xs) ++ (given_all (resume log limit) rs ++ (ended ∷ [])))) (sym e)

  after_clean : {l : Left} → Clean n before xs tail log l → ReadBack n limit again before xs log rs l
  unfolding resume
  after_clean {l} s =
      uncovered l (s.plain rs)
      (clean_after n again before xs tail log fits hn ht rs hr (resume log limit) room s (clean_read limit fit hn size s).left)

  after_headed : Headed n before xs tail log → ReadBack n limit again before xs log rs headed
  unfolding resume covered
  after_headed s =
      uncovered headed refl
      (headed_after n again before xs tail log fits hn ht rs hr (resume log limit) room s (headed_read limit fit hn size s).left)

torn_resume : (n limit : ℕ) (before : List (List ℕ)) (xs tail log : List ℕ) (fit : Fits limit before xs) (hn : 0 < n) (size : blocks log ≡ n) (s : Torn n before xs tail log)
    → resume log limit ≡ torn_place limit fit hn size s
unfolding resume
torn_resume n limit before xs tail log fit hn size s =
    (torn_read limit fit hn size s (end_of 0 s.frames + padding (end_of 0 s.frames))).left

module _ (n limit again : ℕ) (before : List (List ℕ)) (xs tail log : List ℕ) (fit : Fits limit before xs) (fits : Fits again before xs)
    (hn : 0 < n) (ht : length tail < 32768) (size : blocks log ≡ n) (s : Torn n before xs tail log) where
  -- where the header stands
  abbrev at : ℕ
  at = end_of 0 s.frames + padding (end_of 0 s.frames)

  resumes_at : (b : Bool) → eqb (suc (at / 32768)) n ≡ b → resume log limit ≡ cond b at (beyond (end_of 0 s.frames))
  unfolding torn_place
  resumes_at b e = torn_resume n limit before xs tail log fit hn size s ∙ ap (λ (x : Bool). cond x at (beyond (end_of 0 s.frames))) e

  after_torn : (rs : List (List ℕ)) → Each (λ ys. length ys ≤ again) rs → place_all (resume log limit) rs ≤ n * 32768 → ReadBack n limit again before xs log rs (torn at)
  unfolding write_all given_at_after covered given_all
  after_torn [] hr room = (torn_read again fits hn size s at).sites
  after_torn (ys ∷ rs) hr room = go (eqb (suc (at / 32768)) n) refl
    where
      go : (b : Bool) → eqb (suc (at / 32768)) n ≡ b
          → sited_from (write_all log (resume log limit) (ys ∷ rs)) again fresh
          ≡ given_all 0 before ++ (cond b [] (given_at (torn at) (place_all 0 before) xs) ++ (given_all (resume log limit) (ys ∷ rs) ++ (ended ∷ [])))
      go true e = covered-after n again before xs tail log fits hn ht ys rs hr (resume log limit) room s (resumes_at true e) size
      go false e = torn_after n again before xs tail log fits hn ht (ys ∷ rs) hr (resume log limit) room s (resumes_at false e) size at

after_state : (n limit again : ℕ) (before : List (List ℕ)) (xs tail log : List ℕ) → Fits limit before xs → Fits again before xs → 0 < n → length tail < 32768 → blocks log ≡ n
    → (l : Left) → State n before xs tail log l
    → (rs : List (List ℕ)) → Each (λ ys. length ys ≤ again) rs → place_all (resume log limit) rs ≤ n * 32768 → ReadBack n limit again before xs log rs l
after_state n limit again before xs tail log fit fits hn ht size l (is_clean s) rs hr room = after_clean n limit again before xs tail log fit fits hn ht size rs hr room s
after_state n limit again before xs tail log fit fits hn ht size l (is_headed s e) rs hr room =
    subst (ReadBack n limit again before xs log rs) (sym e) (after_headed n limit again before xs tail log fit fits hn ht size rs hr room s)
after_state n limit again before xs tail log fit fits hn ht size l (is_torn s e) rs hr room =
    subst (ReadBack n limit again before xs log rs) (sym e) (after_torn n limit again before xs tail log fit fits hn ht size s rs hr room)

-- with the places of the first headers
pub sited_written : (n limit again c : ℕ) (before : List (List ℕ)) (xs tail : List ℕ) (after : List (List ℕ)) → Cutting n limit c before xs tail
    → place_all (resume (cut_log n before xs c ++ tail) limit) after ≤ n * 32768
    → Each (λ ys. length ys ≤ again) before → length xs ≤ again → Each (λ ys. length ys ≤ again) after
    → ReadBack n limit again before xs (cut_log n before xs c ++ tail) after (left c (frames_of (place_all 0 before) xs))
sited_written n limit again c before xs tail after h room hb hx hr =
    after_state n limit again before xs tail (cut_log n before xs c ++ tail) (h.limits, h.limit_next) (hb, hx) h.some_blocks h.short_tail (cut_blocks n limit c before xs tail h)
    (left c (frames_of (place_all 0 before) xs)) (state n limit c before xs tail h) after hr room

unsited_after : (n : ℕ) (l : Left) (p : ℕ) (xs : List ℕ) (rs : List (List ℕ)) → map unsited (given_at_after n l p xs rs) ≡ given_after n l xs rs
unfolding given_at_after given_after
unsited_after n l p xs rs = go (covered n l rs)
  where
    go : (b : Bool) → map unsited (cond b [] (given_at l p xs)) ≡ cond b [] (given l xs)
    go true = refl
    go false = unsited_at l p xs

pub cut_written : CutWritten
unfolding read_all
cut_written n limit again c before xs tail after h room hb hx hr =
    let log = cut_log n before xs c ++ tail in
    let l = left c (frames_of (place_all 0 before) xs) in
    sym (sited_forgets (write_all log (resume log limit) after) again fresh)
    ∙ ap (map unsited) (sited_written n limit again c before xs tail after h room hb hx hr)
    ∙ unsited_parts before (given_at_after n l (place_all 0 before) xs after) (resume log limit) after
    ∙ ap (λ (a : List Answer). map whole before ++ (a ++ (map whole after ++ (end_of_log ∷ [])))) (unsited_after n l (place_all 0 before) xs after)
