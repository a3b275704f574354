-- What a reader sees from a place on where a cut frame stands, and where it is left.
-- Assumes nothing.
use mathlib.Core.Path.{◌≡◌, refl, sym, ap, ap₂, subst, ◌∙◌}
use mathlib.Core.Logic.{◌⊎◌, inl, inr}
use mathlib.Core.Bool.{Bool, true, false, cond}
use mathlib.Core.List.{List, [], ◌∷◌, ◌++◌, map}
use Prim.Native.Nat.{ℕ, suc, ◌+◌, ◌*◌, ◌/◌, ◌%◌, ◌≤◌, ◌<◌}
use native.Mathlib.Omega.{arith}
use lib.Dec.{leb, eqb}
use lib.ListN.{length, take, drop, get_or, get_or-append}
use lib.Seq.{drop-drop, take_at}
use borrow.Author.Tests.{ne_eqb, eq-eqb}
use Rattle.slices.specs.Bytes.{zeros}
use Rattle.fields.specs.Le.{le}
use Rattle.crc32.specs.Crc.{crc32}
use Rattle.frame.specs.Frame.{type_number, type_of, type_when, header_of, content_of, all_zero}
use Rattle.frame.specs.Block.{padding, blocks}
use Rattle.frame.specs.declared.Reader.{Reader}
use Rattle.frame.specs.declared.FrameType.{FrameType}
use Rattle.frame.specs.declared.FrameRead.{FrameRead}
use Rattle.std.specs.Prelude.{Option, None as unknown}
use Rattle.frame.specs.Reader.{corrupt}
use Rattle.frame.specs.declared.Corruption.TheVariants.{WrongChecksum as wrong_checksum, UnknownType as unknown_type}
use Rattle.frame.specs.Reader.{place, judge, look, read_frame}
use Rattle.frame.proofs.Tests.{le_or_lt}
use Rattle.frame.proofs.Headers.{header, header_rest, type_low, type_back, zero_type}
use Rattle.frame.proofs.Step.{padding_none, At, Arrives, at_arrives, spoilt_arrives, behind, at_behind, reads_header, reads_zeros_at}
use Rattle.recordlog.specs.Write.{Frame, bytes_of}
use Rattle.recordlog.proofs.Sees.{corrupted, Sees, bad, Any}
use Rattle.recordlog.proofs.Frames.{Laid, after, end_of, end_ge}
use Rattle.recordlog.proofs.Seen.{event, behind_data, next_there, sees_one, sees_rest, sees_zeros}

split : (s : ℕ) → s / 32768 * 32768 + s % 32768 ≡ s
split s = omega arith

-- ---- a whole header with other data

module _ (log : List ℕ) (p : ℕ) (r : Reader) (a : At log p r) (t : FrameType) (sum xs : List ℕ) (four : length sum ≡ 4)
    (fits : (p + padding p) % 32768 + 7 + length xs ≤ 32768) (inside : p + padding p < blocks log * 32768)
    (told : crc32 (type_number t ∷ xs) ≡ le sum → ⊥) where
  read_headed : (rest : List ℕ) → drop (p + padding p) log ≡ header sum (length xs) (type_number t) (xs ++ rest)
      → read_frame log r ≡ record { answer = corrupt wrong_checksum; reader = behind (p + padding p) (length xs) }
  unfolding judge
  read_headed rest e =
      reads_header log p r (at_arrives log p r a) (type_number t) sum xs rest four fits inside e
      (λ z. omega (arith, type_low t, zero_type sum (xs ++ rest) (length xs) (type_number t) four z))
      ∙ ap₂ (λ (u : Option FrameType) (v : Bool). judge false u true v ((p + padding p) / 32768) ((p + padding p) % 32768) (length xs)) (type_back t)
      (ne_eqb (crc32 (type_number t ∷ xs)) (le sum) told)

  pub behind_headed : (rest : List ℕ) → drop (p + padding p) log ≡ header sum (length xs) (type_number t) (xs ++ rest) → drop (p + padding p + 7 + length xs) log ≡ rest
  behind_headed rest e =
      behind_data log xs rest (p + padding p + 7)
      (sym (drop-drop 7 (p + padding p) log) ∙ ap (drop 7) e ∙ header_rest sum (xs ++ rest) (length xs) (type_number t) four)

  pub sees_headed : {Z : Reader → Type 0} (gs : List Frame) (k : ℕ) (tail : List ℕ)
      → drop (p + padding p) log ≡ header sum (length xs) (type_number t) (xs ++ (bytes_of gs ++ (zeros k ++ tail)))
      → Laid (p + padding p + 7 + length xs) gs → end_of (p + padding p + 7 + length xs) gs + k ≡ blocks log * 32768
      → ((r' : Reader) → At log (end_of (p + padding p + 7 + length xs) gs) r' → Z (read_frame log r').reader)
      → Sees log Z r (corrupted wrong_checksum ∷ map event gs)
  sees_headed {Z} gs k tail e l w z =
      let q = read_headed (bytes_of gs ++ (zeros k ++ tail)) e in
      bad wrong_checksum (ap (λ (y : FrameRead). y.answer) q) tt
      (subst (λ (y : FrameRead). Sees log Z y.reader (map event gs)) (sym q)
      (sees_rest log gs (p + padding p + 7 + length xs) (behind (p + padding p) (length xs)) k tail
      (at_behind log (p + padding p) (length xs) fits inside) l
      (behind_headed (bytes_of gs ++ (zeros k ++ tail)) e)
      w z))

-- ---- a part of a header

-- the reader that the unreadable header after p leaves, and where the frames after its block begin
abbrev pub spoilt_at : ℕ → Reader
spoilt_at p = record { block = (p + padding p) / 32768; cursor = (p + padding p) % 32768; spoilt = true }

abbrev pub beyond : ℕ → ℕ
beyond p = suc ((p + padding p) / 32768) * 32768

beyond_none : (p : ℕ) → padding (beyond p) ≡ 0
beyond_none p = padding_none (beyond p) (omega arith)

refuted : (b : Bool) → (b ≡ true → ⊥) → b ≡ false
refuted true h = absurd (h refl)
refuted false h = refl

module _ (log : List ℕ) (p : ℕ) (r : Reader) (a : At log p r) (w rest : List ℕ) (seven : length w ≡ 7)
    (inside : p + padding p < blocks log * 32768)
    (e : drop (p + padding p) log ≡ w ++ rest) (some : all_zero w ≡ true → ⊥) (type : get_or w 6 0 ≡ 0) where
  read_torn : read_frame log r ≡ record { answer = corrupt unknown_type; reader = spoilt_at p }
  unfolding look judge
  read_torn =
      (at_arrives log p r a).reads inside
      ∙ ap (look ((p + padding p) / 32768) ((p + padding p) % 32768)) (ap (λ (i : ℕ). drop i log) (split (p + padding p)) ∙ e)
      ∙ ap₂ (λ (z : Bool) (u : Option FrameType). judge z u (leb ((p + padding p) % 32768 + 7 + (header_of (w ++ rest)).len) 32768)
      (eqb (crc32 ((header_of (w ++ rest)).kind ∷ content_of (w ++ rest))) (header_of (w ++ rest)).checksum) ((p + padding p) / 32768) ((p + padding p) % 32768)
      (header_of (w ++ rest)).len)
      (refuted (all_zero (take 7 (w ++ rest))) (λ z. some (ap all_zero (sym (take_at w rest 7 seven)) ∙ z)))
      (ap type_of (kind ∙ type) ∙ zero_unknown)
    where
      kind : get_or (w ++ rest) 6 0 ≡ get_or w 6 0
      kind = get_or-append w rest 0 6 (omega (arith, seven))

      zero_unknown : type_of 0 ≡ unknown
      zero_unknown = unfold type_of type_when in refl

  arrives : Arrives log (beyond p) (spoilt_at p)
  arrives = spoilt_arrives log (beyond p) (spoilt_at p) refl (omega (arith, beyond_none p))

  -- zeros after its block, or no block
  pub sees_torn : {Z : Reader → Type 0} (k : ℕ) (tail : List ℕ) → drop (beyond p) log ≡ zeros k ++ tail → beyond p + k ≡ blocks log * 32768
      → Z (read_frame log (spoilt_at p)).reader → Sees log Z r (corrupted unknown_type ∷ [])
  sees_torn {Z} k tail d h z =
      bad unknown_type (ap (λ (y : FrameRead). y.answer) read_torn) tt
      (subst (λ (y : FrameRead). Sees log Z y.reader []) (sym read_torn) (sees_zeros log (beyond p) (spoilt_at p) k tail arrives d h z))

  -- frames after its block
  pub sees_torn_on : (gs : List Frame) (k : ℕ) (tail : List ℕ) → Laid (beyond p) gs → drop (beyond p) log ≡ bytes_of gs ++ (zeros k ++ tail)
      → end_of (beyond p) gs + k ≡ blocks log * 32768 → Sees log Any r (corrupted unknown_type ∷ map event gs)
  unfolding end_of bytes_of
  sees_torn_on [] k tail l d h = sees_torn k tail d h tt
  sees_torn_on (g ∷ gs) k tail l d h =
      bad unknown_type (ap (λ (y : FrameRead). y.answer) read_torn) tt
      (subst (λ (y : FrameRead). Sees log Any y.reader (map event (g ∷ gs))) (sym read_torn)
      (sees_one log (beyond p) (spoilt_at p) g gs (zeros k ++ tail) (map event gs) arrives l.0 d (omega (arith, end_ge (after (beyond p) g) gs))
      (λ b. sees_rest log gs (after (beyond p) g) (behind (beyond p + padding (beyond p)) (length g.content)) k tail b l.1
      (next_there log (beyond p) g gs (zeros k ++ tail) l.0 d) h (λ r' b'. tt))))

-- where the reader stands then
pub torn_left : (log : List ℕ) (p k : ℕ) (tail : List ℕ) → drop (beyond p) log ≡ zeros k ++ tail → beyond p + k ≡ blocks log * 32768
    → place (read_frame log (spoilt_at p)).reader ≡ cond (eqb (suc ((p + padding p) / 32768)) (blocks log)) (p + padding p) (beyond p)
torn_left log p k tail d h = go (le_or_lt (blocks log) (suc ((p + padding p) / 32768)))
  where
    a : Arrives log (beyond p) (spoilt_at p)
    a = spoilt_arrives log (beyond p) (spoilt_at p) refl (omega (arith, beyond_none p))

    go : (blocks log ≤ suc ((p + padding p) / 32768)) ⊎ (suc ((p + padding p) / 32768) < blocks log)
        → place (read_frame log (spoilt_at p)).reader ≡ cond (eqb (suc ((p + padding p) / 32768)) (blocks log)) (p + padding p) (beyond p)
    go (inl g) =
        ap (λ (x : FrameRead). place x.reader) (a.finds_none (omega arith)) ∙ split (p + padding p)
        ∙ ap (λ (b : Bool). cond b (p + padding p) (beyond p)) (sym (eq-eqb (suc ((p + padding p) / 32768)) (blocks log) (omega arith)))
    go (inr g) =
        ap (λ (x : FrameRead). place x.reader) (reads_zeros_at log (beyond p) (spoilt_at p) a k tail d h (omega (arith, beyond_none p)))
        ∙ split (beyond p + padding (beyond p)) ∙ omega (arith, beyond_none p)
        ∙ ap (λ (b : Bool). cond b (p + padding p) (beyond p)) (sym (ne_eqb (suc ((p + padding p) / 32768)) (blocks log) (λ z. omega arith)))
