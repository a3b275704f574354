-- The listing behind the lines: a text in two parts, in a buffer that was zero.
-- Assumes nothing.
use mathlib.Core.Path.{◌≡◌, refl, sym, ap, ap₂, subst, ◌∙◌}
use mathlib.Core.Bool.{Bool, true, false, cond}
use mathlib.Core.List.{List, [], ◌∷◌, ◌++◌, append-nil}
use Prim.Native.Nat.{ℕ, suc, ◌+◌, ◌-◌, ◌≤◌, ◌<◌}
use native.Mathlib.Omega.{arith}
use lib.Dec.{ltb, leb}
use lib.ListN.{length, take, drop, set, length-append, length-replicate, length-drop, drop_of_length-le}
use lib.Seq.{sets, sets-eq, take_at, length-take-le}
use borrow.Author.Tests.{ltb-true, ltb-false, leb-true, leb-false, lt-ltb, le-ltb}
use Rattle.slices.specs.Bytes.{Bytes, zeros}
use Rattle.frame.proofs.Step.{drop-zeros}
use Rattle.std.specs.Prelude.{Option}
use Rattle.std.specs.Prelude.Option.{Some, None}
use Rattle.listing.specs.Writing.{written, listed}
use Rattle.listing.specs.Internal.{behind, Wrote}
use Rattle.listing.specs.Listing.{refusal}
use Rattle.listing.proofs.Writes.{by_test, length-written, written_out, written-append, listed-whole, listed_no_room, listed-behind, behind_in}
use Rattle.readout_text.specs.Card.{card_text}
use Rattle.readout_text.proofs.Sizes.{refused_as}
use Rattle.drive_calls.specs.Driven.{driven, joined, drive_text, drive_log}
use Rattle.drive_calls.proofs.Turns.{too_long_lem, drive_lists, log_is}
use Rattle.drive_text.specs.Internal.{on_listed, listed_behind, left_behind, Drove}

-- ---- the answer

pub on_some : (at n : ℕ) (r : Option ℕ) → r ≡ Some n → Some (at + n) ≡ on_listed at r
unfolding on_listed
on_some at n r e = sym (ap (on_listed at) e)

pub on_none : (at : ℕ) (r : Option ℕ) → r ≡ None → None ≡ on_listed at r
unfolding on_listed
on_none at r e = sym (ap (on_listed at) e)

-- a text that stands in a buffer of k bytes has at most k
inside_by : (n k j : ℕ) (b : Bool) → leb j k ≡ b → Some n ≡ cond b (Some j) None → n ≤ k
inside_by n k j true e f =
    let d : n ≡ j = cc in
    omega (arith, leb-true j k e, d)
inside_by n k j false e f = absurd (cc)

pub listed_inside : (n k j : ℕ) → Some n ≡ listed k j → n ≤ k
unfolding listed
listed_inside n k j e = inside_by n k j (leb j k) refl e

-- ---- a place past the buffer, and one in it

module _ (out : List ℕ) (at : ℕ) (text : List ℕ) where
  pub past : length out < at → (None ≡ listed_behind (length out) at text) × (out ≡ left_behind out at text)
  unfolding listed_behind left_behind
  past h = (simp (lt-ltb (length out) at h), simp (lt-ltb (length out) at h))

  pub in_it : (r x : Option ℕ) (part : List ℕ) → at ≤ length out → x ≡ listed (length out - at) (length text) → r ≡ on_listed at x
      → part ≡ written (zeros (length out - at)) 0 text → (r ≡ listed_behind (length out) at text) × (take at out ++ part ≡ left_behind out at text)
  unfolding listed_behind left_behind
  in_it r x part h e f g = (
    f ∙ ap (on_listed at) e ∙ sym (ap (λ (t : Bool). cond t None (on_listed at (listed (length out - at) (length text)))) (le-ltb (length out) at h)),
    ap (λ (l : List ℕ). take at out ++ l) g ∙ sym (ap (λ (t : Bool). cond t out (take at out ++ written (zeros (length out - at)) 0 text)) (le-ltb (length out) at h)),
  )

  -- the part behind the place, lent and back
  pub in_part : (r x : Option ℕ) (ys : List ℕ) → at ≤ length out → x ≡ listed (length (take (length out - at) (drop at out))) (length text) → r ≡ on_listed at x
      → ys ≡ written (zeros (length (take (length out - at) (drop at out)))) 0 text
      → (r ≡ listed_behind (length out) at text) × (take at out ++ (ys ++ drop (length out - at) (drop at out)) ≡ left_behind out at text)
  in_part r x ys h e f g =
      let n : length (take (length out - at) (drop at out)) ≡ length out - at = length-take-le (length out - at) (drop at out) (omega (arith, length-drop at out)) in
      let w = in_it r x ys h (e ∙ ap (λ (m : ℕ). listed m (length text)) n) f (g ∙ ap (λ (m : ℕ). written (zeros m) 0 text) n) in
      let z : drop (length out - at) (drop at out) ≡ [] = drop_of_length-le (drop at out) {i = length out - at} (omega (arith, length-drop at out)) in
      (w.0, ap (λ (l : List ℕ). take at out ++ (ys ++ l)) z ∙ ap (λ (l : List ℕ). take at out ++ l) (append-nil ys) ∙ w.1)

  pub part_fits : (x : Option ℕ) (n : ℕ) → at ≤ length out → x ≡ listed (length (take (length out - at) (drop at out))) (length text) → x ≡ Some n → at + n ≤ length out
  part_fits x n h e f =
      let l : length (take (length out - at) (drop at out)) ≡ length out - at = length-take-le (length out - at) (drop at out) (omega (arith, length-drop at out)) in
      let k : n ≤ length (take (length out - at) (drop at out)) = listed_inside n (length (take (length out - at) (drop at out))) (length text) (sym f ∙ e) in
      omega (arith, h, l, k)

-- ---- both parts

sets_cons : (x : ℕ) (s : List ℕ) (i : ℕ) (ys : List ℕ) → sets (x ∷ s) (suc i) ys ≡ x ∷ sets s i ys
sets_cons x s i [] = refl
sets_cons x s i (y ∷ ys) = sets_cons x (set s i y) (suc i) ys

-- a text behind a first part is the first part, and the text where that ends
put-behind : (xs s ys : List ℕ) → written (xs ++ s) (length xs) ys ≡ xs ++ written s 0 ys
unfolding written
put-behind [] s ys = refl
put-behind (x ∷ xs) s ys = sets_cons x (xs ++ s) (length xs) ys ∙ ap (λ (l : List ℕ). x ∷ l) (put-behind xs s ys)

drop-run : (k n : ℕ) → k ≤ n → drop k (zeros n) ≡ zeros (n - k)
drop-run k n h = ap (drop k) (sym (append-nil (zeros n))) ∙ drop-zeros k n (n - k) [] (omega arith) ∙ append-nil (zeros (n - k))

-- what a zeroed buffer is left with, of a text that fits
zeros-left : (n : ℕ) (t : List ℕ) → length t ≤ n → written (zeros n) 0 t ≡ t ++ zeros (n - length t)
unfolding written
zeros-left n t h =
    let z : length (zeros n) ≡ n = length-replicate {A = ℕ} n 0 in
    let k : 0 + length t ≡ length t = omega arith in
    sets-eq t (zeros n) 0 (omega (arith, z, h)) ∙ ap (λ (j : ℕ). t ++ drop j (zeros n)) k ∙ ap (λ (l : List ℕ). t ++ l) (drop-run (length t) n h)

-- the answers
listed-add : (n at k : ℕ) → at ≤ n → on_listed at (listed (n - at) k) ≡ listed n (at + k)
unfolding on_listed
listed-add n at k h =
    by_test (leb k (n - at))
    (λ yes. let l : k ≤ n - at = leb-true k (n - at) yes in ap (on_listed at) (sym (listed-whole (n - at) k l)) ∙ listed-whole n (at + k) (omega (arith, l, h)))
    (λ no. let l : n - at < k = leb-false k (n - at) no in ap (on_listed at) (sym (listed_no_room (n - at) k l)) ∙ listed_no_room n (at + k) (omega (arith, l, h)))

never_both : (n k : ℕ) → None ≡ Some k → ⊥
never_both n k e = let z : ◌≡◌ {A = ℕ} 0 1 = cc in omega arith

-- a place past the buffer tells that the text did not fit
past_over : (n k : ℕ) → n < k → n < behind n 0 k
past_over n k h =
    by_test (leb (behind n 0 k) n)
    (λ yes. absurd (never_both n (behind n 0 k) (listed_no_room n k h ∙ sym (listed-behind n k) ∙ sym (listed-whole n (behind n 0 k) (leb-true (behind n 0 k) n yes)))))
    (λ no. leb-false (behind n 0 k) n no)

module _ (n : ℕ) (t : List ℕ) (at : ℕ) (out : List ℕ) (w : Wrote (zeros n) 0 t at out) (text : List ℕ) where
  zeros_long : length (zeros n) ≡ n
  zeros_long = length-replicate {A = ℕ} n 0

  long : length out ≡ n
  long = ap length w.buffer ∙ length-written (zeros n) 0 t ∙ zeros_long

  place_is : at ≡ behind n 0 (length t)
  place_is = w.place ∙ ap (λ (m : ℕ). behind m 0 (length t)) zeros_long

  whole : written (zeros n) 0 (t ++ text) ≡ written out at text
  whole = written-append (zeros n) 0 t text ∙ ap₂ (λ (s : List ℕ) (p : ℕ). written s p text) (sym w.buffer) (sym w.place)

  sum : length (t ++ text) ≡ length t + length text
  sum = length-append t text

  over : n < length t → (listed_behind n at text ≡ listed n (length (t ++ text))) × (left_behind out at text ≡ written (zeros n) 0 (t ++ text))
  over h =
      let l : n < at = subst (λ (p : ℕ). n < p) (sym place_is) (past_over n (length t) h) in
      let p = past out at text (omega (arith, long, l)) in (
        ap (λ (m : ℕ). listed_behind m at text) (sym long) ∙ sym p.0 ∙ listed_no_room n (length (t ++ text)) (omega (arith, sum, h)),
        sym p.1 ∙ sym (written_out out at text (omega (arith, long, l))) ∙ sym whole,
      )

  fits : length t ≤ n → (listed_behind n at text ≡ listed n (length (t ++ text))) × (left_behind out at text ≡ written (zeros n) 0 (t ++ text))
  fits h =
      let e : at ≡ length t = place_is ∙ behind_in n 0 (length t) (omega (arith, h)) ∙ omega arith in
      let o : out ≡ t ++ zeros (n - length t) = w.buffer ∙ zeros-left n t h in
      let p = in_it out at text (on_listed at (listed (length out - at) (length text))) (listed (length out - at) (length text)) (written (zeros (length out - at)) 0 text) (omega (arith, e, long, h)) refl refl refl in (
        ap (λ (m : ℕ). listed_behind m at text) (sym long) ∙ sym p.0 ∙ ap (λ (m : ℕ). on_listed at (listed (m - at) (length text))) long
            ∙ listed-add n at (length text) (omega (arith, e, h)) ∙ ap (listed n) (ap (λ (k : ℕ). k + length text) e ∙ sym sum),
        sym p.1
            ∙ ap₂ (λ (l : List ℕ) (m : ℕ). l ++ written (zeros m) 0 text) (ap₂ (λ (k : ℕ) (l : List ℕ). take k l) e o ∙ take_at t (zeros (n - length t)) (length t) refl)
            (ap₂ (λ (a b : ℕ). a - b) long e)
            ∙ sym (put-behind t (zeros (n - length t)) text) ∙ ap₂ (λ (l : List ℕ) (p : ℕ). written l p text) (sym o) (sym e) ∙ sym whole,
      )

  pub both : (listed_behind n at text ≡ listed n (length (t ++ text))) × (left_behind out at text ≡ written (zeros n) 0 (t ++ text))
  both = by_test (ltb n (length t)) (λ yes. over (ltb-true n (length t) yes)) (λ no. fits (ltb-false n (length t) no))

-- ---- the whole

pub printed : (input out₀ log₀ : List ℕ) {out₁ log' out₂ out₃ : List ℕ} {at : ℕ} {r : Option ℕ} → Bytes input → length input ≤ 65536 → out₁ ≡ zeros (length out₀)
    → Drove input log' out₁ at out₂ → (r ≡ listed_behind (length out₂) at (card_text log')) × (out₃ ≡ left_behind out₂ at (card_text log'))
    → (r ≡ listed (length out₀) (length (drive_text input))) × ((out₃ ≡ written (zeros (length out₀)) 0 (drive_text input)) × (log' ≡ drive_log input log₀))
printed input out₀ log₀ {log' = log'} {out₂ = out₂} {at = at} b l e d w =
    let n : ℕ = length out₀ in
    let t : List ℕ = joined (driven input).lines in
    let v : Wrote (zeros n) 0 t at out₂ = subst (λ (s : List ℕ). Wrote s 0 t at out₂) e d.lines in
    let p = both n t at out₂ v (card_text log') in
    let g : log' ≡ drive_log input log₀ = d.log_left ∙ sym (log_is input l log₀) in
    let x : t ++ card_text log' ≡ drive_text input = ap (λ (c : List ℕ). t ++ card_text c) g ∙ sym (drive_lists input log₀ b l) in (
      w.0 ∙ ap (λ (m : ℕ). listed_behind m at (card_text log')) (long n t at out₂ v (card_text log')) ∙ p.0 ∙ ap (λ (c : List ℕ). listed n (length c)) x,
      (w.1 ∙ p.1 ∙ ap (written (zeros n) 0) x, g),
    )

-- an input that is too long
pub refused_so : (input out₀ log₀ : List ℕ) {out₁ out₂ : List ℕ} {r : Option ℕ} → 65536 < length input → out₁ ≡ zeros (length out₀)
    → (r ≡ listed (length out₁) (length (refusal 1))) × (out₂ ≡ written out₁ 0 (refusal 1))
    → (r ≡ listed (length out₀) (length (drive_text input))) × ((out₂ ≡ written (zeros (length out₀)) 0 (drive_text input)) × (log₀ ≡ drive_log input log₀))
refused_so input out₀ log₀ l e w =
    let t = too_long_lem input log₀ l in
    let p = refused_as (drive_text input) (refusal 1) out₀ _ _ _ t.text e w in
    (p.0, (p.1, sym t.log_stays))

-- a lent array that was cleared
pub zeroed : (a b : List ℕ) → length a ≡ 65536 → b ≡ zeros (length a) → b ≡ zeros 65536
zeroed a b l e = e ∙ ap zeros l
