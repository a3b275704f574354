-- How long a line gets.
-- Assumes nothing.
use mathlib.Core.Path.{◌≡◌, refl, sym, ap, subst}
use mathlib.Core.Bool.{Bool, true, false, cond}
use mathlib.Core.Logic.{◌⊎◌, inl, inr}
use mathlib.Core.List.{List, [], ◌∷◌, ◌++◌}
use Prim.Native.Nat.{ℕ, zero, suc, ◌+◌, ◌-◌, ◌/◌, ◌%◌, ◌^◌, ◌≤◌, ◌<◌}
use native.Mathlib.Omega.{arith}
use lib.Dec.{eqb, ltb}
use lib.ListN.{length, length-append, length-take}
use borrow.Author.Tests.{ltb-true, ltb-false, ne_eqb}
use Rattle.frame.specs.Block.{padding, space}
use Rattle.frame.proofs.Tests.{le_or_lt}
use Rattle.frame.proofs.Step.{padding_small}
use Rattle.recordlog.specs.Write.{split_from, frames_at, num_frame_bytes}
use Rattle.recordlog.proofs.Frames.{space_is, space-start}
use Rattle.recordlog.proofs.Counts.{frames_last, frames_more, padding_first}
use Rattle.record.specs.Record.{Record, touch, truncate, delete, encode}
use Rattle.record.specs.Write.{length_from, items_payload_bytes, encoded_length}
use Rattle.record.proofs.Encode.{encoded_lengths}
use Rattle.queues.specs.Queues.{Queue, Position, before_next, Found, missing, held, find, record_count}
use Rattle.queues.proofs.Sums.{evicted_count}
use Rattle.queues.proofs.Walks.{found_stands}
use Rattle.calls.specs.State.{State, Call, create_call, delete_call, truncate_call, append_call, mark_call, CallAnswer}
use Rattle.calls.specs.Payloads.{items_at, gives_empty, first_position}
use Rattle.calls.specs.Named.{evicted_from}
use Rattle.calls.specs.Refusals.{Refusal, refuse_if, first_refusal, input_refusals, write_refusals, create_refusals, delete_refusals, truncate_refusals, taking_refusals, append_refusals, mark_refusals, refusals_of, refusal_of, next_named, append_record}
use Rattle.calls.specs.Calls.{wrote, create_done, delete_done, truncate_done, empty_answer, append_taking, append_done, done_of, returned_by, call_of}
use Rattle.calls.proofs.Passed.{AppendPassed, append-passed}
use Rattle.calls.proofs.Steps.{done_zero}
use Rattle.listing.specs.Digits.{digit, decimal}
use Rattle.listing.specs.Listing.{line_feed, refused_word, numbered, number_line, refusal}
use Rattle.listing.specs.Listing.{space as space_word}
use Rattle.listing.proofs.Notation.{decimal-one, decimal_more}
use Rattle.listing.proofs.Writes.{by_test}
use Rattle.drive_commands.specs.Lines.{ok_word, position_text, told_of, counts_text, ok_line, line_by}
use Rattle.drive_calls.specs.Driven.{line_of}

-- ---- a record of at most a block's data has at most two frames

few_by : (p n : ℕ) → n ≤ 32761 → (n ≤ space p) ⊎ (space p < n) → num_frame_bytes (split_from true p n) ≤ 14 + n
few_by p n h (inl e) = omega (arith, frames_last true p n e)
few_by p n h (inr l) =
    let q : ℕ = p + padding p + 7 + space p in
    let s : space q ≡ 32761 = space-start q (omega (arith, space_is p)) in
    omega (arith, frames_more true p n l, frames_last false q (n - space p) (omega (arith, s)), l)

few_frames : (p n : ℕ) → n ≤ 32761 → num_frame_bytes (frames_at p n) ≤ 14 + n
unfolding frames_at
few_frames p n h = few_by p n h (le_or_lt n (space p))

-- the counts have at most two digits and one
abbrev Small : CallAnswer → Type 0
Small a = (a.frame_bytes ≤ 61) × (a.padding_bytes ≤ 6)

wrote_small : (s : State) (r : Record) (qs : List Queue) (last : Position) (evicted : ℕ) → length (encode r) ≤ 47 → Small (wrote s r qs last evicted).answer
unfolding wrote
wrote_small s r qs last evicted h =
    let n : ℕ = length (encode r) in
    (omega (arith, few_frames s.place n (omega (arith, h)), h), omega (arith, padding_first s.place n, padding_small s.place))

-- ---- records of the calls that commands make

-- a name of at most 8 bytes, a payload of at most 16
abbrev pub ShortCall : Call → Type 0
ShortCall (create_call n) = length n ≤ 8
ShortCall (delete_call n) = length n ≤ 8
ShortCall (truncate_call n e) = length n ≤ 8
ShortCall (append_call n a run ks) = (length n ≤ 8) × (ks ≡ 16 ∷ [])
ShortCall (mark_call n body) = ⊥

touch_short : (p : ℕ) (n : List ℕ) → length n ≤ 8 → length (encode (touch p n)) ≤ 47
unfolding encoded_length length_from
touch_short p n h = omega (arith, encoded_lengths (touch p n), h)

delete_short : (p : ℕ) (n : List ℕ) → length n ≤ 8 → length (encode (delete p n)) ≤ 47
unfolding encoded_length length_from
delete_short p n h = omega (arith, encoded_lengths (delete p n), h)

truncate_short : (p : ℕ) (n : List ℕ) → length n ≤ 8 → length (encode (truncate p n)) ≤ 47
unfolding encoded_length length_from
truncate_short p n h = omega (arith, encoded_lengths (truncate p n), h)

append_short : (p : ℕ) (n run : List ℕ) → length n ≤ 8 → length (encode (append_record n p run (16 ∷ []))) ≤ 47
unfolding encoded_length length_from items_payload_bytes items_at
append_short p n run h = omega (arith, encoded_lengths (append_record n p run (16 ∷ [])), h, length-take 16 run)

append_small : (s : State) (n : List ℕ) (p : ℕ) (run : List ℕ) → length n ≤ 8 → (e : Bool) → Small (cond e (empty_answer s) (append_taking s n p run (16 ∷ []))).answer
unfolding empty_answer append_taking
append_small s n p run h true = (omega arith, omega arith)
append_small s n p run h false = wrote_small s _ _ _ _ (append_short p n run h)

call_small : (s : State) (k : Call) → ShortCall k → Small (done_of s k).answer
unfolding done_of create_done delete_done truncate_done append_done
call_small s (create_call n) h = wrote_small s _ _ _ _ (touch_short 0 n h)
call_small s (delete_call n) h = wrote_small s _ _ _ _ (delete_short (next_named s n) n h)
call_small s (truncate_call n e) h = wrote_small s _ _ _ _ (truncate_short e n h)
call_small s (append_call n a run ks) h =
    subst (λ (xs : List ℕ). Small (cond (gives_empty a (next_named s n) xs) (empty_answer s) (append_taking s n (first_position a (next_named s n)) run xs)).answer) (sym h.1)
    (append_small s n (first_position a (next_named s n)) run h.0 (gives_empty a (next_named s n) (16 ∷ [])))
call_small s (mark_call n body) h = absurd h

-- ---- numbers

digits : (k n : ℕ) → n < 10 ^ suc k → length (decimal n) ≤ suc k
digits zero n h = omega (arith, ap length (decimal-one n (omega arith)))
digits (suc k) n h =
    by_test (ltb n 10)
    (λ yes. omega (arith, ap length (decimal-one n (ltb-true n 10 yes))))
    (λ no.
    let big : 10 ≤ n = ltb-false n 10 no in
    omega (arith, ap length (decimal_more n big), length-append (decimal (n / 10)) (digit (n % 10) ∷ []), digits k (n / 10) (omega arith)))

counts_short : (a : CallAnswer) → Small a → length (counts_text a) ≤ 6
unfolding counts_text numbered number_line
counts_short a w =
    let f : ℕ = a.frame_bytes in
    let p : ℕ = a.padding_bytes in
    omega (
      arith,
      length-append (space_word ++ decimal f) ((space_word ++ decimal p) ++ line_feed),
      length-append space_word (decimal f),
      length-append (space_word ++ decimal p) line_feed,
      length-append space_word (decimal p),
      digits 1 f (omega (arith, w.0)),
      digits 0 p (omega (arith, w.1)),
    )

-- ---- refusals

abbrev AllMost : ℕ → List Refusal → Type 0
AllMost m [] = Unit {0}
AllMost m (r ∷ rs) = (r.number ≤ m) × AllMost m rs

most_by : (b : Bool) (n rest m : ℕ) → n ≤ m → rest ≤ m → refuse_if b n rest ≤ m
unfolding refuse_if
most_by true n rest m h g = h
most_by false n rest m h g = g

first_most : (m : ℕ) (rs : List Refusal) → AllMost m rs → first_refusal rs ≤ m
unfolding first_refusal
first_most m [] w = omega arith
first_most m (r ∷ rs) w = most_by r.applies r.number (first_refusal rs) m w.0 (first_most m rs w.1)

taking_most : (s : State) (n : List ℕ) (p : ℕ) (run ks : List ℕ) (e : Bool) → AllMost 14 (cond e [] (taking_refusals s n p run ks))
unfolding taking_refusals write_refusals
taking_most s n p run ks true = tt
taking_most s n p run ks false = (omega arith, (omega arith, (omega arith, (omega arith, tt))))

pub refusal_most : (s : State) (k : Call) → refusal_of s k ≤ 14
unfolding refusals_of create_refusals delete_refusals truncate_refusals append_refusals mark_refusals input_refusals write_refusals
refusal_most s (create_call n) = first_most 14 (refusals_of s (create_call n)) (omega arith, (omega arith, (omega arith, (omega arith, (omega arith, (omega arith, (omega arith, (omega arith, tt))))))))
refusal_most s (delete_call n) = first_most 14 (refusals_of s (delete_call n)) (omega arith, (omega arith, (omega arith, (omega arith, (omega arith, (omega arith, (omega arith, (omega arith, tt))))))))
refusal_most s (truncate_call n e) = first_most 14 (refusals_of s (truncate_call n e)) (omega arith, (omega arith, (omega arith, (omega arith, (omega arith, (omega arith, (omega arith, (omega arith, (omega arith, tt)))))))))
refusal_most s (append_call n a run ks) =
    first_most 14 (refusals_of s (append_call n a run ks)) (
      omega arith,
      (
        omega arith,
        (
          omega arith,
          (
            omega arith,
            (
              omega arith,
              (
                omega arith,
                (
                  omega arith,
                  (
                    omega arith,
                    taking_most s n (first_position a (next_named s n)) run ks (gives_empty a (next_named s n) ks),
                  ),
                ),
              ),
            ),
          ),
        ),
      ),
    )
refusal_most s (mark_call n body) = first_most 14 (refusals_of s (mark_call n body)) (omega arith, (omega arith, (omega arith, (omega arith, tt))))

pub refusal_short : (n : ℕ) → n ≤ 16 → length (refusal n) ≤ 11
unfolding refusal number_line numbered
refusal_short n h = omega (arith, length-append (refused_word ++ decimal n) line_feed, length-append refused_word (decimal n), digits 1 n (omega (arith, h)))

-- ---- a line

-- "refused 12", "ok 1024 33 6", "ok 18446744073709551614 61 0", and a line feed
unfoldable pub line_most : Call → ℕ
line_most (create_call n) = 11
line_most (delete_call n) = 11
line_most (truncate_call n e) = 13
line_most (append_call n a run ks) = 29
line_most (mark_call n body) = 11

pub most_least : (k : Call) → 11 ≤ line_most k
unfolding line_most
most_least (create_call n) = omega arith
most_least (delete_call n) = omega arith
most_least (truncate_call n e) = omega arith
most_least (append_call n a run ks) = omega arith
most_least (mark_call n body) = omega arith

evicted_most : (qs : List Queue) (n : List ℕ) (e : ℕ) (f : Found) → find n qs ≡ f → evicted_from f e ≤ record_count qs
unfolding evicted_from
evicted_most qs n e missing g = omega arith
evicted_most qs n e (held q) g = omega (arith, evicted_count qs q e (found_stands n qs q g))

before_short : (x : ℕ) → x ≤ 0xFFFFFFFFFFFFFFFF → length (position_text (before_next x)) ≤ 20
unfolding before_next position_text
before_short zero h = omega arith
before_short (suc n) h = digits 19 n (omega (arith, h))

last_short : (s : State) (n : List ℕ) (a : Position) (run ks : List ℕ) → AppendPassed s n a run ks → (e : Bool) → gives_empty a (next_named s n) ks ≡ e
    → length (position_text (cond e (empty_answer s) (append_taking s n (first_position a (next_named s n)) run ks)).answer.last) ≤ 20
unfolding empty_answer append_taking wrote position_text
last_short s n a run ks w true e = omega arith
last_short s n a run ks w false e = before_short (first_position a (next_named s n) + length ks) (w.taking e).below

ok_length : (k : Call) (a : CallAnswer) → length (ok_line k a) ≡ 2 + (length (told_of k a) + length (counts_text a))
unfolding ok_line
ok_length k a = omega (arith, length-append ok_word (told_of k a ++ counts_text a), length-append (told_of k a) (counts_text a))

ok_short : (s : State) (k : Call) → ShortCall k → record_count s.queues ≤ 1024 → refusal_of s k ≡ 0 → length (ok_line k (done_of s k).answer) ≤ line_most k
unfolding line_most told_of done_of create_done delete_done truncate_done append_done wrote numbered refusals_of
ok_short s (create_call n) h c z =
    omega (arith, ok_length (create_call n) (done_of s (create_call n)).answer, counts_short (done_of s (create_call n)).answer (call_small s (create_call n) h))
ok_short s (delete_call n) h c z =
    omega (arith, ok_length (delete_call n) (done_of s (delete_call n)).answer, counts_short (done_of s (delete_call n)).answer (call_small s (delete_call n) h))
ok_short s (truncate_call n e) h c z =
    let a : CallAnswer = (done_of s (truncate_call n e)).answer in
    let v : ℕ = evicted_from (find n s.queues) e in
    let m : v ≤ record_count s.queues = evicted_most s.queues n e (find n s.queues) refl in
    omega
    (arith, ok_length (truncate_call n e) a, counts_short a (call_small s (truncate_call n e) h), length-append space_word (decimal v), digits 3 v (omega (arith, m, c)))
ok_short s (append_call n a run ks) h c z =
    let x : CallAnswer = (done_of s (append_call n a run ks)).answer in
    let t : List ℕ = position_text x.last in
    let l : length t ≤ 20 = last_short s n a run ks (append-passed s n a run ks z) (gives_empty a (next_named s n) ks) refl in
    omega (arith, ok_length (append_call n a run ks) x, counts_short x (call_small s (append_call n a run ks) h), length-append space_word t, l)
ok_short s (mark_call n body) h c z = absurd h

module _ (s : State) (k : Call) (h : ShortCall k) (c : record_count s.queues ≤ 1024) where
  line_by_lem : (i : ℕ) → refusal_of s k ≡ i → length (line_by k (returned_by i s (done_of s k)).answer) ≤ line_most k
  unfolding line_by returned_by
  line_by_lem zero z = subst (λ (j : ℕ). length (cond (eqb j 0) (ok_line k (done_of s k).answer) (refusal j)) ≤ line_most k) (sym (done_zero s k)) (ok_short s k h c z)
  line_by_lem (suc i) z =
      subst (λ (b : Bool). length (cond b (ok_line k (returned_by (suc i) s (done_of s k)).answer) (refusal (suc i))) ≤ line_most k)
      (sym (ne_eqb (suc i) 0 (λ q. omega (arith, q))))
      (omega (arith, refusal_short (suc i) (omega (arith, sym z, refusal_most s k)), most_least k))

  pub line_short : length (line_of s k) ≤ line_most k
  unfolding line_of call_of
  line_short = line_by_lem (refusal_of s k) refl
