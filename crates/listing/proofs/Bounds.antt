-- What a buffer is left with, how the rounding goes, and how long a text gets.
-- Assumes nothing.
use mathlib.Core.Path.{◌≡◌, refl, sym, ap, ap₂, ◌∙◌}
use mathlib.Core.Bool.{Bool, true, ◌&&◌}
use mathlib.Core.List.{List, [], ◌∷◌, ◌++◌, append_assoc}
use Prim.Native.Nat.{ℕ, zero, suc, ◌+◌, ◌*◌, ◌/◌, ◌%◌, ◌^◌, ◌≤◌, ◌<◌}
use native.Mathlib.Nat.{div-le_self}
use native.Mathlib.Omega.{arith}
use lib.Dec.{ltb}
use lib.ListN.{length, take, drop, length-append, take-append-drop}
use lib.Seq.{sets-eq, length-take-le}
use borrow.Author.Tests.{ltb-true, ltb-false}
use Rattle.record.specs.Record.{Item}
use Rattle.slices.specs.Put.{put}
use Rattle.slices.proofs.Put.{put_all}
use Rattle.queues.specs.Queues.{Stored, Queue, item_of, next, name_bytes, record_count, payloads_of, payload_bytes, rising, queue_arranged, comes_first, in_order}
use Rattle.queues.specs.Layout.{meaning}
use Rattle.queues.proofs.ArrangedFacts.{Arrangement, arranged_arrangement}
use Rattle.queues.proofs.SumsHeld.{queues_held_lem, names_held_lem, records_held_lem, payloads_held_lem}
use Rattle.queues.proofs.Both.{and_left, and_right}
use Rattle.queues.proofs.Rising.{risen, Fine, arranged_fine, fine_next}
use Rattle.listing.specs.Digits.{digit, hex_run, hex, decimal}
use Rattle.listing.specs.Writing.{written}
use Rattle.listing.specs.Internal.{behind}
use Rattle.listing.specs.Listing.{shift_word, shift_lines, queues_word, queue_word, start_word, next_word, held_word, record_word, lost_word, fill_word, space, point, line_feed, numbered, number_line, head_line, queue_line, record_line, record_lines, queue_lines, whole_bytes, half_even, fill_tenths, fill_line, end_lines, listing}
use Rattle.listing.specs.Claims.{LogFits, WrittenFits, WrittenShort, ShiftsShort, ListingShort, MemoryShort}
use Rattle.listing.proofs.Writes.{by_test, written-append, written_out, behind_in}
use Rattle.listing.proofs.Rounding.{half_even_most}
use Rattle.listing.proofs.Notation.{decimal-one, decimal_more}

pub written_fits : WrittenFits
unfolding written put
written_fits s p xs h = sets-eq xs s p h ∙ append_assoc (take p s) xs (drop (p + length xs) s)

pub written_short : WrittenShort
written_short s xs h =
    let n : ℕ = length s in
    let long : length (take n xs) ≡ n = length-take-le n xs h in
    let whole : written s 0 (take n xs) ≡ take n xs = written_fits s 0 (take n xs) (omega (arith, long)) ∙ put_all s (take n xs) long in
    let place : behind n 0 (length (take n xs)) ≡ 0 + length (take n xs) = behind_in n 0 (length (take n xs)) (omega (arith, long)) in
    ap (written s 0) (sym (take-append-drop n xs))
    ∙ written-append s 0 (take n xs) (drop n xs)
    ∙ ap₂ (λ (t : List ℕ) (q : ℕ). written t q (drop n xs)) whole place
    ∙ written_out (take n xs) (0 + length (take n xs)) (drop n xs) (omega arith)

-- ---- how long a text gets

decimal_digits : (k n : ℕ) → n < 10 ^ suc k → length (decimal n) ≤ suc k
decimal_digits zero n h = omega (arith, ap length (decimal-one n (omega arith)))
decimal_digits (suc k) n h =
    by_test (ltb n 10)
    (λ yes. omega (arith, ap length (decimal-one n (ltb-true n 10 yes))))
    (λ no.
    let big : 10 ≤ n = ltb-false n 10 no in
    omega (arith, ap length (decimal_more n big), length-append (decimal (n / 10)) (digit (n % 10) ∷ []), decimal_digits k (n / 10) (omega arith)))

pub decimal_short : (n : ℕ) → n < 2 ^ 64 → length (decimal n) ≤ 20
decimal_short n h = decimal_digits 19 n (omega arith)

hex-run-length : (bs : List ℕ) → length (hex_run bs) ≡ 2 * length bs
unfolding hex_run
hex-run-length [] = refl
hex-run-length (b ∷ bs) = omega (arith, hex-run-length bs)

hex_short : (bs : List ℕ) → length (hex bs) ≤ 2 * length bs + 1
unfolding hex
hex_short [] = omega arith
hex_short (b ∷ bs) = omega (arith, hex-run-length (b ∷ bs))

numbered_short : (w : List ℕ) (n : ℕ) → n < 2 ^ 64 → length (numbered w n) ≤ length w + 20
unfolding numbered
numbered_short w n h = omega (arith, length-append w (decimal n), decimal_short n h)

line_short : (w : List ℕ) (n : ℕ) → n < 2 ^ 64 → length (number_line w n) ≤ length w + 21
unfolding number_line
line_short w n h = omega (arith, length-append (numbered w n) line_feed, numbered_short w n h)

head_short : (name : List ℕ) (s n k : ℕ) → s < 2 ^ 64 → n < 2 ^ 64 → k < 2 ^ 64 → length (head_line name s n k) ≤ 87 + 2 * length name
unfolding head_line
head_short name s n k hs hn hk =
    let d : List ℕ = number_line held_word k in
    let c : List ℕ = numbered next_word n ++ d in
    let b : List ℕ = numbered start_word s ++ c in
    omega (
      arith,
      length-append queue_word (hex name ++ b),
      length-append (hex name) b,
      length-append (numbered start_word s) c,
      length-append (numbered next_word n) d,
      hex_short name,
      numbered_short start_word s hs,
      numbered_short next_word n hn,
      line_short held_word k hk,
    )

record_short : (i : Item) → i.position < 2 ^ 64 → length (record_line i) ≤ 30 + 2 * length i.payload
unfolding record_line
record_short i h =
    let b : List ℕ = hex i.payload ++ line_feed in
    omega (
      arith,
      length-append (numbered record_word i.position) (space ++ b),
      length-append space b,
      length-append (hex i.payload) line_feed,
      hex_short i.payload,
      numbered_short record_word i.position h,
    )

records_short : (n : ℕ) (is : List Stored) → rising n is ≡ true → length (record_lines is) ≤ 30 * length is + 2 * payloads_of is
unfolding record_lines payloads_of
records_short n [] h = omega arith
records_short n (i ∷ is) h =
    omega
    (arith, length-append (record_line (item_of i)) (record_lines is), record_short (item_of i) (omega (arith, (risen n i is h).high)), records_short (suc i.position) is (risen n i is h).rest)

queue_short : (q : Queue) → queue_arranged q ≡ true → length q.records < 2 ^ 64
    → length (queue_line q) + length (record_lines q.records) ≤ 87 + 2 * length q.name + (30 * length q.records + 2 * payloads_of q.records)
unfolding queue_line
queue_short q e h =
    let f : Fine q = arranged_fine q e in
    omega
    (arith, head_short q.name q.start (next q) (length q.records) (omega (arith, f.start_low)) (omega (arith, fine_next q f)) h, records_short q.start q.records f.rises)

queues_short : (qs : List Queue) → in_order qs ≡ true → record_count qs < 2 ^ 64
    → length (queue_lines qs) ≤ 87 * length qs + 2 * name_bytes qs + (30 * record_count qs + 2 * payload_bytes qs)
unfolding queue_lines name_bytes record_count payload_bytes in_order
queues_short [] e h = omega arith
queues_short (q ∷ qs) e h =
    let here : Bool = queue_arranged q in
    let first : Bool = comes_first q.name qs in
    omega (
      arith,
      length-append (queue_line q) (record_lines q.records ++ queue_lines qs),
      length-append (record_lines q.records) (queue_lines qs),
      queue_short q (and_left here (first && in_order qs) e) (omega arith),
      queues_short qs (and_right first (in_order qs) (and_right here (first && in_order qs) e)) (omega arith),
    )

pub shifts_short : ShiftsShort
unfolding shift_lines
shifts_short [] h = omega arith
shifts_short (n ∷ ns) h =
    omega (arith, length-append (number_line shift_word n) (shift_lines ns), line_short shift_word n (h 0), shifts_short ns (λ i. h (suc i)))

fill_short : (resumed n : ℕ) → LogFits resumed n → length (fill_line (fill_tenths resumed n)) ≤ 47
unfolding fill_line fill_tenths whole_bytes
fill_short resumed n fits =
    let w : ℕ = n / 32768 * 32768 in
    let a : ℕ = 1000 * resumed in
    let t : ℕ = half_even a w in
    let small : t < 2 ^ 64 = omega (arith, half_even_most a w (omega (arith, fits.a_block)), div-le_self a w, fits.few_blocks, fits.inside) in
    omega
    (arith, length-append (numbered fill_word (t / 10)) (number_line point (t % 10)), numbered_short fill_word (t / 10) (omega arith), line_short point (t % 10) (omega arith))

pub listing_short : ListingShort
unfolding listing end_lines
listing_short qs lost resumed n e few held names payloads small fits =
    let ends : List ℕ = number_line lost_word lost ++ fill_line (fill_tenths resumed n) in
    omega (
      arith,
      length-append (number_line queues_word (length qs)) (queue_lines qs ++ ends),
      length-append (queue_lines qs) ends,
      length-append (number_line lost_word lost) (fill_line (fill_tenths resumed n)),
      line_short queues_word (length qs) (omega arith),
      line_short lost_word lost small,
      fill_short resumed n fits,
      queues_short qs e (omega arith),
    )

pub memory_short : MemoryShort
memory_short m lost resumed n e few names payloads small fits =
    let a : Arrangement m = arranged_arrangement m e in
    listing_short (meaning m) lost resumed n a.ordered (omega (arith, queues_held_lem m a, a.few)) (omega (arith, records_held_lem m a, a.records_fit))
    (omega (arith, names_held_lem m a, a.names_fit)) (omega (arith, payloads_held_lem m a, a.payloads_fit)) small fits
