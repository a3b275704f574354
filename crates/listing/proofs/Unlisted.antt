-- Blocks are not listed.
-- Assumes nothing.
use mathlib.Core.Path.{◌≡◌, refl, sym, ap, ap₂, ◌∙◌}
use mathlib.Core.List.{List, [], ◌∷◌, ◌++◌, map}
use Prim.Native.Nat.{ℕ}
use lib.ListN.{length-map}
use Rattle.queues.specs.Queues.{Stored, item_of, Queue}
use Rattle.queues.specs.Unblocked.{unblocked_record, unblocked}
use Rattle.queues.proofs.Unblocked.{next_unblocked}
use Rattle.listing.specs.Listing.{queues_word, number_line, head_line, queue_line, record_line, record_lines, queue_lines, end_lines, listing}
use Rattle.listing.specs.Claims.{BlocksUnlisted}

records_unlisted : (is : List Stored) → record_lines (map unblocked_record is) ≡ record_lines is
unfolding record_lines
records_unlisted [] = refl
records_unlisted (i ∷ is) = ap (λ (l : List ℕ). record_line (item_of i) ++ l) (records_unlisted is)

queue_unlisted : (q : Queue) → queue_line (unblocked q) ≡ queue_line q
unfolding queue_line
queue_unlisted q = ap₂ (head_line q.name q.start) (next_unblocked q) (length-map q.records unblocked_record)

queues_unlisted : (qs : List Queue) → queue_lines (map unblocked qs) ≡ queue_lines qs
unfolding queue_lines
queues_unlisted [] = refl
queues_unlisted (q ∷ qs) =
    ap₂ (λ (a b : List ℕ). a ++ b) (queue_unlisted q) (ap₂ (λ (a b : List ℕ). a ++ b) (records_unlisted q.records) (queues_unlisted qs))

unlisted : (qs : List Queue) (lost resumed n : ℕ) → listing (map unblocked qs) lost resumed n ≡ listing qs lost resumed n
unfolding listing
unlisted qs lost resumed n =
    ap₂ (λ (k : ℕ) (l : List ℕ). number_line queues_word k ++ (l ++ end_lines lost resumed n)) (length-map qs unblocked) (queues_unlisted qs)

pub blocks_unlisted : BlocksUnlisted
blocks_unlisted qs qs' lost resumed n e =
    sym (unlisted qs lost resumed n) ∙ ap (λ (x : List Queue). listing x lost resumed n) e ∙ unlisted qs' lost resumed n
