-- What replay gives of a copy is equal to what is held but for block numbers.
-- Assumes nothing.
use mathlib.Core.Path.{◌≡◌, refl, ap, ap₂}
use mathlib.Core.List.{List, [], ◌∷◌, map}
use Prim.Native.Nat.{ℕ}
use Rattle.recordlog.specs.Write.{place_after}
use Rattle.recordlog.specs.Laid.{place_all}
use Rattle.record.specs.Record.{touch, encode}
use Rattle.queues.specs.Queues.{Stored, Queue, queue}
use Rattle.queues.specs.Unblocked.{unblocked_record, unblocked}
use Rattle.copy_records.specs.Copy.{append_of, queue_records}
use Rattle.copy_records.specs.Blocks.{records_copied, queue_copied, queues_copied}
use Rattle.copy_records.specs.Claims.{CopiedSame}

pub records_same : (p : ℕ) (n : List ℕ) (is : List Stored) → map unblocked_record (records_copied p n is) ≡ map unblocked_record is
unfolding records_copied
records_same p n [] = refl
records_same p n (i ∷ is) = ap (◌∷◌ (unblocked_record i)) (records_same (place_after p (encode (append_of n i))) n is)

pub queue_same : (p : ℕ) (q : Queue) → unblocked (queue_copied p q) ≡ unblocked q
queue_same p q = ap (queue q.name q.start) (records_same (place_after p (encode (touch q.start q.name))) q.name q.records)

queues_same : (p : ℕ) (qs : List Queue) → map unblocked (queues_copied p qs) ≡ map unblocked qs
unfolding queues_copied
queues_same p [] = refl
queues_same p (q ∷ qs) = ap₂ ◌∷◌ (queue_same p q) (queues_same (place_all p (map encode (queue_records q))) qs)

pub copied_same : CopiedSame
copied_same qs = queues_same 0 qs
