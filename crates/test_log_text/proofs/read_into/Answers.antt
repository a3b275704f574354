use Rattle.std.proofs.Common.{sym, subst, ℕ, List, length, arith}
use Rattle.frame.specs.declared.Reader.{Reader}
use Rattle.frame.specs.Internal.{Arranged}
use Rattle.recordlog.specs.declared.RecordRead.{RecordRead}
use Rattle.recordlog.specs.Internal.{NextRead}
use Rattle.recordlog.proofs.Sees.{fresh-arranged}
use Rattle.recordlog.proofs.Forward.{moves_forward}
use Rattle.test_log_text.proofs.read_into.Goals as goal

still : {log scratch after : List ℕ} {r : Reader} {x : RecordRead} → Arranged log r → NextRead log scratch r x after → Arranged log x.reader
still {log} {scratch} {r = r} a n = subst (Arranged log) (sym n.reader) (moves_forward log (length scratch) r a).arranged

pub loop-count-init : goal.loop-count-init
loop-count-init c = subst (Arranged _) (sym c.new-reader.ensures) (fresh-arranged _ (omega arith))

pub next_record-read-requires : goal.next_record-read-requires
next_record-read-requires c = c.loop-count.invariant

pub loop-count-preserved : goal.loop-count-preserved
loop-count-preserved c = still c.loop-count.invariant c.next_record-read.ensures
