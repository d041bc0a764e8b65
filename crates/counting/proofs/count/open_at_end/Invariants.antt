-- What is left of the journal leaves as many open.
use Rattle.entry_read.specs.Left.{kinds_from}
use Rattle.counting.proofs.OpenLaws.{Counting}
use Rattle.counting.proofs.count.open_at_end.Given as goal

abbrev pub invariant-loop-kind : goal.invariant-loop-kind
invariant-loop-kind l =
    record {
      can_next : goal.iterator-loop-kind.can_next l.kind-iterator;
      is_finite : goal.iterator-loop-kind.is_finite l.kind-iterator;
      left : Counting l.bytes (kinds_from l.kind-iterator.bytes.now l.kind-iterator.at) l.so_far;
    }
