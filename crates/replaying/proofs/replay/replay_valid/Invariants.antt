-- What is left of the journal leads to the same end.
use Rattle.kit.specs.Names.{length}
use Rattle.numbered.specs.Going.{going_table, SameGoing}
use Rattle.journal.specs.Replay.{replay_bytes}
use Rattle.entry_read.specs.Left.{entries_from}
use Rattle.replaying.proofs.GoingLaws.{Going}
use Rattle.replaying.proofs.replay.replay_valid.Given as goal

abbrev pub invariant-loop-entry : goal.invariant-loop-entry
invariant-loop-entry l =
    record {
      can_next : goal.iterator-loop-entry.can_next l.entry-iterator;
      is_finite : goal.iterator-loop-entry.is_finite l.entry-iterator;
      same_going : SameGoing l.initial.going l.going;
      left : Going (replay_bytes l.bytes (going_table l.initial.going)) (length l.bytes) l.place
          (entries_from l.entry-iterator.bytes.now l.entry-iterator.at) (going_table l.going);
    }
