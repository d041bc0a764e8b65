-- The same entries are left.
use Rattle.std.specs.Prelude.{◌-◌}
use Rattle.kit.specs.Names.{length}
use Rattle.entry_read.specs.Left.{entries_from}
use Rattle.entry_read.proofs.LeftLaws.{Leaves}
use Rattle.entry_read.proofs.walk.past_trailers.Given as goal

abbrev pub invariant-loop-at : goal.invariant-loop-at
invariant-loop-at l = Leaves l.bytes l.at (entries_from l.bytes l.from)

abbrev pub decreases-loop-at : goal.decreases-loop-at
decreases-loop-at l = length l.bytes - l.at
