-- How a function's contract speaks of rows that are logged as they are written: at entry and at exit.
use Rattle.std.specs.Prelude.{◌≡◌}
use Rattle.rules.specs.Rules.{Memory, memory_in, SameParts}
use Rattle.snapshot_vec.specs.declared.update.SnapshotVec.{SnapshotVec}

-- The rows, the log and how much of it is used.
abbrev pub memory_by : SnapshotVec → Memory
memory_by v = memory_in v.lent.now v.opened v.used

-- The lent parts are the same ones still: by this a caller knows that what is left behind them is left in its own.
abbrev pub SameVec : SnapshotVec → SnapshotVec → Type 0
SameVec v v' = (v.lent.ghost_name ≡ v'.lent.ghost_name) × SameParts v.lent.now v'.lent.now
