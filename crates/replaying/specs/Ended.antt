-- What replay comes to, of its parts.
use Rattle.kit.specs.Names.{ℕ}
use Rattle.rules.specs.Rules.{Table}
use Rattle.journal.specs.Replay.{Replayed}

abbrev pub replayed_by : ℕ → ℕ → Table → Replayed
replayed_by n place t = record { no = n; entry = place; table = t }
