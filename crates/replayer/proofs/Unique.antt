-- No two outcomes meet the contract of an exported replay. Assumes nothing.
use Rattle.std.specs.Prelude.{◌≡◌}
use Rattle.kit.specs.Names.{ℕ}
use Rattle.runs.specs.Served.{Host}
use Rattle.journal.specs.Entry.{Bytes}
use Rattle.host.specs.Host.{hosted}
use Rattle.host.proofs.Unique.{same_hosted}
use Rattle.replayer.specs.Replaying.{serve_replay}

pub only_one_replay : (h : Host) (bs : Bytes) (r r' : ℕ) (x y : Host) → hosted r x ≡ serve_replay h bs → hosted r' y ≡ serve_replay h bs
    → (r ≡ r') × (x ≡ y)
only_one_replay h bs r r' x y e f = same_hosted r r' x y e f
