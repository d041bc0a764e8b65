-- Laws of a line gathered. Assumes nothing.
use Rattle.std.specs.Prelude.{◌≡◌}
use Rattle.kit.specs.Names.{ap, Bool, List, ℕ, take, drop}
use Rattle.reading.specs.declared.read.Reading.{Reading}
use Rattle.lines.specs.Lines.{Reached, line, gathering}
use Rattle.reading.specs.Taking.{ends_at, line_number, reaching, Took, took, taking}

-- ---- a line gathered

pub gathered : (s : Reading) (b input : List ℕ) (g : Reached) (ended : Bool) (number : ℕ)
    → g ≡ gathering s.from (line b s.kept.n s.kept.overlong) (drop s.from (take s.count input)) → ended ≡ ends_at s.more g
    → number ≡ line_number s.line ended → took (reaching s g ended number) g.line.buffer ≡ taking s b input
gathered s b input g ended number k e l =
    rw (l, e)
    (ap {B = Took}
    (λ (r : Reached). took (reaching s r (ends_at s.more r) (line_number s.line (ends_at s.more r))) r.line.buffer) k)
