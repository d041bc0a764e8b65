-- Where the lent parts fit one another, every row and every entry lies within them. Assumes nothing.
use Rattle.std.specs.Prelude.{◌≡◌, ◌*◌, ◌≤◌, ◌<◌}
use Rattle.kit.specs.Names.{ℕ, length, arith}
use Rattle.rules.specs.Rules.{CROWN, ENTRY, MAX-ENTRIES, Rows, Log}
use Rattle.parts.specs.Bounds.{InRows, Even, InLog}

pub in_rows : (rs : Rows) (i : ℕ) → length rs.crowns ≡ length rs.parents * CROWN → length rs.amounts ≡ length rs.parents → i < length rs.parents
    → InRows i rs
in_rows rs i c a h = omega (arith, c, a, h)

pub in_log : (l : Log) (u n : ℕ) → length l ≡ n * ENTRY → n ≤ MAX-ENTRIES → u < n → InLog u l
in_log l u n q m h = omega (arith, q, m, h)

pub even_row : (rs : Rows) (count i : ℕ) → Even count rs → i < count → InRows i rs
even_row rs count i e h = omega (arith, e, h)
