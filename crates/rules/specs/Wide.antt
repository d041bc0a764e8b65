-- Lent parts that fit one another: room for so many rows, and for so many entries.
use Rattle.std.specs.Prelude.{◌≡◌, ◌*◌}
use Rattle.kit.specs.Names.{ℕ, length}
use Rattle.rules.specs.Numbers.{CROWN, ENTRY}
use Rattle.rules.specs.Lent.{Rows, Log}

-- Each of n rows has its parent, its crown and its amount.
pub record WideRows (rs : Rows) (n : ℕ) : Type 0 where
  pub parents : length rs.parents ≡ n
  pub crowns : length rs.crowns ≡ n * CROWN
  pub amounts : length rs.amounts ≡ n

abbrev pub WideLog : Log → ℕ → Type 0
WideLog l n = length l ≡ n * ENTRY
