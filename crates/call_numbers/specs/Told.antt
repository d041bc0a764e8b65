-- Four numbers that tell a call: read back, they are it.
use Rattle.std.specs.Prelude.{◌≡◌}
use Rattle.kit.specs.Names.{true, List, ℕ}
use Rattle.rules.specs.Rules.{Call}
use Rattle.coding.specs.Coding.{is_asked, asked_at, call_at}

pub record Told (ns : List ℕ) (c : Call) : Type 0 where
  pub asked : is_asked (asked_at ns 0) ≡ true
  pub call : call_at ns 0 ≡ c
