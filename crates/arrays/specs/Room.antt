-- How much can be lent, and numbers put into a part.
use Rattle.std.specs.Prelude.{◌&&◌, ◌++◌, ◌-◌, ◌*◌}
use Rattle.kit.specs.Names.{Bool, List, ℕ, take, drop, replicate, leb, sets}
use Rattle.rules.specs.Rules.{CROWN, ENTRY}
use Rattle.commands.specs.declared.command.Lengths.{Lengths}

-- "Before the first `table`, a table of 0 rows and 0 entries is lent."
abbrev pub nothing : Lengths
nothing = record { parents = 0; crowns = 0; amounts = 0; log = 0 }

-- "so many rows and entries lent"
abbrev pub evenly : ℕ → ℕ → Lengths
evenly rows entries = record { parents = rows; crowns = rows * CROWN; amounts = rows; log = entries * ENTRY }

-- As much as the program has (docs/METER.md).
abbrev pub MOST : Lengths
MOST = evenly 65600 131072

abbrev pub room_for : Lengths → Bool
room_for n =
    leb n.parents MOST.parents && (leb n.crowns MOST.crowns && (leb n.amounts MOST.amounts && leb n.log MOST.log))

-- "write what has a place": numbers put from a place of what is lent on; those past its end are written nowhere
abbrev pub put_lent : {A : Type 0} → ℕ → List A → ℕ → List A → List A
put_lent n l at numbers = sets (take n l) at numbers ++ drop n l

-- one number from an old length up to a new one
abbrev pub overwritten : {A : Type 0} → ℕ → ℕ → List A → A → List A
overwritten from to l number = sets l from (replicate (to - from) number)

-- "what is new is 0"
abbrev pub zeroed : ℕ → ℕ → List ℕ → List ℕ
zeroed from to l = overwritten from to l 0
