-- A walk's effect in two parts: its old rows are logged, the nearest to the root first, and then parents are rewritten. The rows of
-- a path are distinct, so the memory afterwards is that of logging and writing row by row.
use Rattle.std.specs.Prelude.{◌∷◌}
use Rattle.kit.specs.Names.{List, [], ℕ}
use Rattle.rules.specs.declared.table.UndoLog.TheVariants.{SetElem}
use Rattle.rules.specs.Rules.{Rows, row_at, Memory, logged}

abbrev pub with_parents : Rows → List ℕ → Rows
with_parents rs ps = record { parents = ps; crowns = rs.crowns; amounts = rs.amounts }

-- Row `key` is logged as it stands.
abbrev pub saved : ℕ → Memory → Memory
saved key m = logged (SetElem key (row_at m.rows key)) m

-- All rows passed but the last, the nearest to the root first.
unfoldable pub saves : List ℕ → Memory → Memory
saves [] m = m
saves (key ∷ []) m = m
saves (key ∷ next ∷ passed) m = saved key (saves (next ∷ passed) m)
