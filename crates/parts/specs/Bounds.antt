-- What the leaves ask of their callers: that an index lies within what is lent.
use Rattle.std.specs.Prelude.{◌≡◌, ◌+◌, ◌*◌, ◌≤◌, ◌<◌}
use Rattle.kit.specs.Names.{ℕ, length}
use Rattle.rules.specs.Rules.{UndoLog, CROWN, ENTRY, MAX-ENTRIES, Rows, Log}
use Rattle.rules.specs.declared.table.UndoLog.TheVariants.{NewElem, SetElem, Unknown}

-- i is a row
pub record InRows (i : ℕ) (rs : Rows) : Type 0 where
  pub parents : i < length rs.parents
  pub crowns : i * CROWN + CROWN ≤ length rs.crowns
  pub amounts : i < length rs.amounts

-- the first `count` rows are within all parts
pub record Even (count : ℕ) (rs : Rows) : Type 0 where
  pub parents : count ≤ length rs.parents
  pub crowns : count * CROWN ≤ length rs.crowns
  pub amounts : count ≤ length rs.amounts

-- u is an entry of the log
pub record InLog (u : ℕ) (l : Log) : Type 0 where
  pub words : u * ENTRY + ENTRY ≤ length l
  pub limit : u < MAX-ENTRIES

-- where a snapshot is open, u is an entry of the log
abbrev pub Loggable : ℕ → ℕ → Log → Type 0
Loggable opened u l = (opened ≡ 0 → ⊥) → InLog u l

-- a changed row to be undone is a row
abbrev pub Undoing : UndoLog → Rows → Type 0
Undoing (NewElem key) rs = Unit {0}
Undoing (SetElem key old) rs = InRows key rs
Undoing Unknown rs = Unit {0}
