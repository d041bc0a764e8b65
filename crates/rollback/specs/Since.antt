-- The entries since a snapshot: that they lie in what is lent, and what one of them means for those before it.
use Rattle.std.specs.Prelude.{◌||◌, ◌∷◌, ◌+◌, ◌<◌, Option, None, Some}
use Rattle.kit.specs.Names.{Bool, false, not, cond, List, [], ℕ, eqb, ltb}
use Rattle.rules.specs.Rules.{Head, Mark, UndoLog, Rows, Log, unfit, since, undoable}
use Rattle.rules.specs.declared.table.UndoLog.TheVariants.{NewElem, SetElem, Unknown}
use Rattle.parts.specs.Bounds.{InLog, Undoing}

-- all used entries are entries of the log
abbrev pub Logged : ℕ → Log → Type 0
Logged used l = (i : ℕ) → i < used → InLog i l

-- every row that the entries change is a row
unfoldable pub Reversible : Rows → List UndoLog → Type 0
Reversible rs [] = Unit {0}
Reversible rs (e ∷ es) = Undoing e rs × Reversible rs es

-- a rollback's BROKEN_TABLE
unfoldable pub broken : Head → Mark → Log → Bool
broken h m l = unfit h m || not (undoable m.keys h.count (since l h m))

-- ---- `undoable`, entry by entry

-- an entry can be undone where `count` keys are left
abbrev pub allowed : UndoLog → ℕ → Bool
allowed (NewElem key) count = eqb (key + 1) count
allowed (SetElem key old) count = ltb key count
allowed Unknown count = false

-- the keys that are left once it is
abbrev pub count_before : UndoLog → ℕ → ℕ
count_before (NewElem key) count = key
count_before (SetElem key old) count = count
count_before Unknown count = count

-- both of it
abbrev pub reached_before : UndoLog → ℕ → Option ℕ
reached_before e count = cond (allowed e count) (Some (count_before e count)) None
