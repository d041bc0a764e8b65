-- What is written to rows, and what is logged of it: document 01, "Rules of the rows" and "Rules of the log and the tokens".
use Rattle.std.specs.Prelude.{◌∷◌, ◌+◌, ◌-◌}
use Rattle.kit.specs.Names.{Bool, false, cond, List, [], ℕ, eqb, ltb}
use Rattle.rules.specs.declared.table.Value.{Value}
use Rattle.rules.specs.declared.table.Row.{Row}
use Rattle.rules.specs.declared.table.UndoLog.{UndoLog}
use Rattle.rules.specs.declared.table.UndoLog.TheVariants.{NewElem, SetElem}
use Rattle.rules.specs.Lent.{Rows, Log, Table, table, entries, row, value_of, row_at, put_row, put_entry, head, with_head}

-- A row is redirected, and keeps all else; or a root gets a rank and a value, and keeps its parent.
pub data Write : Type 0 where
  redirect : ℕ → ℕ → Write
  crown : ℕ → ℕ → Value → Write

abbrev pub place : Write → ℕ
place (redirect key root) = key
place (crown key rank v) = key

abbrev pub edit : Write → Row → Row
edit (redirect key root) r = row root r.rank (value_of r)
edit (crown key rank v) r = row r.parent rank v

abbrev pub write : Rows → Write → Rows
write rs w = put_row rs (place w) (edit w (row_at rs (place w)))

unfoldable pub writes : Rows → List Write → Rows
writes rs [] = rs
writes rs (w ∷ ws) = writes (write rs w) ws

-- ---- the log

-- What writing rows can change: the rows, the log and how much of it is used. It stays as it is how many snapshots are open.
pub record Memory : Type 0 where
  pub rows : Rows
  pub log : Log
  pub opened : ℕ
  pub used : ℕ

abbrev pub memory : Rows → Log → ℕ → ℕ → Memory
memory rs l o u = record { rows = rs; log = l; opened = o; used = u }

abbrev pub memory_of : Table → Memory
memory_of t = memory t.rows t.log t.state.«open» t.state.used

abbrev pub with_memory : Table → Memory → Table
with_memory t m = table m.rows m.log (with_head t.state (head t.state.count m.used t.state.«open»))

-- "With none open nothing is logged."
abbrev pub logged : UndoLog → Memory → Memory
logged e m =
    memory m.rows (cond (eqb m.opened 0) m.log (put_entry m.log m.used e)) m.opened
    (cond (eqb m.opened 0) m.used (m.used + 1))

-- "With a snapshot open, each row written first logs its old row", "Equal old and new rows are logged too."
abbrev pub put : Memory → Write → Memory
put m w =
    let l = logged (SetElem (place w) (row_at m.rows (place w))) m in
    memory (write m.rows w) l.log l.opened l.used

-- A new key's row: "a new key logs its index". All four numbers of the row are written, whatever they held (docs/DECISIONS.md, 14).
abbrev pub push : Memory → ℕ → Row → Memory
push m key r =
    let l = logged (NewElem key) m in
    memory (put_row m.rows key r) l.log l.opened l.used

unfoldable pub puts : Memory → List Write → Memory
puts m [] = m
puts m (w ∷ ws) = puts (put m w) ws

-- LOG_FULL: "a snapshot is open and the entries this call would log exceed the free ones"
abbrev pub full : Memory → ℕ → Bool
full m n = cond (eqb m.opened 0) false (ltb (entries m.log - m.used) n)
