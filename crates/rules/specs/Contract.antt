-- How a function's contract speaks of a table: over what the four lent parts hold, at entry or at exit.
use Rattle.std.specs.Prelude.{◌≡◌}
use Rattle.kit.specs.Names.{List, ℕ}
use Rattle.rules.specs.declared.call.Answered.{Answered}
use Rattle.rules.specs.declared.table.State.{State}
use Rattle.rules.specs.declared.table.Lent.{Lent}
use Rattle.rules.specs.declared.table.Seen.{Seen}
use Rattle.rules.specs.Lent.{Rows, Log, Table, table}
use Rattle.rules.specs.Write.{Memory, memory}
use Rattle.rules.specs.Refusal.{Outcome, outcome}

abbrev pub rows_lent : List ℕ → List ℕ → List ℕ → Rows
rows_lent p c a = record { parents = p; crowns = c; amounts = a }

-- The memory, over the open snapshots and the used log; and the table, over the state.
abbrev pub memory_lent : List ℕ → List ℕ → List ℕ → List ℕ → ℕ → ℕ → Memory
memory_lent p c a l = memory (rows_lent p c a) l

abbrev pub table_lent : List ℕ → List ℕ → List ℕ → List ℕ → State → Table
table_lent p c a l = table (rows_lent p c a) l

-- ---- the same of the parts as one

-- The rows and the log of what is lent; the memory, over the open snapshots and the used log; and the table, over the state.
abbrev pub rows_in : Lent → Rows
rows_in t = rows_lent t.parents.now t.crowns.now t.amounts.now

abbrev pub log_in : Lent → Log
log_in t = t.log.now

abbrev pub memory_in : Lent → ℕ → ℕ → Memory
memory_in t = memory (rows_in t) (log_in t)

abbrev pub table_in : Lent → State → Table
table_in t = table (rows_in t) (log_in t)

-- The rows, the log and the table of parts that are only read.
abbrev pub rows_seen : Seen → Rows
rows_seen t = rows_lent t.parents.now t.crowns.now t.amounts.now

abbrev pub log_seen : Seen → Log
log_seen t = t.log.now

abbrev pub table_seen : Seen → State → Table
table_seen t = table (rows_seen t) (log_seen t)

-- The four references are the same ones still: by this a caller knows that what is left behind them is left in its own parts.
abbrev pub SameParts : Lent → Lent → Type 0
SameParts t t' =
    (t.parents.ghost_name ≡ t'.parents.ghost_name)
    × (t.crowns.ghost_name ≡ t'.crowns.ghost_name)
    × (t.amounts.ghost_name ≡ t'.amounts.ghost_name)
    × (t.log.ghost_name ≡ t'.log.ghost_name)

-- ---- what is answered

-- What a public function answers, over what it leaves in the lent slices.
abbrev pub outcome_of : Answered → (State → Table) → Outcome
outcome_of r t = outcome r.answer (t r.state)
