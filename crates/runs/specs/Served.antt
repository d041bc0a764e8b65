-- All the lists that the host lends, and what calls that are carried out leave of them.
use Rattle.kit.specs.Names.{List, ℕ, sets}
use Rattle.rules.specs.declared.table.Lent.{Lent}
use Rattle.rules.specs.Rules.{Call, Rows, Log, Table, table, rows_lent, rows_in, log_in}
use Rattle.layout.specs.declared.state.LentState.{LentState}
use Rattle.layout.specs.State.{state_of, state_numbers, state_serials}
use Rattle.coding.specs.Answers.{answers_numbers}
use Rattle.runs.specs.Run.{run}

-- All that is lent and can be written.
pub record Host : Type 0 where
  pub numbers : List ℕ
  pub serials : List ℕ
  pub rows : Rows
  pub log : Log
  pub answers : List ℕ

abbrev pub host : List ℕ → List ℕ → Rows → Log → List ℕ → Host
host ns ss rs l answers = record { numbers = ns; serials = ss; rows = rs; log = l; answers = answers }

-- The table that is lent.
abbrev pub table_of : Host → Table
table_of h = table h.rows h.log (state_of h.numbers h.serials)

-- Calls carried out: what they leave of the table, and their answers from the first place on.
unfoldable pub served : Host → List Call → Host
served h cs =
    let r = run (table_of h) cs in
    let s = r.table.state in
    host (state_numbers s) (state_serials s) r.table.rows r.table.log (sets h.answers 0 (answers_numbers r.answers))

-- All that is lent, of what the slices hold.
abbrev pub host_lent : List ℕ → List ℕ → List ℕ → List ℕ → List ℕ → List ℕ → List ℕ → Host
host_lent ns ss p c a l answers = host ns ss (rows_lent p c a) l answers

-- The same of the lent state and the lent parts as structs.
abbrev pub host_in : LentState → Lent → List ℕ → Host
host_in s t answers = host s.numbers.now s.serials.now (rows_in t) (log_in t) answers
