-- All that is lent for calls that are written: the host's lists, and the journal with what is known of it.
use Rattle.kit.specs.Names.{List, ℕ, sets}
use Rattle.rules.specs.Rules.{Call}
use Rattle.layout.specs.State.{state_numbers, state_serials}
use Rattle.coding.specs.Answers.{answers_numbers}
use Rattle.journal.specs.Record.{Book, record_all}
use Rattle.runs.specs.Served.{Host, host, table_of}

pub record Lent : Type 0 where
  pub host : Host
  pub journal : Book

abbrev pub lent : Host → Book → Lent
lent h j = record { host = h; journal = j }

-- Calls carried out and written: what they leave of the table and the journal, and their answers from a place on.
unfoldable pub recorded_from : ℕ → Host → Book → List Call → Lent
recorded_from to h j cs =
    let r = record_all j (table_of h) cs in
    let s = r.table.state in
    lent (host (state_numbers s) (state_serials s) r.table.rows r.table.log (sets h.answers to (answers_numbers r.answers))) r.journal
