-- Document 02, Q-1: "Exactly the DONE calls of these six kinds are written, in order. .. Replayed into a fresh table with as many rows,
-- and log room of 32 for each entry, where 01's limit allows that, it gives the same key count, roots, root ranks, owners and amounts."
use Rattle.std.specs.Prelude.{◌≡◌, ◌∷◌, ◌++◌, ◌+◌, ◌*◌, ◌≤◌}
use Rattle.kit.specs.Names.{true, List, [], ℕ, zero, suc, length}
use Rattle.rules.specs.Rules.{Call, DONE, MAX-U64, Rows, Log, Table, table, fresh, entries, Outcome, step}
use Rattle.rules.specs.declared.call.Call.TheVariants.{Rollback}
use Rattle.groups.specs.Shown.{groups_of, Same}
use Rattle.groups.specs.Track.{History}
use Rattle.groups.specs.Stands.{Lends}
use Rattle.groups.specs.Acceptance.{MOST-LOGGED}
use Rattle.history.specs.Demand.{Story, tell, begin}
use Rattle.journal.specs.declared.entry.Entry.{Entry}
use Rattle.journal.specs.Journal.{orderly}
use Rattle.journal.specs.Written.{written}
use Rattle.journal.specs.Replay.{innermost_token, Replayed, replay_from}

-- ---- what is written

-- Of a history, the first entry first.
unfoldable pub written_in_history : History → List Entry
written_in_history [] = []
written_in_history (e ∷ h) = written_in_history h ++ written e.call e.answer

-- Of calls made one after the other on a table.
unfoldable pub written_of : Table → List Call → List Entry
written_of t [] = []
written_of t (c ∷ cs) = written c (step t c).answer ++ written_of (step t c).table cs

-- ---- "rollback of what is still open gives the same again" (Q-11): rollbacks, one by one, of the innermost

abbrev pub rolled_back_once : Table → Outcome
rolled_back_once t = step t (Rollback (innermost_token t.state))

-- The table after so many of them, and that each is answered DONE.
unfoldable pub unwound : ℕ → Table → Table
unwound zero t = t
unwound (suc k) t = unwound k (rolled_back_once t).table

unfoldable pub Unwinds : ℕ → Table → Type 0
Unwinds zero t = Unit {0}
Unwinds (suc k) t = ((rolled_back_once t).answer.no ≡ DONE) × Unwinds k (rolled_back_once t).table

-- ---- room to replay

-- A table with so many rows at least, and room for n entries: each logs at most 32, and takes at most one serial.
pub record RoomFor (rows n : ℕ) (t : Table) : Type 0 where
  pub row_room : rows ≤ length t.rows.parents
  pub log_room : t.state.used + MOST-LOGGED * n ≤ entries t.log
  pub serials : t.state.last + n ≤ MAX-U64

-- ---- the promise

-- "it gives the same key count, roots, root ranks, owners and amounts": what replay of n entries came to, against the table t.
pub record Gives (r : Replayed) (n : ℕ) (t : Table) : Type 0 where
  -- every entry is answered DONE
  pub no : r.no ≡ DONE
  pub entry : r.entry ≡ n
  pub same : Same (groups_of r.table) (groups_of t)
  -- as many snapshots are open, and rolling them back gives the same again
  pub opened : r.table.state.«open» ≡ t.state.«open»
  pub unwinds : (k : ℕ) → k ≤ t.state.«open» → Unwinds k r.table × Unwinds k t
  pub same_unwound : (k : ℕ) → k ≤ t.state.«open» → Same (groups_of (unwound k r.table)) (groups_of (unwound k t))

-- What any sequence of calls has written is in order, as a journal's entries must be; and replayed "into a fresh table with as many
-- rows, and log room of 32 for each entry", whatever the rows and the log hold, it gives that. Where 01's limit doesn't allow so much
-- log, no table is lent that has it.
pub record Replays (s : Story) (rows : ℕ) (es : List Entry) : Type 0 where
  pub ordered : orderly 0 es ≡ true
  pub gives : (rs : Rows) (l : Log) (rows' log_room : ℕ) → Lends rs l rows' log_room → rows ≤ rows'
      → MOST-LOGGED * length es ≤ log_room
      → Gives (replay_from 0 (table rs l fresh) es) (length es) s.table

abbrev pub JournalReplays : Type 0
JournalReplays =
    (rs : Rows) (l : Log) (rows log_room : ℕ) → Lends rs l rows log_room → (cs : List Call)
    → Replays (tell (begin rs l) cs) rows (written_in_history (tell (begin rs l) cs).past)
