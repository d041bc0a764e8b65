-- Document 02, Q-1: "Add an append-only journal. .. Exactly the DONE calls of these six kinds are written, in order."
use Rattle.std.specs.Prelude.{◌≡◌, ◌∷◌, ◌++◌, ◌*◌, ◌≤◌}
use Rattle.kit.specs.Names.{List, [], ℕ, take, length}
use Rattle.rules.specs.Rules.{Call, Answer, DONE, Rows, Log, Table, table, fresh}
use Rattle.groups.specs.Stands.{Lends}
use Rattle.groups.specs.Acceptance.{MOST-LOGGED}
use Rattle.journal.specs.declared.entry.Entry.{Entry}
use Rattle.journal.specs.Entry.{Bytes, AllProper}
use Rattle.journal.specs.Journal.{journal, journal_of}
use Rattle.journal.specs.Written.{entry_for, written}
use Rattle.journal.specs.Replay.{replay_bytes}
use Rattle.journal.specs.Record.{known, Book, book, record_all, flush}
use Rattle.replays.specs.Replayed.{Gives}
use Rattle.records.specs.Knows.{Knows, Onto}

-- ---- calls and their answers

-- What is written of calls and their answers, the first one first.
unfoldable pub written_in : List Call → List Answer → List Entry
written_in [] answers = []
written_in (c ∷ cs) [] = []
written_in (c ∷ cs) (a ∷ answers) = written c a ++ written_in cs answers

-- "each 32 bits, amount 64 bits": calls whose numbers have so many.
pub data AllFit : List Call → Type 0 where
  none : AllFit []
  fit : {c : Call} {cs : List Call} → AllProper (entry_for c) → AllFit cs → AllFit (c ∷ cs)

-- ---- the promise

-- From entries `es` in the book, those in it now are the same and then `new`, in order, some in segments and some waiting.
pub record Writes (j : Book) (es new : List Entry) (j' : Book) : Type 0 where
  pub inside : List Entry
  pub waiting : List Entry
  pub knows : Knows j'.bytes j'.known inside waiting
  pub exactly : inside ++ waiting ≡ es ++ new
  pub onto : Onto j j'

-- Any list of calls on any table whatever, the book knowing how many snapshots are open in it: what was there is left, and behind it
-- exactly the DONE calls of the six kinds are written.
abbrev pub ExactlyWritten : Type 0
ExactlyWritten =
    (j : Book) (t : Table) (es ws : List Entry) → Knows j.bytes j.known es ws → j.known.«open» ≡ t.state.«open»
    → (cs : List Call) → AllFit cs
    → let r = record_all j t cs in
    Writes j (es ++ ws) (written_in cs r.answers) r.journal × (r.journal.known.«open» ≡ r.table.state.«open»)

-- A segment asked for is made: the journal has all entries, and none waits.
pub record Complete (j : Book) (es : List Entry) (no : ℕ) (j' : Book) : Type 0 where
  pub done : no ≡ DONE
  pub none_waits : j'.known.waiting ≡ 0
  pub is : journal_of (take j'.known.used j'.bytes) ≡ journal j'.known.segments es
  pub onto : Onto j j'

abbrev pub AllFlushed : Type 0
AllFlushed =
    (j : Book) (es ws : List Entry) → Knows j.bytes j.known es ws
    → let f = flush j.bytes j.known in Complete j (es ++ ws) f.no f.journal

-- ---- a day, and the night after it

-- A day: calls on a table where nothing is open, written to a buffer that holds anything, and a segment asked for at the end.
abbrev pub Day : Type 0
Day =
    (bs : Bytes) (t : Table) → t.state.«open» ≡ 0 → (cs : List Call) → AllFit cs
    → let r = record_all (book bs (known 0 0 0 0)) t cs in
    let f = flush r.journal.bytes r.journal.known in
    (f.no ≡ DONE)
    × (journal_of (take f.journal.known.used f.journal.bytes) ≡ journal f.journal.known.segments (written_in cs r.answers))

-- "Night runs must rebuild a day": the journal of a day on a fresh table, replayed "into a fresh table with as many rows, and log room of 32
-- for each entry", gives the same.
abbrev pub Night : Type 0
Night =
    (bs : Bytes) (rs : Rows) (l : Log) (rows log_room : ℕ) → Lends rs l rows log_room → (cs : List Call) → AllFit cs
    → (rs' : Rows) (l' : Log) (rows' log-room' : ℕ) → Lends rs' l' rows' log-room' → rows ≤ rows'
    → let r = record_all (book bs (known 0 0 0 0)) (table rs l fresh) cs in
    let f = flush r.journal.bytes r.journal.known in
    let es = written_in cs r.answers in
    MOST-LOGGED * length es ≤ log-room'
    → Gives (replay_bytes (take f.journal.known.used f.journal.bytes) (table rs' l' fresh)) (length es) r.table
