-- Document 02, Q-1: "Night runs must rebuild a day." The calls of a day that were carried out have the same table and the same entries, and their
-- journal is replayed. Assumes nothing.
use Rattle.std.specs.Prelude.{◌≡◌, ◌&&◌, ◌∷◌, ◌++◌}
use Rattle.kit.specs.Names.{refl, ap, ◌∙◌, Bool, true, false, cond, List, [], length}
use Rattle.rules.specs.Rules.{Call, BAD-JOURNAL, NO-ROOM, Table, table, fresh, refusal, step}
use Rattle.history.specs.Demand.{Story, turn, tell, begin}
use Rattle.journal.specs.declared.entry.Entry.{Entry}
use Rattle.journal.specs.Journal.{Journal}
use Rattle.journal.specs.Replay.{replay_of, replay_from}
use Rattle.journal.specs.Written.{entry_for, written}
use Rattle.journal.specs.Record.{known, mismatched, too_long, Book, book, is_written, Recorded, recorded, written_down, record_step, record_all}
use Rattle.replays.specs.Replayed.{written_in_history, written_of, Gives}
use Rattle.replays.proofs.WrittenLaws.{told_entries}
use Rattle.replays.proofs.Theorem.{journal_replays}
use Rattle.records.specs.Records.{written_in, Night}
use Rattle.records.proofs.Theorem.{day}

-- ---- the calls that are carried out

-- A call and its outcome: it was turned away, or it was carried out.
data Passing (t : Table) (c : Call) : Recorded → Type 0 where
  turned : {o : Recorded} → o.table ≡ t → written c o.answer ≡ [] → Passing t c o
  passed : {o : Recorded} → o.table ≡ (step t c).table → o.answer ≡ (step t c).answer → Passing t c o

passing : (j : Book) (t : Table) (c : Call) → Passing t c (record_step j.bytes j.known t c)
unfolding record_step
passing j t c = go (mine && mismatched j.known t.state.«open») (mine && too_long 1 (length j.bytes) j.known)
  where
    mine : Bool
    mine = is_written (entry_for c)

    go : (x y : Bool)
        → Passing t c (cond x (recorded (refusal BAD-JOURNAL) t (book j.bytes j.known))
        (cond y (recorded (refusal NO-ROOM) t (book j.bytes j.known)) (written_down j.bytes j.known t c)))
    go true y = turned refl refl
    go false true = turned refl refl
    go false false = passed refl refl

-- Calls that, made on the table alone, leave the same and have the same written.
record Through (s : Story) (u : Table) (es : List Entry) : Type 0 where
  calls : List Call
  same : (tell s calls).table ≡ u
  as_written_lem : written_of s.table calls ≡ es

-- What calls lead to, through a book.
abbrev Lead : List Call → Book → Story → Type 0
Lead cs j s = let r = record_all j s.table cs in Through s r.table (written_in cs r.answers)

one_more : (cs : List Call) (c : Call) (s : Story) (o : Recorded) → Passing s.table c o → ((s' : Story) → Lead cs o.journal s')
    → let r = record_all o.journal o.table cs in Through s r.table (written c o.answer ++ written_in cs r.answers)
unfolding tell written_of
one_more cs c s o (turned e w) rest = rw (e, w) (rest s)
one_more cs c s o (passed e a) rest =
    let T = rest (turn s c) in
    rw (e, a) (record {
      calls = c ∷ T.calls;
      same = T.same;
      as_written_lem = ap (λ (x : List Entry). written c (step s.table c).answer ++ x) T.as_written_lem;
    })

through : (cs : List Call) (j : Book) (s : Story) → Lead cs j s
unfolding record_all written_in tell written_of
through [] j s = record { calls = []; same = refl; as_written_lem = refl }
through (c ∷ cs) j s =
    let o = record_step j.bytes j.known s.table c in
    one_more cs c s o (passing j s.table c) (through cs o.journal)

-- ---- the night

pub night : Night
unfolding written_in_history
night bs rs l rows log_room lent cs f rs' l' rows' log-room' lent' more room =
    let j = book bs (known 0 0 0 0) in
    let r = record_all j (table rs l fresh) cs in
    let es = written_in cs r.answers in
    let T = through cs j (begin rs l) in
    let e : written_in_history (tell (begin rs l) T.calls).past ≡ es = told_entries T.calls (begin rs l) ∙ T.as_written_lem in
    let R = journal_replays rs l rows log_room lent T.calls in
    let replayed = ap (λ (x : Journal). replay_of x (table rs' l' fresh)) (day bs (table rs l fresh) refl cs f).1 in
    let G : Gives (replay_from 0 (table rs' l' fresh) es) (length es) r.table =
    rw (← e, ← T.same) (R.gives rs' l' rows' log-room' lent' more (rw e room)) in
    rw replayed G
