-- Document 02, Q-1: a call carried out and written. "Exactly the DONE calls of these six kinds are written, in order." Entries wait
-- behind the journal's bytes until their segment is ended by a trailer: at the 2048th, or when it is asked for.
use Rattle.std.specs.Prelude.{◌≡◌, ◌&&◌, ◌||◌, ◌∷◌, ◌+◌, ◌*◌}
use Rattle.kit.specs.Names.{Bool, false, true, cond, not, List, [], ℕ, suc, sets, length, eqb, leb, ltb}
use Rattle.rules.specs.Rules.{Call, Answer, WORD, DONE, Table, refusal, step, BAD-JOURNAL, NO-ROOM}
use Rattle.journal.specs.declared.entry.Entry.{Entry}
use Rattle.journal.specs.declared.known.Known.{Known}
use Rattle.journal.specs.declared.known.Book as declared_book
use Rattle.journal.specs.Numbers.{ENTRY-BYTES, TRAILER-BYTES, SEGMENT}
use Rattle.journal.specs.Entry.{Bytes, entry_bytes}
use Rattle.journal.specs.Journal.{trailer_bytes, trailer_of}
use Rattle.journal.specs.Written.{entry_for, written}

abbrev pub known : ℕ → ℕ → ℕ → ℕ → Known
known used segments opened waiting = record { used = used; segments = segments; «open» = opened; waiting = waiting }

-- ---- where the next entry goes

-- The end of the waiting entries.
abbrev pub next_place : Known → ℕ
next_place k = k.used + ENTRY-BYTES * k.waiting

-- What is known can't be of a journal to which the calls of a table with so many open snapshots are written: as many are open in both,
-- the segment that waits isn't full, and its number is one of 32 bits.
abbrev pub mismatched : Known → ℕ → Bool
mismatched k opened = not (eqb k.«open» opened) || leb SEGMENT k.waiting || leb WORD k.segments

-- With so many entries more and a trailer the journal is longer than a buffer of this length.
abbrev pub too_long : ℕ → ℕ → Known → Bool
too_long more long k = ltb long (next_place k + ENTRY-BYTES * more + TRAILER-BYTES)

-- ---- segments

-- What is lent of the journal, and what is known of it.
pub record Book : Type 0 where
  pub bytes : Bytes
  pub known : Known

abbrev pub book : Bytes → Known → Book
book bs k = record { bytes = bs; known = k }

-- The same of a journal that is lent with what is known of it, and that it is the same buffer still.
abbrev pub book_in : declared_book.Book → Book
book_in j = book j.bytes.now j.known

abbrev pub SameBook : declared_book.Book → declared_book.Book → Type 0
SameBook j j' = j.bytes.ghost_name ≡ j'.bytes.ghost_name

-- The waiting entries made a segment.
abbrev pub sealed : Bytes → Known → Book
sealed bs k =
    book (sets bs (next_place k) (trailer_bytes (trailer_of k.segments k.waiting)))
    (known (next_place k + TRAILER-BYTES) (suc k.segments) k.«open» 0)

-- Every 2,048 of them are a segment by themselves.
abbrev pub sealed_if_full : Bytes → Known → Book
sealed_if_full bs k = cond (ltb k.waiting SEGMENT) (book bs k) (sealed bs k)

-- Entries put down, of which there is at most one, when so many snapshots are open.
abbrev pub put_down : Bytes → Known → List Entry → ℕ → Book
put_down bs k [] opened = book bs k
put_down bs k (e ∷ es) opened = sealed_if_full (sets bs (next_place k) (entry_bytes e)) (known k.used k.segments opened (suc k.waiting))

-- ---- a call

pub record Recorded : Type 0 where
  pub answer : Answer
  pub table : Table
  pub journal : Book

abbrev pub recorded : Answer → Table → Book → Recorded
recorded a t j = record { answer = a; table = t; journal = j }

abbrev pub is_written : List Entry → Bool
is_written [] = false
is_written (e ∷ es) = true

-- A call that is not carried out.
abbrev pub turned_away : Bool → ℕ → Bytes → Known → Table → Recorded → Recorded
turned_away test n bs k t rest = cond test (recorded (refusal n) t (book bs k)) rest

abbrev pub written_down : Bytes → Known → Table → Call → Recorded
written_down bs k t c =
    let o = step t c in
    recorded o.answer o.table (put_down bs k (written c o.answer) o.table.state.«open»)

unfoldable pub record_step : Bytes → Known → Table → Call → Recorded
record_step bs k t c =
    let mine = is_written (entry_for c) in
    turned_away (mine && mismatched k t.state.«open») BAD-JOURNAL bs k t
    (turned_away (mine && too_long 1 (length bs) k) NO-ROOM bs k t (written_down bs k t c))

-- ---- calls one after the other

pub record RecordedAll : Type 0 where
  pub answers : List Answer
  pub table : Table
  pub journal : Book

abbrev pub recorded_all : List Answer → Table → Book → RecordedAll
recorded_all answers t j = record { answers = answers; table = t; journal = j }

unfoldable pub record_all : Book → Table → List Call → RecordedAll
record_all j t [] = recorded_all [] t j
record_all j t (c ∷ cs) =
    let o = record_step j.bytes j.known t c in
    let r = record_all o.journal o.table cs in
    recorded_all (o.answer ∷ r.answers) r.table r.journal

-- ---- a segment asked for

-- The waiting entries as a segment, if there are any. 12 where they can't be this journal's.
pub record Flushed : Type 0 where
  pub no : ℕ
  pub journal : Book

abbrev pub flushed : ℕ → Book → Flushed
flushed n j = record { no = n; journal = j }

abbrev pub flush : Bytes → Known → Flushed
flush bs k =
    cond (eqb k.waiting 0) (flushed DONE (book bs k))
    (cond (ltb SEGMENT k.waiting || leb WORD k.segments || too_long 0 (length bs) k) (flushed BAD-JOURNAL (book bs k))
    (flushed DONE (sealed bs k)))
