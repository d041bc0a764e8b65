-- The outcomes of the exported functions that write a journal or judge one, over all the lists that the host lends.
use Rattle.kit.specs.Names.{cond, List, ℕ, length, eqb}
use Rattle.rules.specs.Rules.{DONE, BAD-JOURNAL}
use Rattle.coding.specs.Coding.{Listed, calls_in}
use Rattle.journal.specs.Entry.{Bytes}
use Rattle.journal.specs.Journal.{valid}
use Rattle.journal.specs.Append.{append}
use Rattle.journal.specs.Record.{book, flush}
use Rattle.admit.specs.Admit.{CARRIED-OUT}
use Rattle.results.specs.Results.{result_numbers, room_admission}
use Rattle.known_numbers.specs.Known.{known_in, known_numbers}
use Rattle.known_numbers.specs.Tests.{record_admission, flush_admission, known_admission}
use Rattle.counting.specs.Counted.{known_of}
use Rattle.runs.specs.Served.{Host}
use Rattle.record_list.specs.Lent.{recorded_from}

-- A code, and all that is lent as it is left.
pub record Returned (A : Type 0) : Type 0 where
  pub code : ℕ
  pub lent : A

abbrev pub returned : {A : Type 0} → ℕ → A → Returned A
returned n x = record { code = n; lent = x }

-- What is returned decides: nothing at all is written but where it is CARRIED-OUT.
abbrev pub decided : {A : Type 0} → ℕ → A → A → Returned A
decided n before after = returned n (cond (eqb n CARRIED-OUT) after before)

-- ---- a list of calls that are written

pub record RecordLent : Type 0 where
  pub host : Host
  pub journal : Bytes
  pub known : List ℕ

abbrev pub record_lent : Host → Bytes → List ℕ → RecordLent
record_lent h bs ks = record { host = h; journal = bs; known = ks }

abbrev pub record_served : RecordLent → Listed → RecordLent
record_served m l =
    let r = recorded_from 0 m.host (book m.journal (known_in m.known)) (calls_in l) in
    record_lent r.host r.journal.bytes (known_numbers r.journal.known)

unfoldable pub serve_record : RecordLent → Listed → Returned RecordLent
serve_record m l =
    let h = m.host in
    decided (record_admission (length h.numbers) (length h.serials) l (length h.answers) m.known) m (record_served m l)

-- ---- waiting entries made a segment

pub record FlushLent : Type 0 where
  pub journal : Bytes
  pub known : List ℕ
  pub result : List ℕ

abbrev pub flush_lent : Bytes → List ℕ → List ℕ → FlushLent
flush_lent bs ks result = record { journal = bs; known = ks; result = result }

-- The number, and the journal's length afterwards.
abbrev pub flush_served : FlushLent → FlushLent
flush_served m =
    let f = flush m.journal (known_in m.known) in
    let k = f.journal.known in
    flush_lent f.journal.bytes (known_numbers k) (result_numbers f.no k.used)

unfoldable pub serve_flush : FlushLent → Returned FlushLent
serve_flush m = decided (flush_admission m.known (length m.result)) m (flush_served m)

-- ---- a segment appended

pub record AppendLent : Type 0 where
  pub journal : Bytes
  pub result : List ℕ

abbrev pub append_lent : Bytes → List ℕ → AppendLent
append_lent bs result = record { journal = bs; result = result }

-- The number, and the journal's length afterwards.
abbrev pub append_served : AppendLent → ℕ → Bytes → AppendLent
append_served m used entries =
    let a = append m.journal used entries in
    append_lent a.buffer (result_numbers a.no a.used)

unfoldable pub serve_append : AppendLent → ℕ → Bytes → Returned AppendLent
serve_append m used entries = decided (room_admission (length m.result)) m (append_served m used entries)

-- ---- what is known of a journal

pub record KnownLent : Type 0 where
  pub known : List ℕ
  pub result : List ℕ

abbrev pub known_lent : List ℕ → List ℕ → KnownLent
known_lent ks result = record { known = ks; result = result }

-- Of what is no journal nothing is known: 12, and 0.
abbrev pub known_served : KnownLent → Bytes → KnownLent
known_served m bs =
    cond (valid bs) (known_lent (known_numbers (known_of bs)) (result_numbers DONE (length bs))) (known_lent m.known (result_numbers BAD-JOURNAL 0))

unfoldable pub serve_known : KnownLent → Bytes → Returned KnownLent
serve_known m bs = decided (known_admission (length m.known) (length m.result)) m (known_served m bs)
