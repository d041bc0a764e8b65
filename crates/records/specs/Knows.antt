-- What is known of a journal, and what is so of its bytes.
use Rattle.std.specs.Prelude.{◌≡◌, ◌++◌, ◌+◌, ◌≤◌, ◌<◌}
use Rattle.kit.specs.Names.{true, List, length, take}
use Rattle.rules.specs.Rules.{WORD}
use Rattle.journal.specs.declared.entry.Entry.{Entry}
use Rattle.journal.specs.declared.known.Known.{Known}
use Rattle.journal.specs.Numbers.{TRAILER-BYTES, SEGMENT}
use Rattle.journal.specs.Entry.{Bytes, entries_at}
use Rattle.journal.specs.Journal.{journal, orderly, open_in, journal_of}
use Rattle.journal.specs.Record.{Book, next_place}

-- The journal is valid and has these entries; behind it those others wait, which can be made a segment at any time; and as many
-- snapshots are open after all of them as is known.
pub record Knows (bs : Bytes) (k : Known) (es ws : List Entry) : Type 0 where
  pub is : journal_of (take k.used bs) ≡ journal k.segments es
  pub waits : entries_at k.waiting bs k.used ≡ ws
  pub within : next_place k ≤ length bs
  pub few : k.waiting ≤ SEGMENT
  pub sealable : 1 ≤ k.waiting → (next_place k + TRAILER-BYTES ≤ length bs) × (k.segments < WORD)
  pub opened : k.«open» ≡ open_in 0 (es ++ ws)
  pub ordered : orderly 0 (es ++ ws) ≡ true

-- "append-only": the journal's bytes are left, and it becomes no shorter.
pub record Onto (j j' : Book) : Type 0 where
  pub earlier : take j.known.used j'.bytes ≡ take j.known.used j.bytes
  pub grows : j.known.used ≤ j'.known.used
  pub room : length j'.bytes ≡ length j.bytes
