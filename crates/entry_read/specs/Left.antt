-- What is left of a valid journal from a place on, where an entry or a trailer begins or the bytes end.
use Rattle.std.specs.Prelude.{◌≡◌, ◌<◌}
use Rattle.kit.specs.Names.{true, List, map, ℕ, length}
use Rattle.journal.specs.declared.entry.Entry.{Entry}
use Rattle.journal.specs.declared.entry.Entry.TheVariants.{EntryNew, EntryPost, EntryJoin, EntrySnapshot, EntryRollback, EntryCommit, NoEntry}
use Rattle.journal.specs.Numbers.{ENTRY-BYTES, ENTRY-NEW, ENTRY-POST, ENTRY-JOIN, ENTRY-SNAPSHOT, ENTRY-ROLLBACK, ENTRY-COMMIT}
use Rattle.journal.specs.Entry.{Bytes, little_at}
use Rattle.journal.specs.Journal.{orderly}
use Rattle.journal.specs.Forward.{forward, Onward}

-- Its entries.
abbrev pub entries_from : Bytes → ℕ → List Entry
entries_from bs at = forward (length bs) bs at (length bs)

-- The number of an entry's kind.
abbrev pub entry_kind : Entry → ℕ
entry_kind (EntryNew owner amount) = ENTRY-NEW
entry_kind (EntryPost a owner amount) = ENTRY-POST
entry_kind (EntryJoin a b) = ENTRY-JOIN
entry_kind EntrySnapshot = ENTRY-SNAPSHOT
entry_kind EntryRollback = ENTRY-ROLLBACK
entry_kind EntryCommit = ENTRY-COMMIT
entry_kind NoEntry = 0

-- The kinds of its entries.
abbrev pub kinds_from : Bytes → ℕ → List ℕ
kinds_from bs at = map entry_kind (entries_from bs at)

-- Up to the end nothing else stands than these and trailers, and each may stand where it does, so many snapshots being open at the place.
pub record Left (bs : Bytes) (at : ℕ) : Type 0 where
  pub opened : ℕ
  pub onward : Onward bs (length bs) at (entries_from bs at)
  pub ordered : orderly opened (entries_from bs at) ≡ true

-- A later place with the same entries left, at which no trailer begins.
pub record Past (bs : Bytes) (from at : ℕ) : Type 0 where
  pub left : Left bs at
  pub same : entries_from bs at ≡ entries_from bs from
  pub stops : at < length bs → little_at 4 bs at < ENTRY-BYTES
