-- Document 02, Q-1: which bytes are a journal. "Segments hold 1 to 2048 entries and end in a 12-byte trailer: the distance back from
-- the trailer's first byte to the segment's first, the entry count, the segment number from 0. Reading goes from the end to position
-- 0, each trailer pointing further back. An empty journal is valid. Anything else, also a rollback or commit with nothing open or a
-- 33rd open snapshot, is 12 BAD_JOURNAL, before any replay."
use Rattle.std.specs.Prelude.{◌&&◌, ◌∷◌, ◌++◌, ◌+◌, ◌*◌, ◌-◌}
use Rattle.kit.specs.Names.{Bool, cond, true, false, List, [], ℕ, zero, suc, length, eqb, leb, ltb}
use Rattle.rules.specs.Rules.{MAX-OPEN}
use Rattle.journal.specs.declared.entry.Entry.{Entry}
use Rattle.journal.specs.declared.entry.Entry.TheVariants.{EntryNew, EntryPost, EntryJoin, EntrySnapshot, EntryRollback, EntryCommit, NoEntry}
use Rattle.journal.specs.Numbers.{ENTRY-BYTES, TRAILER-BYTES, SEGMENT}
use Rattle.journal.specs.Entry.{Bytes, little_endian, little_at, entries_at}

-- ---- trailers

pub record Trailer : Type 0 where
  pub distance : ℕ
  pub count : ℕ
  pub number : ℕ

abbrev pub trailer_at : Bytes → ℕ → Trailer
trailer_at bs at = record { distance = little_at 4 bs at; count = little_at 4 bs (at + 4); number = little_at 4 bs (at + 8) }

abbrev pub trailer_bytes : Trailer → Bytes
trailer_bytes t = little_endian 4 t.distance ++ little_endian 4 t.count ++ little_endian 4 t.number

-- The trailer of the segment of this number with so many entries.
abbrev pub trailer_of : ℕ → ℕ → Trailer
trailer_of number count = record { distance = ENTRY-BYTES * count; count = count; number = number }

-- A trailer that stands at a place points back to the first byte of 1 to 2048 entries.
abbrev pub points : Trailer → ℕ → Bool
points t at =
    eqb t.distance (ENTRY-BYTES * t.count) && leb 1 t.count && leb t.count SEGMENT && leb t.distance at

-- ---- reading

-- What bytes are: no journal, or one with so many segments and these entries, the first one first.
pub data Journal : Type 0 where
  no_journal : Journal
  journal : ℕ → List Entry → Journal

-- A journal, and a segment after it, whose number is how many there were.
abbrev pub followed : Journal → ℕ → List Entry → Journal
followed no_journal number es = no_journal
followed (journal segments before) number es = cond (eqb number segments) (journal (suc segments) (before ++ es)) no_journal

-- The bytes up to an end, read from there by the trailers. The end falls with each, so `left` rounds are enough where it is at least
-- the end.
unfoldable pub read_to : ℕ → Bytes → ℕ → Journal
read_to zero bs end = cond (eqb end 0) (journal 0 []) no_journal
read_to (suc left) bs end =
    let at = end - TRAILER-BYTES in
    let t = trailer_at bs at in
    cond (eqb end 0) (journal 0 [])
    (cond (leb TRAILER-BYTES end && points t at)
    (followed (read_to left bs (at - t.distance)) t.number (entries_at t.count bs (at - t.distance))) no_journal)

-- ---- "also a rollback or commit with nothing open or a 33rd open snapshot"

-- How many snapshots are open after an entry, of `n` before it; whether it may stand there.
abbrev pub open_then : ℕ → Entry → ℕ
open_then n (EntryNew owner amount) = n
open_then n (EntryPost a owner amount) = n
open_then n (EntryJoin a b) = n
open_then n EntrySnapshot = suc n
open_then n EntryRollback = n - 1
open_then n EntryCommit = n - 1
open_then n NoEntry = n

abbrev pub may_stand : ℕ → Entry → Bool
may_stand n (EntryNew owner amount) = true
may_stand n (EntryPost a owner amount) = true
may_stand n (EntryJoin a b) = true
may_stand n EntrySnapshot = ltb n MAX-OPEN
may_stand n EntryRollback = ltb 0 n
may_stand n EntryCommit = ltb 0 n
may_stand n NoEntry = false

-- Entries one after the other, from so many open on: whether each may stand, and how many are open at the end.
unfoldable pub orderly : ℕ → List Entry → Bool
orderly n [] = true
orderly n (e ∷ es) = may_stand n e && orderly (open_then n e) es

unfoldable pub open_in : ℕ → List Entry → ℕ
open_in n [] = n
open_in n (e ∷ es) = open_in (open_then n e) es

-- ---- the journal that a list of bytes is

abbrev pub tested : Journal → Journal
tested no_journal = no_journal
tested (journal segments es) = cond (orderly 0 es) (journal segments es) no_journal

abbrev pub journal_of : Bytes → Journal
journal_of bs = tested (read_to (length bs) bs (length bs))

abbrev pub is_journal : Journal → Bool
is_journal no_journal = false
is_journal (journal segments es) = true

abbrev pub valid : Bytes → Bool
valid bs = is_journal (journal_of bs)
