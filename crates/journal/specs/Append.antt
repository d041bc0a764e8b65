-- Document 02, Q-1: "One append writes one segment, or refuses, writing nothing: 12 when the journal isn't valid or wouldn't be with
-- it, then 16 NO_ROOM exactly when it is longer than the room left."
use Rattle.std.specs.Prelude.{◌||◌, ◌&&◌, ◌++◌, ◌+◌, ◌*◌, ◌-◌, ◌/◌}
use Rattle.kit.specs.Names.{Bool, cond, not, List, [], ℕ, length, take, drop, eqb, leb, ltb}
use Rattle.rules.specs.Rules.{DONE, BAD-JOURNAL, NO-ROOM}
use Rattle.journal.specs.Numbers.{ENTRY-BYTES, SEGMENT}
use Rattle.journal.specs.declared.entry.Entry.{Entry}
use Rattle.journal.specs.Entry.{Bytes, entries_at}
use Rattle.journal.specs.Journal.{trailer_bytes, Journal, no_journal, journal, journal_of, valid}

-- A number and the journal's length afterwards, and the buffer.
pub record Appended : Type 0 where
  pub no : ℕ
  pub used : ℕ
  pub buffer : Bytes

-- How many segments there are.
abbrev pub segments_of : Journal → ℕ
segments_of no_journal = 0
segments_of (journal segments es) = segments

abbrev pub entries_of : Journal → List Entry
entries_of no_journal = []
entries_of (journal segments es) = es

-- "Segments hold 1 to 2048 entries": whether bytes are those of so many, and the entries that they are.
abbrev pub fills : Bytes → Bool
fills entries =
    let count = length entries / ENTRY-BYTES in
    eqb (length entries) (ENTRY-BYTES * count) && leb 1 count && leb count SEGMENT

abbrev pub entries_in : Bytes → List Entry
entries_in entries = entries_at (length entries / ENTRY-BYTES) entries 0

-- Bytes, the entries of the segment of this number, with the trailer that they ask for.
abbrev pub segment : ℕ → Bytes → Bytes
segment number entries =
    entries ++ trailer_bytes (record { distance = length entries; count = length entries / ENTRY-BYTES; number = number })

-- The journal is the first `used` bytes of the lent buffer. "refuses, writing nothing"
abbrev pub declined : ℕ → Bytes → ℕ → Appended
declined n buffer used = record { no = n; used = used; buffer = buffer }

-- A used length above the lent buffer is 12 (docs/DECISIONS.md). What is appended is one segment, so bytes that are not those of 1 to
-- 2048 entries are 12 too, also where they hold trailers of their own.
abbrev pub append : Bytes → ℕ → Bytes → Appended
append buffer used entries =
    let before = take used buffer in
    let new = segment (segments_of (journal_of before)) entries in
    cond (ltb (length buffer) used || not (valid before) || not (fills entries && valid (before ++ new))) (declined BAD-JOURNAL buffer used)
    (cond (ltb (length buffer - used) (length new)) (declined NO-ROOM buffer used)
    (record { no = DONE; used = used + length new; buffer = before ++ new ++ drop (used + length new) buffer }))
