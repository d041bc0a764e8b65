-- Document 02, Q-1: what an append keeps. "Add an append-only journal." "One append writes one segment, or refuses, writing nothing".
use Rattle.std.specs.Prelude.{◌≡◌, ◌++◌}
use Rattle.kit.specs.Names.{true, ℕ, suc, length, take, drop}
use Rattle.journal.specs.Entry.{Bytes}
use Rattle.journal.specs.Journal.{journal, journal_of, valid}
use Rattle.journal.specs.Append.{Appended, segments_of, entries_of, entries_in}

-- "append-only": all earlier bytes, and those past the segment, are left. "One append writes one segment": the journal is valid and has
-- the entries that it had, and then those that were appended.
pub record Kept (buffer : Bytes) (used : ℕ) (entries : Bytes) (a : Appended) : Type 0 where
  pub earlier : take used a.buffer ≡ take used buffer
  pub later : drop a.used a.buffer ≡ drop a.used buffer
  pub room : length a.buffer ≡ length buffer
  pub still : valid (take a.used a.buffer) ≡ true
  pub one_more : let before = journal_of (take used buffer) in
      journal_of (take a.used a.buffer) ≡ journal (suc (segments_of before)) (entries_of before ++ entries_in entries)

-- "or refuses, writing nothing"
pub record Untouched (buffer : Bytes) (used : ℕ) (a : Appended) : Type 0 where
  pub same : a.buffer ≡ buffer
  pub as_long : a.used ≡ used
