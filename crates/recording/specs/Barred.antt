-- Why a call is not carried out for the journal's sake, as a number, and the room that an entry has where it is.
use Rattle.std.specs.Prelude.{◌&&◌, ◌∷◌, ◌+◌, ◌≤◌, ◌<◌, Option, Some, None, Result, Ok, Err}
use Rattle.kit.specs.Names.{Bool, cond, List, [], ℕ}
use Rattle.rules.specs.Rules.{WORD, DONE, BAD-JOURNAL, NO-ROOM, code_of}
use Rattle.rules.specs.declared.refusal.Refusal.{Refusal}
use Rattle.journal.specs.declared.entry.Entry.{Entry}
use Rattle.journal.specs.declared.known.Known.{Known}
use Rattle.journal.specs.Numbers.{ENTRY-BYTES, TRAILER-BYTES, SEGMENT}
use Rattle.journal.specs.Record.{next_place, mismatched, too_long}

-- An entry, or none, as what is written.
abbrev pub as_written : Option Entry → List Entry
as_written None = []
as_written (Some e) = e ∷ []

-- The number of what is done or refused.
abbrev pub no_of : {A : Type 0} → Result A Refusal → ℕ
no_of (Ok x) = DONE
no_of (Err why) = code_of why

-- For a call that is written or not, with so many snapshots open in the table and a buffer of this length: 12, 16, or DONE to go on.
abbrev pub barred : Bool → Known → ℕ → ℕ → ℕ
barred mine k opened long = cond (mine && mismatched k opened) BAD-JOURNAL (cond (mine && too_long 1 long k) NO-ROOM DONE)

-- Waiting entries that can be made a segment.
pub record Sealable (k : Known) (long : ℕ) : Type 0 where
  pub room : next_place k + TRAILER-BYTES ≤ long
  pub few : k.waiting ≤ SEGMENT
  pub numbered : k.segments < WORD

-- The same with one more.
pub record RoomForOne (k : Known) (long : ℕ) : Type 0 where
  pub room : next_place k + ENTRY-BYTES + TRAILER-BYTES ≤ long
  pub few : k.waiting < SEGMENT
  pub numbered : k.segments < WORD
