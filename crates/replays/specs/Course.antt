-- What entries make of the surviving deeds, without a table: the deeds now, and those at each open snapshot. Tokens are left out, since
-- "Rollback and commit act on the innermost."
use Rattle.std.specs.Prelude.{◌∷◌, ◌<◌}
use Rattle.kit.specs.Names.{List, [], ℕ, length}
use Rattle.rules.specs.Rules.{MAX-OPEN, value, owner_of}
use Rattle.groups.specs.Groups.{Deed, created, joined, posted, replay, Accepts}
use Rattle.groups.specs.Track.{Saved, Track}
use Rattle.journal.specs.declared.entry.Entry.{Entry}
use Rattle.journal.specs.declared.entry.Entry.TheVariants.{EntryNew, EntryPost, EntryJoin, EntrySnapshot, EntryRollback, EntryCommit, NoEntry}

-- The deeds that survive, the newest first; and those that had survived as each open snapshot was taken, the innermost first.
pub record Course : Type 0 where
  pub now : List Deed
  pub saved : List (List Deed)

abbrev pub course : List Deed → List (List Deed) → Course
course now saved = record { now = now; saved = saved }

abbrev pub saved_deeds : List Saved → List (List Deed)
saved_deeds [] = []
saved_deeds (x ∷ xs) = x.deeds ∷ saved_deeds xs

abbrev pub course_of : Track → Course
course_of g = course g.now (saved_deeds g.saved)

-- ---- one entry

-- The open snapshots but the innermost; and what had survived as that one was taken.
abbrev pub outer : List (List Deed) → List (List Deed)
outer [] = []
outer (x ∷ xs) = xs

abbrev pub given_back : List Deed → List (List Deed) → List Deed
given_back now [] = now
given_back now (x ∷ xs) = x

abbrev pub entered : Course → Entry → Course
entered k (EntryNew owner amount) = course (created (replay k.now).count (value (owner_of owner) amount) ∷ k.now) k.saved
entered k (EntryPost a owner amount) = course (posted a (value (owner_of owner) amount) ∷ k.now) k.saved
entered k (EntryJoin a b) = course (joined a b ∷ k.now) k.saved
entered k EntrySnapshot = course k.now (k.now ∷ k.saved)
entered k EntryRollback = course (given_back k.now k.saved) (outer k.saved)
entered k EntryCommit = course k.now (outer k.saved)
entered k NoEntry = k

-- The groups accept an entry, with so many rows.
abbrev pub Admits : ℕ → Course → Entry → Type 0
Admits rows k (EntryNew owner amount) = (replay k.now).count < rows
Admits rows k (EntryPost a owner amount) = Accepts (replay k.now) (posted a (value (owner_of owner) amount))
Admits rows k (EntryJoin a b) = Accepts (replay k.now) (joined a b)
Admits rows k EntrySnapshot = length k.saved < MAX-OPEN
Admits rows k EntryRollback = 0 < length k.saved
Admits rows k EntryCommit = 0 < length k.saved
Admits rows k NoEntry = ⊥

-- ---- entries one after the other

unfoldable pub course_after : Course → List Entry → Course
course_after k [] = k
course_after k (e ∷ es) = course_after (entered k e) es

unfoldable pub AdmitsAll : ℕ → Course → List Entry → Type 0
AdmitsAll rows k [] = Unit {0}
AdmitsAll rows k (e ∷ es) = Admits rows k e × AdmitsAll rows (entered k e) es
