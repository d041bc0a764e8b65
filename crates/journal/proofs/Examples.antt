-- Q-1's definitions on small journals, computed. Assumes nothing.
use Rattle.std.specs.Prelude.{◌≡◌, ◌∷◌, ◌++◌}
use Rattle.kit.specs.Names.{refl, true, false, List, [], ℕ, length, replicate, take}
use Rattle.journal.specs.declared.entry.Entry.{Entry}
use Rattle.journal.specs.declared.entry.Entry.TheVariants.{EntryNew, EntryPost, EntryJoin, EntrySnapshot, EntryRollback, EntryCommit}
use Rattle.journal.specs.Entry.{Bytes, little_endian, little_at, fields, entries_bytes, entries_at}
use Rattle.journal.specs.Journal.{journal, read_to, orderly, open_in, journal_of, valid}
use Rattle.journal.specs.Append.{segment, append}
use Rattle.journal.specs.Forward.{forward}
use Rattle.journal.proofs.ForwardLaws.{journal_forward}

-- A segment of these entries, of this number.
abbrev part : ℕ → List Entry → Bytes
part number es = segment number (entries_bytes es)

abbrev day : List Entry
day = EntryNew 7 18446744073709551615 ∷ EntryNew 0 5 ∷ EntrySnapshot ∷ EntryJoin 0 1 ∷ []

abbrev night : List Entry
night = EntryRollback ∷ EntryPost 1 4294967295 3 ∷ []

abbrev two : Bytes
two = part 0 day ++ part 1 night

-- "An empty journal is valid."
empty : valid [] ≡ true
unfolding read_to orderly
empty = refl

two_segments : journal_of two ≡ journal 2 (day ++ night)
unfolding little_endian little_at entries_at entries_bytes read_to orderly
two_segments = refl

from_the_front : forward (length two) two 0 (length two) ≡ day ++ night
from_the_front = journal_forward two 2 (day ++ night) two_segments

-- "the segment number from 0"
misnumbered : valid (part 0 day ++ part 0 night) ≡ false
unfolding little_endian little_at entries_at entries_bytes read_to orderly
misnumbered = refl

-- "a rollback or commit with nothing open or a 33rd open snapshot"
nothing_open : valid (part 0 (EntryCommit ∷ [])) ≡ false
unfolding little_endian little_at entries_at entries_bytes read_to orderly
nothing_open = refl

all_open : valid (part 0 (replicate 32 EntrySnapshot)) ≡ true
unfolding little_endian little_at entries_at entries_bytes read_to orderly
all_open = refl

one_too_many : valid (part 0 (replicate 33 EntrySnapshot)) ≡ false
unfolding little_endian little_at entries_at entries_bytes read_to orderly
one_too_many = refl

-- "unused fields are 0"
field_used : valid (segment 0 (fields 1 0 1 7 5)) ≡ false
unfolding little_endian little_at entries_at entries_bytes read_to orderly
field_used = refl

-- "12 .., then 16 NO_ROOM exactly when it is longer than the room left"
abbrev lent : Bytes
lent = part 0 day ++ replicate 60 255

fits : append lent 108 (entries_bytes night) ≡ record { no = 0; used = 168; buffer = two }
unfolding little_endian little_at entries_at entries_bytes read_to orderly open_in
fits = refl

no_room : (append (take 167 lent) 108 (entries_bytes night)).no ≡ 16
unfolding little_endian little_at entries_at entries_bytes read_to orderly open_in
no_room = refl

bad : (append lent 108 (entries_bytes (EntryRollback ∷ EntryRollback ∷ []))).no ≡ 12
unfolding little_endian little_at entries_at entries_bytes read_to orderly open_in
bad = refl
