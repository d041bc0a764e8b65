-- Document 02, Q-1: the journal's numbers.
use Rattle.std.specs.Prelude.{ℕ}

-- "kind (1 new, 2 post, 3 join, 4 snapshot, 5 rollback, 6 commit)"
abbrev pub ENTRY-NEW : ℕ
ENTRY-NEW = 1

abbrev pub ENTRY-POST : ℕ
ENTRY-POST = 2

abbrev pub ENTRY-JOIN : ℕ
ENTRY-JOIN = 3

abbrev pub ENTRY-SNAPSHOT : ℕ
ENTRY-SNAPSHOT = 4

abbrev pub ENTRY-ROLLBACK : ℕ
ENTRY-ROLLBACK = 5

abbrev pub ENTRY-COMMIT : ℕ
ENTRY-COMMIT = 6

-- "An entry is 24 bytes"; "a 12-byte trailer"
abbrev pub ENTRY-BYTES : ℕ
ENTRY-BYTES = 24

abbrev pub TRAILER-BYTES : ℕ
TRAILER-BYTES = 12

-- "Segments hold 1 to 2048 entries"
abbrev pub SEGMENT : ℕ
SEGMENT = 2048
