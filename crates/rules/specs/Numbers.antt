-- Document 01, "Limits" and the table of "Numbers of refusal".
use Rattle.std.specs.Prelude.{ℕ}

-- "Limits: 65536 rows; 1048576 log entries; 32 open snapshots; 16 redirects in a walk."
abbrev pub MAX-ROWS : ℕ
MAX-ROWS = 65536

abbrev pub MAX-ENTRIES : ℕ
MAX-ENTRIES = 1048576

-- How many numbers of `crowns` a row has, and how many of the log an entry has.
abbrev pub CROWN : ℕ
CROWN = 2

abbrev pub ENTRY : ℕ
ENTRY = 7

-- An amount in the log is its low word and this many times its high one.
abbrev pub WORD : ℕ
WORD = 4294967296

abbrev pub MAX-OPEN : ℕ
MAX-OPEN = 32

abbrev pub MAX-REDIRECTS : ℕ
MAX-REDIRECTS = 16

-- BROKEN_TABLE: "a join of different roots finds a root's rank above 16"
abbrev pub MAX-RANK : ℕ
MAX-RANK = 16

-- TOO_MUCH: "sum above 18446744073709551615"; SERIALS_SPENT: "last serial 18446744073709551615"
abbrev pub MAX-U64 : ℕ
MAX-U64 = 18446744073709551615

abbrev pub DONE : ℕ
DONE = 0

abbrev pub NO-KEY : ℕ
NO-KEY = 1

abbrev pub KEYS-FULL : ℕ
KEYS-FULL = 2

abbrev pub LOG-FULL : ℕ
LOG-FULL = 3

abbrev pub OWNER-CLASH : ℕ
OWNER-CLASH = 4

abbrev pub TOO-MUCH : ℕ
TOO-MUCH = 5

abbrev pub NOT-INNERMOST : ℕ
NOT-INNERMOST = 6

abbrev pub TOO-DEEP : ℕ
TOO-DEEP = 7

abbrev pub BROKEN-TABLE : ℕ
BROKEN-TABLE = 8

abbrev pub BAD-STATE : ℕ
BAD-STATE = 9

abbrev pub SERIALS-SPENT : ℕ
SERIALS-SPENT = 10

abbrev pub NOT-OPEN : ℕ
NOT-OPEN = 11

-- Document 02, Q-1: "12 BAD_JOURNAL", "16 NO_ROOM"
abbrev pub BAD-JOURNAL : ℕ
BAD-JOURNAL = 12

abbrev pub NO-ROOM : ℕ
NO-ROOM = 16

-- The kinds of log entries: any other number is "of no known kind" (docs/DECISIONS.md, 1).
abbrev pub KIND-UNKNOWN : ℕ
KIND-UNKNOWN = 0

abbrev pub KIND-NEW : ℕ
KIND-NEW = 1

abbrev pub KIND-SET : ℕ
KIND-SET = 2
