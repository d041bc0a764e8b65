-- Document 02, Q-1: an entry and its 24 bytes. "An entry is 24 bytes, little-endian: kind .., key a, key b, owner (0 for none), each 32
-- bits, amount 64 bits. New uses owner and amount, post also key a, join both keys; unused fields are 0."
use Rattle.std.specs.Prelude.{◌&&◌, ◌∷◌, ◌++◌, ◌+◌, ◌*◌, ◌/◌, ◌%◌, ◌<◌}
use Rattle.kit.specs.Names.{Bool, cond, List, [], ℕ, zero, suc, get_or, eqb}
use Rattle.rules.specs.Rules.{WORD}
use Rattle.journal.specs.declared.entry.Entry.{Entry}
use Rattle.journal.specs.declared.entry.Entry.TheVariants.{EntryNew, EntryPost, EntryJoin, EntrySnapshot, EntryRollback, EntryCommit, NoEntry}
use Rattle.journal.specs.Numbers.{ENTRY-NEW, ENTRY-POST, ENTRY-JOIN, ENTRY-SNAPSHOT, ENTRY-ROLLBACK, ENTRY-COMMIT, ENTRY-BYTES}

abbrev pub Bytes : Type 0
Bytes = List ℕ

-- ---- "little-endian"

-- A number in so many bytes, the lowest first.
unfoldable pub little_endian : ℕ → ℕ → Bytes
little_endian zero n = []
little_endian (suc width) n = n % 256 ∷ little_endian width (n / 256)

-- The number that so many bytes at a place are.
unfoldable pub little_at : ℕ → Bytes → ℕ → ℕ
little_at zero bs at = 0
little_at (suc width) bs at = get_or bs at 0 + 256 * little_at width bs (suc at)

-- ---- an entry as its five numbers

abbrev pub fields : ℕ → ℕ → ℕ → ℕ → ℕ → Bytes
fields kind a b owner amount =
    little_endian 4 kind ++ little_endian 4 a ++ little_endian 4 b ++ little_endian 4 owner ++ little_endian 8 amount

abbrev pub entry_bytes : Entry → Bytes
entry_bytes (EntryNew owner amount) = fields ENTRY-NEW 0 0 owner amount
entry_bytes (EntryPost a owner amount) = fields ENTRY-POST a 0 owner amount
entry_bytes (EntryJoin a b) = fields ENTRY-JOIN a b 0 0
entry_bytes EntrySnapshot = fields ENTRY-SNAPSHOT 0 0 0 0
entry_bytes EntryRollback = fields ENTRY-ROLLBACK 0 0 0 0
entry_bytes EntryCommit = fields ENTRY-COMMIT 0 0 0 0
entry_bytes NoEntry = fields 0 0 0 0 0

-- One entry after the other.
unfoldable pub entries_bytes : List Entry → Bytes
entries_bytes [] = []
entries_bytes (e ∷ es) = entry_bytes e ++ entries_bytes es

-- "each 32 bits, amount 64 bits": an entry whose numbers have so many.
abbrev pub WIDE : ℕ
WIDE = 18446744073709551616

abbrev pub Proper : Entry → Type 0
Proper (EntryNew owner amount) = (owner < WORD) × (amount < WIDE)
Proper (EntryPost a owner amount) = (a < WORD) × (owner < WORD) × (amount < WIDE)
Proper (EntryJoin a b) = (a < WORD) × (b < WORD)
Proper EntrySnapshot = Unit
Proper EntryRollback = Unit
Proper EntryCommit = Unit
Proper NoEntry = ⊥

pub data AllProper : List Entry → Type 0 where
  none : AllProper []
  proper : {e : Entry} {es : List Entry} → Proper e → AllProper es → AllProper (e ∷ es)

-- "unused fields are 0"
abbrev pub provided : Bool → Entry → Entry
provided unused e = cond unused e NoEntry

-- The entry of five numbers, `NoEntry` where they are none's.
abbrev pub entry_of : ℕ → ℕ → ℕ → ℕ → ℕ → Entry
entry_of kind a b owner amount =
    let keyless = eqb a 0 && eqb b 0 in
    let worthless = eqb owner 0 && eqb amount 0 in
    cond (eqb kind ENTRY-NEW) (provided keyless (EntryNew owner amount))
    (cond (eqb kind ENTRY-POST) (provided (eqb b 0) (EntryPost a owner amount))
    (cond (eqb kind ENTRY-JOIN) (provided worthless (EntryJoin a b))
    (cond (eqb kind ENTRY-SNAPSHOT) (provided (keyless && worthless) EntrySnapshot)
    (cond (eqb kind ENTRY-ROLLBACK) (provided (keyless && worthless) EntryRollback)
    (cond (eqb kind ENTRY-COMMIT) (provided (keyless && worthless) EntryCommit) NoEntry)))))

-- The entry whose bytes stand at a place.
abbrev pub read_entry : Bytes → ℕ → Entry
read_entry bs at =
    entry_of (little_at 4 bs at) (little_at 4 bs (at + 4)) (little_at 4 bs (at + 8)) (little_at 4 bs (at + 12)) (little_at 8 bs (at + 16))

-- So many entries from a place on.
unfoldable pub entries_at : ℕ → Bytes → ℕ → List Entry
entries_at zero bs at = []
entries_at (suc n) bs at = read_entry bs at ∷ entries_at n bs (at + ENTRY-BYTES)
