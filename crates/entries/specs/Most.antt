-- Q-1: "New uses owner and amount, post also key a, join both keys; unused fields are 0", as how large each number may be.
use Rattle.std.specs.Prelude.{◌&&◌, ◌||◌}
use Rattle.kit.specs.Names.{Bool, true, false, cond, ℕ, eqb, leb}
use Rattle.journal.specs.declared.entry.Entry.{Entry}
use Rattle.journal.specs.declared.entry.Entry.TheVariants.{EntryNew, EntryPost, EntryJoin, EntrySnapshot, EntryRollback, EntryCommit, NoEntry}
use Rattle.journal.specs.Numbers.{ENTRY-NEW, ENTRY-POST, ENTRY-JOIN, ENTRY-SNAPSHOT, ENTRY-ROLLBACK, ENTRY-COMMIT}

abbrev pub ANY : ℕ
ANY = 18446744073709551615

-- Of a number that entries of two kinds alone use.
abbrev pub most_of : ℕ → ℕ → ℕ → ℕ
most_of kind one other = cond (eqb kind one || eqb kind other) ANY 0

abbrev pub is_kind : ℕ → Bool
is_kind kind = leb ENTRY-NEW kind && leb kind ENTRY-COMMIT

abbrev pub is_entry : Entry → Bool
is_entry (EntryNew owner amount) = true
is_entry (EntryPost a owner amount) = true
is_entry (EntryJoin a b) = true
is_entry EntrySnapshot = true
is_entry EntryRollback = true
is_entry EntryCommit = true
is_entry NoEntry = false

-- The entry of five numbers that are one.
abbrev pub made_of : ℕ → ℕ → ℕ → ℕ → ℕ → Entry
made_of kind a b owner amount =
    cond (eqb kind ENTRY-NEW) (EntryNew owner amount)
    (cond (eqb kind ENTRY-POST) (EntryPost a owner amount)
    (cond (eqb kind ENTRY-JOIN) (EntryJoin a b)
    (cond (eqb kind ENTRY-SNAPSHOT) EntrySnapshot
    (cond (eqb kind ENTRY-ROLLBACK) EntryRollback EntryCommit))))
