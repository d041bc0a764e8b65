-- How many snapshots may be open before some entries, so that they and what follows them may stand.
use Rattle.std.specs.Prelude.{◌&&◌, ◌∷◌, ◌+◌, ◌*◌, ◌-◌, ◌≤◌}
use Rattle.kit.specs.Names.{Bool, cond, List, [], ℕ, eqb, leb, ltb}
use Rattle.rules.specs.Rules.{MAX-OPEN}
use Rattle.journal.specs.declared.entry.Entry.{Entry}
use Rattle.journal.specs.declared.entry.Entry.TheVariants.{EntryNew, EntryPost, EntryJoin, EntrySnapshot, EntryRollback, EntryCommit, NoEntry}
use Rattle.journal.specs.Numbers.{ENTRY-SNAPSHOT, ENTRY-BYTES}
use Rattle.valid.specs.declared.window.Window.{Window}

-- Small numbers, that so many bytes may follow: each of the two is at most the entries there, and 4096 that stand elsewhere.
pub record Small (w : Window) (bytes : ℕ) : Type 0 where
  pub low : ENTRY-BYTES * w.least ≤ bytes + 98304
  pub high : ENTRY-BYTES * w.rise ≤ bytes + 98304

-- What follows closes `least` of those that are open before it, and has `rise` more open than those at some place.
abbrev pub admits : Window → ℕ → Bool
admits w n = leb w.least n && leb (n + w.rise) MAX-OPEN

-- How many snapshots an entry of this kind opens, and closes.
abbrev pub opens_of : ℕ → ℕ
opens_of kind = cond (eqb kind ENTRY-SNAPSHOT) 1 0

abbrev pub closes_of : ℕ → ℕ
closes_of kind = cond (ltb ENTRY-SNAPSHOT kind) 1 0

abbrev pub moved : ℕ → ℕ → Window → Window
moved opens closes w = record { least = w.least - opens + closes; rise = w.rise - closes + opens }

-- Before an entry, and before entries one after the other.
abbrev pub narrow : Entry → Window → Window
narrow (EntryNew owner amount) w = moved 0 0 w
narrow (EntryPost a owner amount) w = moved 0 0 w
narrow (EntryJoin a b) w = moved 0 0 w
narrow EntrySnapshot w = moved 1 0 w
narrow EntryRollback w = moved 0 1 w
narrow EntryCommit w = moved 0 1 w
narrow NoEntry w = record { least = 0; rise = 33 }

unfoldable pub narrowed : List Entry → Window → Window
narrowed [] w = w
narrowed (e ∷ es) w = narrow e (narrowed es w)
