-- What a recorder has to know of a whole journal: its length, how many segments it has and how many snapshots are open in it.
use Rattle.kit.specs.Names.{Bool, true, cond, ℕ, length, eqb, ltb}
use Rattle.std.specs.Prelude.{◌+◌, ◌-◌}
use Rattle.rules.specs.Rules.{MAX-OPEN}
use Rattle.journal.specs.Numbers.{ENTRY-SNAPSHOT}
use Rattle.journal.specs.declared.known.Known.{Known}
use Rattle.journal.specs.Entry.{Bytes}
use Rattle.journal.specs.Journal.{open_in, journal_of}
use Rattle.journal.specs.Append.{segments_of, entries_of}
use Rattle.journal.specs.Record.{known}
use Rattle.valid.specs.Window.{opens_of, closes_of}

-- After an entry of this kind, of `n` before it; and whether one may stand there.
abbrev pub open_past : ℕ → ℕ → ℕ
open_past n kind = n + opens_of kind - closes_of kind

abbrev pub may_pass : ℕ → ℕ → Bool
may_pass n kind = cond (eqb kind ENTRY-SNAPSHOT) (ltb n MAX-OPEN) (cond (ltb ENTRY-SNAPSHOT kind) (ltb 0 n) true)

abbrev pub open_at_end : Bytes → ℕ
open_at_end bs = open_in 0 (entries_of (journal_of bs))

abbrev pub known_of : Bytes → Known
known_of bs = known (length bs) (segments_of (journal_of bs)) (open_at_end bs) 0
