-- What the part of a journal up to an end must be, for what follows it.
use Rattle.std.specs.Prelude.{◌≡◌, ◌&&◌, ◌+◌, ◌-◌, ◌≤◌, ◌<◌, Option, Some, None}
use Rattle.kit.specs.Names.{Bool, false, cond, ℕ, length, eqb, ltb}
use Rattle.journal.specs.Numbers.{TRAILER-BYTES}
use Rattle.journal.specs.Entry.{Bytes, little_at}
use Rattle.journal.specs.Journal.{Trailer, Journal, no_journal, journal, orderly, open_in, read_to}
use Rattle.valid.specs.declared.place.Place.{Place}
use Rattle.valid.specs.declared.window.Window.{Window}
use Rattle.valid.specs.Window.{Small, admits}

-- So many segments, whose entries may stand and leave as many snapshots open as may be open there.
abbrev pub ends_in : ℕ → Window → Journal → Bool
ends_in segments w no_journal = false
ends_in segments w (journal n es) = eqb n segments && (orderly 0 es && admits w (open_in 0 es))

abbrev pub between : ℕ → ℕ → Window
between least rise = record { least = least; rise = rise }

-- Whether what is still to be read at a place is as it must be.
abbrev pub judged : Bytes → Place → Bool
judged bs p = ends_in p.segments p.window (read_to p.end bs p.end)

pub record Placed (bs : Bytes) (p : Place) : Type 0 where
  pub within : p.end ≤ length bs
  pub window : Small p.window (length bs - p.end)

-- From one place to another that is nearer to the front, with the same answer.
pub record Nearer (bs : Bytes) (p r : Place) : Type 0 where
  pub placed : Placed bs r
  pub falls : r.end < p.end
  pub same : judged bs r ≡ judged bs p

-- Such a place, or none where the bytes are not as they must be.
abbrev pub Before : Bytes → Place → Option Place → Type 0
Before bs p None = false ≡ judged bs p
Before bs p (Some r) = Nearer bs p r

-- ---- all bytes

-- How many segments the last trailer says that there are.
abbrev pub segments_told : Bytes → ℕ
segments_told bs = cond (ltb (length bs) TRAILER-BYTES) 0 (little_at 4 bs (length bs - TRAILER-BYTES + 8) + 1)

-- A valid journal, after which what the window says may follow.
abbrev pub followed_by : Window → Journal → Bool
followed_by w no_journal = false
followed_by w (journal n es) = admits w (open_in 0 es)

-- A trailer, of whatever number.
abbrev pub back : ℕ → ℕ → Trailer
back distance count = record { distance = distance; count = count; number = 0 }
