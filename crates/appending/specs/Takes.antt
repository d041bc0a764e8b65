-- Whether a journal takes some bytes as one segment more.
use Rattle.std.specs.Prelude.{◌≡◌, ◌||◌, ◌&&◌, ◌++◌, ◌+◌, ◌*◌, ◌/◌, ◌≤◌, ◌<◌}
use Rattle.kit.specs.Names.{Bool, true, not, ℕ, length, take, drop, eqb, leb, ltb}
use Rattle.rules.specs.Rules.{WORD}
use Rattle.journal.specs.Numbers.{ENTRY-BYTES, TRAILER-BYTES, SEGMENT}
use Rattle.journal.specs.Entry.{Bytes}
use Rattle.journal.specs.Journal.{journal_of, valid}
use Rattle.journal.specs.Append.{segments_of, fills, segment}

-- Q-1: "12 when the journal isn't valid or wouldn't be with it"
abbrev pub takes : Bytes → ℕ → Bytes → Bool
takes buffer used entries =
    let before = take used buffer in
    not (ltb (length buffer) used || not (valid before) || not (fills entries && valid (before ++ segment (segments_of (journal_of before)) entries)))

-- Of bytes of this length, whether they fill a segment.
abbrev pub fills_by : ℕ → Bool
fills_by long = let count = long / ENTRY-BYTES in eqb long (ENTRY-BYTES * count) && leb 1 count && leb count SEGMENT

-- ---- what is written

-- Bytes put at a place, the others left.
abbrev pub with_segment : Bytes → ℕ → Bytes → Bytes
with_segment buffer used new = take used buffer ++ new ++ drop (used + length new) buffer

-- Entries of this length have room as the segment of this number.
pub record Writable (long used entries number : ℕ) : Type 0 where
  pub room : used + entries + TRAILER-BYTES ≤ long
  pub filling : fills_by entries ≡ true
  pub numbered : number < WORD
