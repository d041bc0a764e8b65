-- A line gathered from the input, part by part.
use Rattle.std.specs.Prelude.{◌+◌}
use Rattle.kit.specs.Names.{Bool, true, false, cond, List, ℕ, take, drop, eqb, ltb}
use Rattle.rules.specs.Rules.{fresh, MAX-U64}
use Rattle.arrays.specs.declared.reply.Holding.{Holding}
use Rattle.arrays.specs.Cut.{holding}
use Rattle.arrays.specs.Room.{nothing}
use Rattle.reading.specs.declared.read.Reading.{Reading}
use Rattle.lines.specs.declared.gather.Kept.{Kept}
use Rattle.lines.specs.Lines.{Reached, line, gathering}

abbrev pub none_kept : Kept
none_kept = record { n = 0; overlong = false }

-- "Before the first `table`, a table of 0 rows and 0 entries is lent."
abbrev pub beginning : Reading
beginning =
    record {
      holding = holding nothing fresh;
      line = 0;
      kept = none_kept;
      from = 0;
      count = 0;
      more = true;
      ended = false;
    }

-- ---- a line gathered

-- A reading over another part of the input; with none more, the input has ended.
abbrev pub reading : Reading → ℕ → Reading
reading s count =
    record {
      holding = s.holding;
      line = s.line;
      kept = s.kept;
      from = 0;
      count = count;
      more = ltb 0 count;
      ended = s.ended;
    }

-- Once so many bytes are read, where none were at hand.
abbrev pub filled : Reading → ℕ → Reading
filled s count = cond (ltb s.from s.count) s (reading s count)

-- A line ends at a line feed, or with the input, if it has begun.
abbrev pub ends_at : Bool → Reached → Bool
ends_at more g = cond more g.ended (ltb 0 g.line.n)

-- "the line's number from 1"
abbrev pub line_number : ℕ → Bool → ℕ
line_number number ended = cond ended (cond (eqb number MAX-U64) number (number + 1)) number

abbrev pub reaching : Reading → Reached → Bool → ℕ → Reading
reaching s g ended number =
    record {
      holding = s.holding;
      line = number;
      kept = record { n = g.line.n; overlong = g.line.overlong };
      from = g.next;
      count = s.count;
      more = s.more;
      ended = ended;
    }

-- A reading, with the buffer that holds its line.
pub record Took : Type 0 where
  pub reading : Reading
  pub buffer : List ℕ

abbrev pub took : Reading → List ℕ → Took
took s b = record { reading = s; buffer = b }

abbrev pub taking : Reading → List ℕ → List ℕ → Took
taking s b input =
    let g = gathering s.from (line b s.kept.n s.kept.overlong) (drop s.from (take s.count input)) in
    let ended = ends_at s.more g in
    took (reaching s g ended (line_number s.line ended)) g.line.buffer

-- Ready for the next line, with what the command left.
abbrev pub next_line : Reading → Holding → Reading
next_line s h =
    record {
      holding = h;
      line = s.line;
      kept = none_kept;
      from = s.from;
      count = s.count;
      more = s.more;
      ended = false;
    }
