-- A turn of the program: a line gathered, its command carried out, its reply printed.
use Rattle.kit.specs.Names.{cond, List, ℕ}
use Rattle.digits.specs.declared.put.Page as put
use Rattle.rules.specs.Rules.{State, Table}
use Rattle.arrays.specs.Cut.{holding}
use Rattle.damage.specs.Commands.{changed}
use Rattle.reading.specs.declared.read.Reading.{Reading}
use Rattle.lines.specs.Lines.{line_command}
use Rattle.show.specs.Pieces.{Page, page, printing}
use Rattle.say.specs.Reply.{said_pieces}
use Rattle.reading.specs.Taking.{filled, taking, next_line}

-- ---- a command carried out, and its reply printed

-- What a page that is lent holds, and where printing goes on.
abbrev pub page_of : put.Page → Page
page_of p = page p.bytes.now p.at

-- A reading, with all of the memory and the page that is printed into.
pub record Replying : Type 0 where
  pub reading : Reading
  pub table : Table
  pub page : Page

abbrev pub replying : Reading → (State → Table) → Page → Replying
replying s t p = record { reading = s; table = t s.holding.state; page = p }

abbrev pub answering : Reading → (State → Table) → List ℕ → Page → Replying
answering s t b p =
    let c = changed s.holding.lengths (t s.holding.state) (line_command b s.kept.n s.kept.overlong) in
    record {
      reading = next_line s (holding c.lengths c.table.state);
      table = c.table;
      page = printing p.bytes p.at (said_pieces c.lengths c.table c.reply s.line);
    }

-- ---- a turn

pub record Turned : Type 0 where
  pub reply : Replying
  pub buffer : List ℕ

abbrev pub turned : Reading → (State → Table) → List ℕ → Page → Turned
turned s t b p = record { reply = replying s t p; buffer = b }

-- Over the input at hand, and how many bytes of it there are.
abbrev pub turning : Reading → (State → Table) → List ℕ → Page → List ℕ → ℕ → Turned
turning s t b p input count =
    let g = taking (filled s count) b input in
    record {
      reply = cond g.reading.ended (answering g.reading t g.buffer p) (replying g.reading t p);
      buffer = g.buffer;
    }
