-- What was gathered is the line taken so far. Assumes nothing.
use Rattle.lines.specs.Lines.{reached, line}
use Rattle.reading.proofs.TakingLaws.{gathered}
use Rattle.reading.proofs.read.take_into.Goals as goal

pub returns : goal.returns
returns c =
    let a = c.args in
    let g = c.gather-got.result in
    let b = c.gather-got.new.line in
    gathered a.reading.now a.line.now a.input.now (reached (line b g.kept.n g.kept.overlong) g.next g.ended) c.ends-ended.result
    c.line_number-reading.result c.gather-got.ensures (c.ends-ended.ensures b) c.line_number-reading.ensures
