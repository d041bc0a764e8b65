-- The word, the row and the line feed, where there is such a row. Assumes nothing.
use Rattle.rules.specs.Rules.{rows_seen}
use Rattle.show.proofs.PieceLaws.{saying, then}
use Rattle.replies.proofs.ReplyLaws.{a_row}
use Rattle.replies.proofs.written.row.Goals as goal

pub returns-clause-said : goal.returns-clause-said
returns-clause-said c =
    let a = c.args in
    saying (a_row (rows_seen a.seen) a.all.count a.key c.if-key-all.false) (then c.word-2.ensures.said (then c.row_cells.ensures.said c.word-3.ensures.said))
