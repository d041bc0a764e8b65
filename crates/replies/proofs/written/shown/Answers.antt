-- Each part of the line after the one before. Assumes nothing.
use Rattle.show.proofs.PieceLaws.{piece, then}
use Rattle.replies.proofs.written.shown.Goals as goal

pub returns-clause-said : goal.returns-clause-said
returns-clause-said c =
    then c.word.ensures.said
    (then c.rows.ensures.said
    (then c.word-2.ensures.said
    (then c.entries.ensures.said
    (then (piece c.room.ensures.bytes c.room.ensures.place c.put_state.ensures.printed)
    (then c.marks.ensures.said c.word-3.ensures.said)))))
