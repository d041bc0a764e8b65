-- The answer, the entries that follow it, and the line feed. Assumes nothing.
use Rattle.show.proofs.PieceLaws.{piece, then}
use Rattle.replies.proofs.written.answered.Goals as goal

pub returns-clause-said : goal.returns-clause-said
returns-clause-said c =
    then (piece c.room.ensures.bytes c.room.ensures.place c.put_answer.ensures.printed) (then c.put_onward.ensures.said c.word.ensures.said)
