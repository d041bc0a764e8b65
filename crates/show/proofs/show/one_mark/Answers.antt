-- A mark is one piece. Assumes nothing.
use Rattle.show.proofs.PieceLaws.{piece}
use Rattle.show.proofs.show.one_mark.Goals as goal

pub returns-clause-said : goal.returns-clause-said
returns-clause-said c = piece c.room.ensures.bytes c.room.ensures.place c.put_mark.ensures.printed
