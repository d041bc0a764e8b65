-- Two pieces: the kind with the key, and the row. Assumes nothing.
use Rattle.show.proofs.PieceLaws.{piece, then}
use Rattle.show.proofs.show.put_entry.Goals as goal

pub returns-clause-said : goal.returns-clause-said
returns-clause-said c =
    then (piece c.room.ensures.bytes c.room.ensures.place c.put_kind.ensures.printed)
    (piece c.room-2.ensures.bytes c.room-2.ensures.place c.put_row.ensures.printed)
