-- Each number is what its function answers. Assumes nothing.
use Rattle.extents.proofs.head.all_there_is.Goals as goal

pub returns : goal.returns
returns c = rw (c.most_rows.ensures c.args.lent.log, c.most_entries.ensures)
