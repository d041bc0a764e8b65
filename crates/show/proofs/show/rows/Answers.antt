-- One row more is printed. Assumes nothing.
use Rattle.std.proofs.Common.{refl}
use Rattle.rules.specs.Rules.{rows_seen}
use Rattle.show.specs.Shown.{row_pieces}
use Rattle.show.proofs.PieceLaws.{none, one_more, then}
use Rattle.show.proofs.show.rows.Goals as goal

pub loop-i-init : goal.loop-i-init
loop-i-init c = record { same_page = (refl, refl); said = none (row_pieces (rows_seen c.args.seen)) }

pub loop-i-preserved : goal.loop-i-preserved
loop-i-preserved c =
    record { same_page = (cc, cc); said = one_more c.loop-i.i (row_pieces (rows_seen c.args.seen)) c.loop-i.invariant.said (then c.word.ensures.said c.row_cells.ensures.said) }
