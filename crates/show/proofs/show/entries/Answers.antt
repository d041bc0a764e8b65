-- One entry more is printed. Assumes nothing.
use Rattle.std.proofs.Common.{refl}
use Rattle.show.specs.Shown.{entry_pieces}
use Rattle.show.proofs.PieceLaws.{none, one_more}
use Rattle.show.proofs.show.entries.Goals as goal

pub loop-i-init : goal.loop-i-init
loop-i-init c = record { same_page = (refl, refl); said = none (entry_pieces c.args.log.now) }

pub loop-i-preserved : goal.loop-i-preserved
loop-i-preserved c =
    record { same_page = (cc, cc); said = one_more c.loop-i.i (entry_pieces c.args.log.now) c.loop-i.invariant.said c.entry_cells.ensures.said }
