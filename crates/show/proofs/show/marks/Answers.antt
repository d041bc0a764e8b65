-- One mark more is printed. Assumes nothing.
use Rattle.std.specs.Prelude.{◌<◌}
use Rattle.std.proofs.Common.{refl, arith, length-take}
use Rattle.std.proofs.lemmas.List.{get_or-take}
use Rattle.rules.specs.Rules.{mark}
use Rattle.show.specs.Shown.{mark_pieces}
use Rattle.show.proofs.PieceLaws.{none, one_more}
use Rattle.show.proofs.show.marks.Goals as goal

pub loop-mark-init : goal.loop-mark-init
loop-mark-init c = record { same_page = (refl, refl); said = none (mark_pieces c.args.state) }

pub loop-mark-preserved : goal.loop-mark-preserved
loop-mark-preserved c =
    let i = c.loop-mark.mark-index in
    let marks = c.args.state.marks in
    let inside : i < c.min.result = omega (arith, length-take c.min.result marks) in
    let here = rw (get_or-take c.min.result marks i (mark 0 0 0) inside) at c.one_mark.ensures.said in
    record { same_page = (cc, cc); said = one_more i (mark_pieces c.args.state) c.loop-mark.invariant.said here }
