-- The four numbers are one piece. Assumes nothing.
use Rattle.std.specs.Prelude.{◌≡◌}
use Rattle.std.proofs.Common.{arith}
use Rattle.std.proofs.lemmas.Grind.{common_steps}
use Rattle.show.specs.Shown.{cell_at}
use Rattle.show.proofs.PieceLaws.{piece, saying}
use Rattle.show.proofs.CellLaws.{row_said}
use Rattle.show.proofs.show.row_cells.Goals as goal

pub returns-clause-said : goal.returns-clause-said
returns-clause-said c =
    let whole = piece c.room.ensures.bytes c.room.ensures.place c.put_row.ensures.printed in
    let amount : c.copied.result ≡ cell_at c.args.seen.amounts.now c.args.i = grind (arith, common_steps) in
    saying (row_said c.cell.ensures c.cell-2.ensures c.cell-3.ensures amount) whole
