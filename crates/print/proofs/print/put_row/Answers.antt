-- The four numbers make one text. Assumes nothing.
use Rattle.kit.specs.Names.{append-nil}
use Rattle.digits.proofs.PrintLaws.{saying, then}
use Rattle.print.specs.Texts.{cells}
use Rattle.print.proofs.print.put_row.Goals as goal

pub returns-clause-printed : goal.returns-clause-printed
unfolding cells
returns-clause-printed c =
    let last = then c.put_cell-3.ensures.printed c.put_cell-4.ensures.printed in
    saying (simp append-nil) (then c.put_cell.ensures.printed (then c.put_cell-2.ensures.printed last))
