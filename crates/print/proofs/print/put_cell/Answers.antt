-- What stands for a lent number, or for none. Assumes nothing.
use Rattle.kit.specs.Names.{sym, ap}
use Rattle.digits.proofs.PrintLaws.{saying}
use Rattle.print.specs.Texts.{cell_text}
use Rattle.print.proofs.print.put_cell.Goals as goal

pub returns-in-None-clause-printed : goal.returns-in-None-clause-printed
unfolding cell_text
returns-in-None-clause-printed c = saying (ap cell_text (sym c.in-None.is)) c.put_bytes.ensures.printed

pub returns-in-Some-clause-printed : goal.returns-in-Some-clause-printed
unfolding cell_text
returns-in-Some-clause-printed c = saying (ap cell_text (sym c.in-Some.is)) c.put_next.ensures.printed
