-- So far the first `i` rows are printed.
use Rattle.digits.specs.Page.{SamePage}
use Rattle.rules.specs.Rules.{rows_seen}
use Rattle.show.specs.Pieces.{Says}
use Rattle.show.specs.Shown.{each, row_pieces}
use Rattle.show.proofs.show.rows.Given as goal

abbrev pub invariant-loop-i : goal.invariant-loop-i
invariant-loop-i l = record { same_page : SamePage l.fn.out.page l.out.page; said : Says l.fn.out.page l.out.page (each l.i (row_pieces (rows_seen l.seen))) }
