-- So far the first marks are printed, as many as the loop has seen.
use Rattle.digits.specs.Page.{SamePage}
use Rattle.show.specs.Pieces.{Says}
use Rattle.show.specs.Shown.{each, mark_pieces}
use Rattle.show.proofs.show.marks.Given as goal

abbrev pub invariant-loop-mark : goal.invariant-loop-mark
invariant-loop-mark l = record { same_page : SamePage l.fn.out.page l.out.page; said : Says l.fn.out.page l.out.page (each l.mark-index (mark_pieces l.fn.state)) }
