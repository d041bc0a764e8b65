-- So far the first `i` entries are printed.
use Rattle.digits.specs.Page.{SamePage}
use Rattle.show.specs.Pieces.{Says}
use Rattle.show.specs.Shown.{each, entry_pieces}
use Rattle.show.proofs.show.entries.Given as goal

abbrev pub invariant-loop-i : goal.invariant-loop-i
invariant-loop-i l = record { same_page : SamePage l.fn.out.page l.out.page; said : Says l.fn.out.page l.out.page (each l.i (entry_pieces l.log)) }
