-- So far the first `i` entries are printed.
use Rattle.kit.specs.Names.{ℕ}
use Rattle.rules.specs.Rules.{Log, viewed}
use Rattle.extract.specs.Numbers.{lent_at}
use Rattle.digits.specs.Page.{SamePage}
use Rattle.show.specs.Pieces.{Says}
use Rattle.show.specs.Shown.{Pieces, each, numbers_pieces}
use Rattle.show.proofs.since.entries_since.Given as goal

abbrev pub seen : Log → ℕ → ℕ → ℕ → Pieces
seen l from to i = numbers_pieces (lent_at (viewed l from to) i)

abbrev pub invariant-loop-i : goal.invariant-loop-i
invariant-loop-i l = record { same_page : SamePage l.fn.out.page l.out.page; said : Says l.fn.out.page l.out.page (each l.i (seen l.fn.log l.fn.from l.fn.to)) }
