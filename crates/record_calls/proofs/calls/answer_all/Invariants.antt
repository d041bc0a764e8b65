-- The page is the same one.
use Rattle.digits.specs.Page.{SamePage}
use Rattle.record_calls.proofs.calls.answer_all.Given as goal

abbrev pub invariant-lines : goal.invariant-lines
invariant-lines g l = SamePage l.fn.out.page l.out.page
