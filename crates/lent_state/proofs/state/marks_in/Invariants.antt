-- The marks so far are those of the numbers.
use Rattle.lent_state.proofs.MarksLaws.{SoFar}
use Rattle.lent_state.proofs.state.marks_in.Given as goal

abbrev pub invariant-loop-i : goal.invariant-loop-i
invariant-loop-i l = SoFar l.numbers l.serials l.marks l.i
