-- The numbers below i are stored, and the others lead to the same list.
use Rattle.write_answer.proofs.AnswerLaws.{Stored}
use Rattle.write_answer.proofs.answers.put.Given as goal

abbrev pub invariant-loop-i : goal.invariant-loop-i
invariant-loop-i l = Stored l.fn.answers l.answers l.number-items l.at l.i
