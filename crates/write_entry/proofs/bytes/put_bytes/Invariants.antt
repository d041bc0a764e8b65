-- The bytes below i are stored, and the others lead to the same list.
use Rattle.write_answer.proofs.AnswerLaws.{Stored}
use Rattle.write_entry.proofs.bytes.put_bytes.Given as goal

abbrev pub invariant-loop-i : goal.invariant-loop-i
invariant-loop-i l = Stored l.fn.bytes l.bytes l.text l.at l.i
