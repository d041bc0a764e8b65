-- A blank and a number are a list of one. Assumes nothing.
use Rattle.digits.proofs.PrintLaws.{one_listed, saying, then}
use Rattle.digits.proofs.put.put_next.Goals as goal

pub returns-clause-printed : goal.returns-clause-printed
returns-clause-printed c = saying (one_listed _) (then c.put_byte.ensures.printed c.put_number.ensures.printed)
