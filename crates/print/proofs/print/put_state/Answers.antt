-- The first word, the numbers and the last word make one text. Assumes nothing.
use Rattle.digits.proofs.PrintLaws.{then}
use Rattle.print.proofs.print.put_state.Goals as goal

pub returns-clause-printed : goal.returns-clause-printed
returns-clause-printed c = then (then c.put_bytes.ensures.printed c.put_list.ensures.printed) c.put_bytes-2.ensures.printed
