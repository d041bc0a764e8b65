-- The first number and the list after it make one text. Assumes nothing.
use Rattle.std.proofs.Common.{◌++◌, ℕ, List, ap, drop, get_or, take}
use Rattle.digits.specs.Printed.{listed, spell}
use Rattle.digits.proofs.PrintLaws.{saying, then}
use Rattle.print.specs.Texts.{answer_text}
use Rattle.print_answer.proofs.answer.put_answer.Goals as goal

pub returns-clause-printed : goal.returns-clause-printed
unfolding answer_text
returns-clause-printed c =
    let named = ap (λ (l : List ℕ). spell (get_or l 0 0) ++ listed (take 8 (drop 1 l))) c.answer_numbers-numbers.ensures in
    saying named (then c.put_number.ensures.printed c.put_list.ensures.printed)
