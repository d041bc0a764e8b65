-- What is no name of the table makes no command. Assumes nothing.
use Rattle.parser.proofs.CommandLaws.{no_name}
use Rattle.parser.proofs.parse.of_words.Goals as goal

pub returns-in_err-form : goal.returns-in_err-form
returns-in_err-form c = rw (c.from_residual-in_err-form.ensures, c.in_ok-next.ensures.steps) (no_name _ _ c.in_err-form.ensures.value)
