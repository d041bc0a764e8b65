-- The words of its text are the names of the table. Assumes nothing.
use Rattle.commands.specs.Forms.{forms}
use Rattle.words.specs.Line.{words_after}
use Rattle.parser.proofs.parse.form_of.Goals as goal

pub returns-clause-value : goal.returns-clause-value
unfolding forms words_after
returns-clause-value c = c.place_of.ensures.value

pub returns-clause-upper_bound : goal.returns-clause-upper_bound
unfolding forms words_after
returns-clause-upper_bound c = c.place_of.ensures.upper_bound
