-- The code's table is that of the forms. Assumes nothing.
use Rattle.commands.specs.Forms.{forms}
use Rattle.parser.proofs.CommandLaws.{now_at, widths_at}
use Rattle.parser.proofs.parse.widths.Goals as goal

pub returns-clause-value : goal.returns-clause-value
unfolding forms
returns-clause-value c = rw now_at (widths_at c.args.form _ c.requires)
