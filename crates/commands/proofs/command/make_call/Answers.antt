-- These arms too are forms of the table. Assumes nothing.
use Rattle.std.specs.Prelude.{◌≡◌}
use Rattle.kit.specs.Names.{arith}
use Rattle.commands.specs.Forms.{forms}
use Rattle.commands.proofs.FormLaws.{at_form}
use Rattle.commands.proofs.command.make_call.Goals as goal

pub returns-in-2 : goal.returns-in-2
unfolding forms
returns-in-2 c = at_form 2 _ _ c.in-2.is

pub returns-in_default : goal.returns-in_default
unfolding forms
returns-in_default c =
    let last : c.args.form ≡ 14 = omega arith in
    at_form 14 _ _ last
