-- What a command leaves that is no call.
use Rattle.std.specs.Prelude.{Bool, true, false, cond}
use Rattle.rules.specs.Rules.{Table}
use Rattle.commands.specs.declared.command.Command.{Command}
use Rattle.commands.specs.declared.command.Command.TheVariants as command
use Rattle.commands.specs.declared.command.Lengths.{Lengths}
use Rattle.arrays.specs.declared.reply.Reply.TheVariants as reply
use Rattle.arrays.specs.Cut.{Left, leaving}
use Rattle.damage.specs.Commands.{changed}

abbrev pub is_call : Command → Bool
is_call command.Blank = false
is_call command.Error = false
is_call (command.Call c) = true
is_call (command.Table rows entries) = false
is_call (command.Row key) = false
is_call command.Live = false
is_call command.Dump = false
is_call (command.SetRow key r) = false
is_call (command.SetEntry i kind key r) = false
is_call (command.SetState count used opened last) = false
is_call (command.SetMark i m) = false
is_call (command.Lend new) = false

abbrev pub error_where : Bool → Lengths → Table → Command → Left
error_where wrong n t c = cond wrong (leaving reply.Error n t) (changed n t c)

-- a call is carried out elsewhere
abbrev pub otherwise : Lengths → Table → Command → Left
otherwise n t c = error_where (is_call c) n t c
