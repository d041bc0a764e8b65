-- What a view shows.
use Rattle.kit.specs.Names.{ℕ}
use Rattle.rules.specs.declared.call.Call.TheVariants.{Actions as AskActions}
use Rattle.rules.specs.Rules.{Log, Table, entries, actions_view, step}
use Rattle.actions.specs.declared.view.Actions.{Actions}

-- The part of the log that a view refers to.
abbrev pub shown : Actions → Log
shown v = v.log.now

-- How many entries it has.
abbrev pub count_of : Actions → ℕ
count_of v = entries (shown v)

-- The entries since a snapshot: the view of the range that the call answers.
abbrev pub seen : Table → ℕ → Log
seen t token = actions_view t.log (step t (AskActions token)).answer
