-- How a function's contract speaks of a table while calls are carried out, at entry or at exit.
use Rattle.std.specs.Prelude.{◌≡◌}
use Rattle.rules.specs.Rules.{Table, table_in, SameParts}
use Rattle.layout.specs.Lent.{SameState, state_under}
use Rattle.numbered.specs.declared.going.Going.{Going}

-- The table, with the head that is at hand.
abbrev pub going_table : Going → Table
going_table g = table_in g.lent.now (state_under g.head g.state.now)

-- It is the same lent table still, with the same references.
abbrev pub SameGoing : Going → Going → Type 0
SameGoing g g' =
    (g.state.ghost_name ≡ g'.state.ghost_name)
    × (g.lent.ghost_name ≡ g'.lent.ghost_name)
    × SameState g.state.now g'.state.now
    × SameParts g.lent.now g'.lent.now
