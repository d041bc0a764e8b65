-- A call over an outline is the call over the state.
use Rattle.rules.specs.Rules.{table_in}
use Rattle.table.proofs.StateCalls.{by_state}
use Rattle.table.proofs.by_value.call.Goals as goal

pub returns-clause-value : goal.returns-clause-value
returns-clause-value c =
    let a = c.args in
    by_state (table_in a.lent.now) (table_in c.call-settled.new.lent) a.state a.call c.outline.result c.call-settled.result c.state_after.result
    c.outline.ensures c.call-settled.ensures.value c.state_after.ensures
