-- A call over an outline is the call over the state.
use Rattle.rules.specs.Rules.{table_seen}
use Rattle.undo_log.specs.HeadCalls.{head_call}
use Rattle.table.proofs.StateCalls.{by_state}
use Rattle.table.proofs.by_value.rest.Goals as goal

pub returns : goal.returns
returns c =
    let a = c.args in
    let t = table_seen a.seen in
    by_state t t a.state (head_call a.asked) c.outline.result c.rest-settled.result c.state_after.result
    (rw c.from.ensures at c.outline.ensures) c.rest-settled.ensures c.state_after.ensures
