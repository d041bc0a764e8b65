-- The row's numbers stand where they are lent. Assumes nothing.
use Rattle.rules.specs.Rules.{rows_in, log_in}
use Rattle.damage.proofs.CommandLaws.{row_set}
use Rattle.damage.proofs.damage.set_row.Goals as goal

pub returns-clause-value : goal.returns-clause-value
returns-clause-value c =
    let a = c.args in
    row_set a.holding.lengths (rows_in a.lent.now) (log_in a.lent.now) a.holding.state a.row a.key
    c.at_most-parents.result c.at_most-crowns.result c.at_most-amounts.result c.most_rows.result c.done-reply.result c.put.new.part c.put-2.new.part c.put-3.new.part
    c.at_most-parents.ensures c.at_most-crowns.ensures c.at_most-amounts.ensures c.most_rows.ensures c.done-reply.ensures
    c.put.ensures c.put-2.ensures c.put-3.ensures
