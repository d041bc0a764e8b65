-- A join's plan is `join_roots`'s, at the rows that were read.
use Rattle.rules.specs.Rules.{rows_seen}
use Rattle.two_walks.proofs.plan.two_plan.Goals as goal

pub returns-else-a-b-clause-fact : goal.returns-else-a-b-clause-fact
returns-else-a-b-clause-fact c =
    rw c.in-Join.is
    (c.join_roots.ensures.joined c.if-a-b.false (rows_seen c.args.seen) c.row_at.ensures
    c.row_at-in-Join.ensures)
