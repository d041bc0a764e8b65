-- A post's plan is `post_plan`'s, at the row that was read and the owner that was made.
use Rattle.rules.specs.Rules.{rows_seen}
use Rattle.one_walk.proofs.plan.one_plan.Goals as goal

pub returns-in-Post-clause-fact : goal.returns-in-Post-clause-fact
returns-in-Post-clause-fact c =
    rw (c.in-Post.is, ← c.from-in-Post.ensures)
    (c.post_plan.ensures.posted (rows_seen c.args.seen) c.row_at.ensures)
