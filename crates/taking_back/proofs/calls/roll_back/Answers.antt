-- A rollback, refusal by refusal.
use Rattle.std.proofs.Common.{◌≡◌, true, false, rules}
use Rattle.rules.specs.Rules.{rows_seen, log_seen}
use Rattle.rollback.specs.Since.{broken}
use Rattle.rollback.proofs.RollbackLaws.{all_logged}
use Rattle.direct.proofs.DirectLaws.{back_missing, back_broken, back_done}
use Rattle.taking_back.proofs.calls.roll_back.Goals as goal

pub broken-requires : goal.broken-requires
broken-requires c = let a = c.args in all_logged (rows_seen a.table.seen) (log_seen a.table.seen) a.table.head a.table.good

pub returns-then-broken : goal.returns-then-broken
returns-then-broken c last =
    let a = c.args in
    let bad : broken a.table.head c.in-Some.mark (log_seen a.table.seen) ≡ true = search rules in
    rw (c.refused-then-broken.ensures, c.in-Some.is)
    (back_broken (rows_seen a.table.seen) (log_seen a.table.seen) a.table.head last a.token a.table.good c.in-Some.mark bad)

pub returns-in_default : goal.returns-in_default
returns-in_default c last =
    let a = c.args in
    rw (c.refused.ensures, c.in_default.is) (back_missing (rows_seen a.table.seen) (log_seen a.table.seen) a.table.head last a.token a.table.good)

pub returns : goal.returns
returns c last =
    let a = c.args in
    let whole : broken a.table.head c.in-Some.mark (log_seen a.table.seen) ≡ false = search rules in
    rw c.in-Some.is
    (back_done (rows_seen a.table.seen) (log_seen a.table.seen) a.table.head last a.token a.table.good c.in-Some.mark whole _
    c.refusal.ensures _ c.rolled_back.ensures)
