-- The walk is found where `near_walk` says so, and what is made of it is decided by `NearCalls`.
use Rattle.std.specs.Prelude.{Ok}
use Rattle.kit.specs.Names.{sym, ◌∙◌}
use Rattle.rules.specs.Rules.{rows_seen, log_seen}
use Rattle.roots.proofs.NearLaws.{near_found}
use Rattle.decisions.proofs.GoodLaws.{table_row}
use Rattle.near_one.proofs.NearCalls.{one_refused, one_decided}
use Rattle.near_one.proofs.calls.near_one.Goals as goal

pub returns-then-key-head : goal.returns-then-key-head
returns-then-key-head c last m =
    let a = c.args in
    let t = a.table in
    rw c.refused.ensures (one_refused (rows_seen t.seen) (log_seen t.seen) t.head last m t.good a.key a.call c.if-key-head.true)

pub one_plan-plan-requires : goal.one_plan-plan-requires
one_plan-plan-requires c =
    let a = c.args in
    let t = a.table in
    let rs = rows_seen t.seen in
    let n = c.in-Some.near in
    let found = near_found rs.parents t.head.count a.key c.if-key-head.false n (sym c.near_walk.ensures ∙ c.in-Some.is) in
    table_row t n.root found.root

pub returns : goal.returns
returns c last m =
    let a = c.args in
    let t = a.table in
    let rs = rows_seen t.seen in
    let n = c.in-Some.near in
    let p = c.one_plan-plan in
    let found = near_found rs.parents t.head.count a.key c.if-key-head.false n (sym c.near_walk.ensures ∙ c.in-Some.is) in
    rw (c.from_verdict.ensures, c.fitted.ensures)
    (one_decided rs (log_seen t.seen) t.head last m t.good a.key a.call c.if-key-head.false n found (Ok p.result) p.ensures.fact p.ensures.by_index)
