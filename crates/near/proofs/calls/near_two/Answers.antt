-- Both walks are found where `near_root` says so, and what is made of them is decided by `NearCalls`.
use Rattle.rules.specs.Rules.{rows_seen, log_seen}
use Rattle.decisions.proofs.GoodLaws.{table_row, live_near}
use Rattle.near_one.proofs.NearCalls.{two_refused_first, two_refused_second, two_decided}
use Rattle.near.proofs.calls.near_two.Goals as goal
use Rattle.near.proofs.calls.near_two.Goals.{then-a-head-via-then-a-head, then-a-head-via-else-a-head+then-b-head}

pub returns-then-a-head : goal.returns-then-a-head
returns-then-a-head c last m =
    let a = c.args in
    let t = a.table in
    rw c.refused.ensures
    (elim c.then-a-head.branch [
      | then-a-head-via-then-a-head w ↦
          two_refused_first (rows_seen t.seen) (log_seen t.seen) t.head last m t.good a.a a.b a.call w.if-a-head.true
      | then-a-head-via-else-a-head+then-b-head w ↦
          two_refused_second (rows_seen t.seen) (log_seen t.seen) t.head last m t.good a.a a.b a.call w.if-a-head.false w.if-b-head.true
    ])

pub two_plan-plan-requires-clause-in_rows : goal.two_plan-plan-requires-clause-in_rows
two_plan-plan-requires-clause-in_rows c =
    let a = c.args in
    let t = a.table in
    let rs = rows_seen t.seen in
    let n = c.in-Some.first in
    let v = c.live-live in
    let first = live_near t v.result v.ensures.parents v.ensures.count a.a c.if-a-head.false c.near_root.result n c.near_root.ensures c.in-Some.is in
    table_row t n.root first.root

pub two_plan-plan-requires-clause-in_rows_2 : goal.two_plan-plan-requires-clause-in_rows_2
two_plan-plan-requires-clause-in_rows_2 c =
    let a = c.args in
    let t = a.table in
    let rs = rows_seen t.seen in
    let n = c.in-Some-near_root.second in
    let v = c.live-live in
    let second =
    live_near t v.result v.ensures.parents v.ensures.count a.b c.if-b-head.false c.near_root-2.result n c.near_root-2.ensures c.in-Some-near_root.is in
    table_row t n.root second.root

pub returns : goal.returns
returns c last m =
    let a = c.args in
    let t = a.table in
    let rs = rows_seen t.seen in
    let n = c.in-Some.first in
    let k = c.in-Some-near_root.second in
    let p = c.two_plan-plan in
    let v = c.live-live in
    let first = live_near t v.result v.ensures.parents v.ensures.count a.a c.if-a-head.false c.near_root.result n c.near_root.ensures c.in-Some.is in
    let second =
    live_near t v.result v.ensures.parents v.ensures.count a.b c.if-b-head.false c.near_root-2.result k c.near_root-2.ensures c.in-Some-near_root.is in
    rw (c.from_verdict.ensures, c.fitted.ensures)
    (two_decided rs (log_seen t.seen) t.head last m t.good a.a a.b a.call c.if-a-head.false c.if-b-head.false n k first second p.result
    p.ensures.fact p.ensures.by_index)
