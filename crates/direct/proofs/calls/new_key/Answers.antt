-- A new key, refusal by refusal.
use Rattle.std.proofs.Common.{◌≡◌, true, false, arith, rules}
use Rattle.rules.specs.Rules.{rows_seen, log_seen, entries}
use Rattle.plans.specs.Plans.{lacks}
use Rattle.decisions.proofs.FitLaws.{good}
use Rattle.direct.proofs.DirectLaws.{new_keys_full, new_log_full, new_done}
use Rattle.direct.proofs.calls.new_key.Goals as goal

pub returns-then-head-seen : goal.returns-then-head-seen
returns-then-head-seen c last m =
    let a = c.args in
    rw c.refused.ensures
    (new_keys_full (rows_seen a.table.seen) (log_seen a.table.seen) a.table.head last m a.table.good a.owner a.amount c.if-head-seen.true)

pub returns-then-lacks : goal.returns-then-lacks
returns-then-lacks c last m =
    let a = c.args in
    let full : lacks a.table.head.«open» a.table.head.used (entries (log_seen a.table.seen)) 1 ≡ true = search rules in
    rw c.refused-then-lacks.ensures
    (new_log_full (rows_seen a.table.seen) (log_seen a.table.seen) a.table.head last m a.table.good a.owner a.amount c.if-head-seen.false full)

pub overflow_add-result : goal.overflow_add-result
overflow_add-result c =
    let a = c.args in
    let g = good (rows_seen a.table.seen) (log_seen a.table.seen) a.table.head a.table.good in
    omega (arith, g.count, g.level.rows)

pub returns : goal.returns
returns c last m =
    let a = c.args in
    let room : lacks a.table.head.«open» a.table.head.used (entries (log_seen a.table.seen)) 1 ≡ false = search rules in
    new_done (rows_seen a.table.seen) (log_seen a.table.seen) a.table.head last m a.table.good a.owner a.amount c.if-head-seen.false room _
    c.from.ensures _ c.found.ensures
