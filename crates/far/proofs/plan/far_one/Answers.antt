-- The walk is traced; what is made of it is planned by `FarLaws`.
use Rattle.std.proofs.Common.{rules}
use Rattle.std.specs.Prelude.{◌≡◌, Ok, Err}
use Rattle.kit.specs.Names.{refl, sym, ◌∙◌}
use Rattle.rules.specs.Rules.{rows_seen, log_seen}
use Rattle.roots.specs.Trail.{root_of, Short}
use Rattle.roots.proofs.TrailLaws.{trail_root}
use Rattle.decisions.proofs.GoodLaws.{table_row, live_path}
use Rattle.far.proofs.FarLaws.{one_lost, one_planned}
use Rattle.far.proofs.plan.far_one.Goals as goal

pub returns-in_default : goal.returns-in_default
returns-in_default c =
    let a = c.args in
    let t = a.table in
    let v = c.live in
    one_lost (rows_seen t.seen) (log_seen t.seen) t.head t.good a.key c.requires a.call
    ((rw c.in_default.is at c.trace_into.ensures.result_value) ∙ live_path t v.result v.ensures.parents v.ensures.count a.key)

pub one_plan-plan-requires : goal.one_plan-plan-requires
one_plan-plan-requires c =
    let a = c.args in
    let t = a.table in
    let rs = rows_seen t.seen in
    let f = c.in-Some in
    let v = c.live in
    let is = (rw f.is at c.trace_into.ensures.result_value) ∙ live_path t v.result v.ensures.parents v.ensures.count a.key in
    let short : Short f.first.now = rw f.is at c.trace_into.ensures.short in
    table_row t (root_of f.first.now)
    (trail_root rs.parents t.head.count f.first.now a.key is short)

pub returns-in_err-plan : goal.returns-in_err-plan
returns-in_err-plan c =
    let a = c.args in
    let t = a.table in
    let rs = rows_seen t.seen in
    let f = c.in-Some in
    let v = c.live in
    let is = (rw f.is at c.trace_into.ensures.result_value) ∙ live_path t v.result v.ensures.parents v.ensures.count a.key in
    let short : Short f.first.now = rw f.is at c.trace_into.ensures.short in
    let p = c.one_plan-plan in
    let root = trail_root rs.parents t.head.count f.first.now a.key is short in
    let same : c.from_residual.result ≡ Err c.in_err-plan.field-0.0 = search rules in
    rw same
    (one_planned rs (log_seen t.seen) t.head t.good a.key c.requires a.call f.first.now (record { steps = 0; nodes = f.first.now.nodes })
    is short (record { steps = refl; size = short.size }) (Ok p.result) _ p.ensures.fact
    (p.ensures.by_index t.head.count root) _ c.saturating_sub.ensures (sym c.in_err-plan.was ∙ c.fitted.ensures))

pub returns : goal.returns
returns c =
    let a = c.args in
    let t = a.table in
    let rs = rows_seen t.seen in
    let f = c.in-Some in
    let v = c.live in
    let is = (rw f.is at c.trace_into.ensures.result_value) ∙ live_path t v.result v.ensures.parents v.ensures.count a.key in
    let short : Short f.first.now = rw f.is at c.trace_into.ensures.short in
    let p = c.one_plan-plan in
    let root = trail_root rs.parents t.head.count f.first.now a.key is short in
    one_planned rs (log_seen t.seen) t.head t.good a.key c.requires a.call f.first.now c.idle.result is short
    c.idle.ensures (Ok p.result) (Ok c.in_ok-plan.plan) p.ensures.fact (p.ensures.by_index t.head.count root) _ c.saturating_sub.ensures
    (sym c.in_ok-plan.was ∙ c.fitted.ensures)
