-- Both walks are traced; what is made of them is planned by `FarLaws`.
use Rattle.std.specs.Prelude.{◌≡◌, Ok, Err}
use Rattle.std.proofs.Common.{rules}
use Rattle.kit.specs.Names.{sym, ◌∙◌}
use Rattle.rules.specs.Rules.{rows_seen, log_seen}
use Rattle.roots.specs.Trail.{root_of, compressed, Short}
use Rattle.roots.proofs.TrailLaws.{trail_root}
use Rattle.decisions.proofs.GoodLaws.{table_row, live_path, live_after}
use Rattle.far.proofs.FarLaws.{two_first_lost, two_second_lost, two_planned}
use Rattle.far.proofs.plan.far_two.Goals as goal

pub returns-in_default : goal.returns-in_default
returns-in_default c =
    let a = c.args in
    let t = a.table in
    let r = c.requires in
    let v = c.live-live in
    two_first_lost (rows_seen t.seen) (log_seen t.seen) t.head t.good a.a a.b r.a_lt_count r.b_lt_count a.call
    ((rw c.in_default.is at c.trace_into.ensures.result_value) ∙ live_path t v.result v.ensures.parents v.ensures.count a.a)

pub returns-in_default-trace_after_into : goal.returns-in_default-trace_after_into
returns-in_default-trace_after_into c =
    let a = c.args in
    let t = a.table in
    let r = c.requires in
    let f = c.in-Some in
    let v = c.live-live in
    let is = (rw f.is at c.trace_into.ensures.result_value) ∙ live_path t v.result v.ensures.parents v.ensures.count a.a in
    let short : Short f.first.now = rw f.is at c.trace_into.ensures.short in
    two_second_lost (rows_seen t.seen) (log_seen t.seen) t.head t.good a.a a.b r.a_lt_count r.b_lt_count a.call f.first.now is
    short ((rw c.in_default-trace_after_into.is at c.trace_after_into.ensures.result_value) ∙ live_after t v.result v.ensures.parents v.ensures.count a.b f.first.now)

pub two_plan-verdict-requires-clause-in_rows : goal.two_plan-verdict-requires-clause-in_rows
two_plan-verdict-requires-clause-in_rows c =
    let a = c.args in
    let t = a.table in
    let rs = rows_seen t.seen in
    let f = c.in-Some in
    let v = c.live-live in
    let is = (rw f.is at c.trace_into.ensures.result_value) ∙ live_path t v.result v.ensures.parents v.ensures.count a.a in
    let short : Short f.first.now = rw f.is at c.trace_into.ensures.short in
    table_row t (root_of f.first.now)
    (trail_root rs.parents t.head.count f.first.now a.a is short)

pub two_plan-verdict-requires-clause-in_rows_2 : goal.two_plan-verdict-requires-clause-in_rows_2
two_plan-verdict-requires-clause-in_rows_2 c =
    let a = c.args in
    let t = a.table in
    let rs = rows_seen t.seen in
    let f = c.in-Some in
    let v = c.live-live in
    let is = (rw f.is at c.trace_into.ensures.result_value) ∙ live_path t v.result v.ensures.parents v.ensures.count a.a in
    let short : Short f.first.now = rw f.is at c.trace_into.ensures.short in
    let s = c.in-Some-trace_after_into in
    let is-2 = (rw s.is at c.trace_after_into.ensures.result_value) ∙ live_after t v.result v.ensures.parents v.ensures.count a.b f.first.now in
    let short-2 : Short s.second.now = rw s.is at c.trace_after_into.ensures.short_2 in
    table_row t (root_of s.second.now)
    (trail_root (compressed f.first.now rs.parents) t.head.count s.second.now a.b is-2 short-2)

pub returns-in_err-plan : goal.returns-in_err-plan
returns-in_err-plan c =
    let a = c.args in
    let t = a.table in
    let r = c.requires in
    let rs = rows_seen t.seen in
    let f = c.in-Some in
    let v = c.live-live in
    let is = (rw f.is at c.trace_into.ensures.result_value) ∙ live_path t v.result v.ensures.parents v.ensures.count a.a in
    let short : Short f.first.now = rw f.is at c.trace_into.ensures.short in
    let s = c.in-Some-trace_after_into in
    let is-2 = (rw s.is at c.trace_after_into.ensures.result_value) ∙ live_after t v.result v.ensures.parents v.ensures.count a.b f.first.now in
    let short-2 : Short s.second.now = rw s.is at c.trace_after_into.ensures.short_2 in
    let p = c.two_plan-verdict in
    let root-a = trail_root rs.parents t.head.count f.first.now a.a is short in
    let root-b = trail_root (compressed f.first.now rs.parents) t.head.count s.second.now a.b is-2 short-2 in
    let same : c.from_residual.result ≡ Err c.in_err-plan.field-0.0 = search rules in
    rw same
    (two_planned rs (log_seen t.seen) t.head t.good a.a a.b r.a_lt_count r.b_lt_count a.call f.first.now is short
    s.second.now is-2 short-2 p.result _ p.ensures.fact (p.ensures.by_index t.head.count root-a root-b)
    _ _ c.saturating_sub.ensures c.saturating_sub-2.ensures (sym c.in_err-plan.was ∙ c.fitted.ensures))

pub returns : goal.returns
returns c =
    let a = c.args in
    let t = a.table in
    let r = c.requires in
    let rs = rows_seen t.seen in
    let f = c.in-Some in
    let v = c.live-live in
    let is = (rw f.is at c.trace_into.ensures.result_value) ∙ live_path t v.result v.ensures.parents v.ensures.count a.a in
    let short : Short f.first.now = rw f.is at c.trace_into.ensures.short in
    let s = c.in-Some-trace_after_into in
    let is-2 = (rw s.is at c.trace_after_into.ensures.result_value) ∙ live_after t v.result v.ensures.parents v.ensures.count a.b f.first.now in
    let short-2 : Short s.second.now = rw s.is at c.trace_after_into.ensures.short_2 in
    let p = c.two_plan-verdict in
    let root-a = trail_root rs.parents t.head.count f.first.now a.a is short in
    let root-b = trail_root (compressed f.first.now rs.parents) t.head.count s.second.now a.b is-2 short-2 in
    two_planned rs (log_seen t.seen) t.head t.good a.a a.b r.a_lt_count r.b_lt_count a.call f.first.now is short
    s.second.now is-2 short-2 p.result (Ok c.in_ok-plan.plan) p.ensures.fact (p.ensures.by_index t.head.count root-a root-b)
    _ _ c.saturating_sub.ensures c.saturating_sub-2.ensures (sym c.in_ok-plan.was ∙ c.fitted.ensures)
