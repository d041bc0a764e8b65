-- The plan is refused, or carried out.
use Rattle.rules.specs.Rules.{rows_in, log_in}
use Rattle.decisions.specs.Sorted.{walk_call}
use Rattle.decisions.specs.End.{ended_with}
use Rattle.writes.proofs.FarCalls.{far_refused, far_carried}
use Rattle.writes.proofs.long.far.Goals as goal

pub returns-in-Err-clause-value : goal.returns-in-Err-clause-value
returns-in-Err-clause-value c =
    let a = c.args in
    let s = c.seen.ensures in
    far_refused (rows_in a.lent.now) (log_in a.lent.now) a.head (walk_call a.call) c.in-Err.why (rw (c.in-Err.is, s.parents, s.crowns, s.amounts, s.log) at c.far_plan.ensures)
    c.refused.result c.refused.ensures

pub returns-in-Ok-clause-value : goal.returns-in-Ok-clause-value
returns-in-Ok-clause-value c =
    let a = c.args in
    let s = c.seen.ensures in
    let out = c.carry_out in
    far_carried (rows_in a.lent.now) (log_in a.lent.now) a.head (walk_call a.call) c.in-Ok.far (rw (c.in-Ok.is, s.parents, s.crowns, s.amounts, s.log) at c.far_plan.ensures)
    (ended_with (rows_in out.new.lent) (log_in out.new.lent) out.result) out.ensures.value

pub carry_out-requires : goal.carry_out-requires
carry_out-requires c =
    let s = c.seen.ensures in
    (rw (c.in-Ok.is, s.parents, s.crowns, s.amounts, s.log) at c.far_plan.ensures).1
