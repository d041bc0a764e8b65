-- A bad table refuses any call; on another, a call on the head is the rules' step.
use Rattle.kit.specs.Names.{sym, ◌∙◌}
use Rattle.rules.specs.Rules.{rows_seen, log_seen}
use Rattle.undo_log.specs.HeadCalls.{head_call}
use Rattle.decisions.proofs.FitLaws.{good}
use Rattle.decisions.proofs.DoesLaws.{bad_does, rest_carried}
use Rattle.table.proofs.call.rest.Goals as goal

pub returns-then-bad_seen : goal.returns-then-bad_seen
returns-then-bad_seen c =
    let a = c.args in
    let o = a.outline in
    rw c.refuse_bad.ensures
    (bad_does (rows_seen a.seen) (log_seen a.seen) o.head o.last o.sought (head_call a.asked)
    (sym c.bad_seen.ensures ∙ c.if-bad_seen.true)).0

pub on_head-requires : goal.on_head-requires
on_head-requires c =
    let a = c.args in
    (good (rows_seen a.seen) (log_seen a.seen) a.outline.head (sym c.bad_seen.ensures ∙ c.if-bad_seen.false)).opened

pub returns : goal.returns
returns c =
    let a = c.args in
    let o = a.outline in
    rest_carried (rows_seen a.seen) (log_seen a.seen) o.head o.last o.sought a.asked
    (sym c.bad_seen.ensures ∙ c.if-bad_seen.false) _ c.on_head.ensures
