-- Each sort of call is decided by its own function, and what is sorted is the call.
use Rattle.rules.specs.Rules.{rows_seen, log_seen}
use Rattle.decisions.proofs.FitLaws.{good}
use Rattle.decisions.proofs.DoesLaws.{rest_does}
use Rattle.decide.proofs.any.decide.Goals as goal

pub on_head-requires : goal.on_head-requires
on_head-requires c =
    let a = c.args in
    (good (rows_seen a.seen) (log_seen a.seen) a.outline.head c.requires).opened

pub returns-in-Walk : goal.returns-in-Walk
returns-in-Walk c = let o = c.args.outline in rw (← c.in-Walk.ensures) (c.near_walk.ensures o.last o.sought)

pub returns-in-New : goal.returns-in-New
returns-in-New c = let o = c.args.outline in rw (← c.in-New.ensures) (c.new_key.ensures o.last o.sought)

pub returns-in-TryProbe : goal.returns-in-TryProbe
returns-in-TryProbe c = let o = c.args.outline in rw (← c.in-TryProbe.ensures) (c.try_probe.ensures o.last o.sought)

pub returns-in-Rollback : goal.returns-in-Rollback
returns-in-Rollback c = let o = c.args.outline in rw (← c.in-Rollback.ensures) (c.roll_back.ensures o.last)

pub returns-in-Rest : goal.returns-in-Rest
returns-in-Rest c =
    let a = c.args in
    let o = a.outline in
    rw (← c.in-Rest.ensures, c.still.ensures)
    (rest_does (rows_seen a.seen) (log_seen a.seen) o.head o.last o.sought _ c.requires _ c.on_head.ensures)
