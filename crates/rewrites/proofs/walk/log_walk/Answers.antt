-- The rows are logged one by one, the nearest to the root first.
use Rattle.std.proofs.Common.{◌-◌, ◌<◌, arith}
use Rattle.rules.specs.Rules.{MAX-REDIRECTS, memory_lent}
use Rattle.rewrites.proofs.LogLaws.{logging_starts, logging_goes_on, logged_all, node_in, entry_in}
use Rattle.rewrites.proofs.walk.log_walk.Goals as goal

pub loop-i-init : goal.loop-i-init
loop-i-init c =
    let a = c.args in
    let s = c.requires.sound.short in
    let low : a.trail.steps - 1 < MAX-REDIRECTS = omega (arith, s.steps) in
    rw c.saturating_sub-i.ensures
    (logging_starts (memory_lent a.parents.now a.crowns.now a.amounts.now a.log.now a.opened a.used) a.trail.nodes (a.trail.steps - 1) s.size low)

pub log_row-more-requires-clause-in_rows : goal.log_row-more-requires-clause-in_rows
log_row-more-requires-clause-in_rows c =
    let a = c.args in
    let l = c.loop-i in
    let m = memory_lent a.parents.now a.crowns.now a.amounts.now in
    node_in (m a.log.now a.opened a.used) a.count a.trail c.requires.sound (omega arith) c.requires.ready (m l.log a.opened l.more) l.i
    l.invariant c.loop-i-test.true

pub log_row-more-requires-clause-in_log : goal.log_row-more-requires-clause-in_log
log_row-more-requires-clause-in_log c =
    let a = c.args in
    let l = c.loop-i in
    let m = memory_lent a.parents.now a.crowns.now a.amounts.now in
    entry_in (m a.log.now a.opened a.used) a.count a.trail c.requires.sound (omega arith) c.requires.ready (m l.log a.opened l.more) l.i
    l.invariant c.loop-i-test.true

pub loop-i-preserved : goal.loop-i-preserved
loop-i-preserved c =
    let a = c.args in
    let l = c.loop-i in
    let s = c.requires.sound.short in
    let m = memory_lent a.parents.now a.crowns.now a.amounts.now in
    let low : a.trail.steps - 1 < MAX-REDIRECTS = omega (arith, s.steps) in
    logging_goes_on (m a.log.now a.opened a.used) a.trail.nodes (a.trail.steps - 1) s.size low (m l.log a.opened l.more) l.i l.invariant
    c.loop-i-test.true (m c.log_row-more.new.log a.opened c.log_row-more.result) (c.log_row-more.ensures a.opened (omega arith))
    (omega arith)

pub returns : goal.returns
returns c =
    let a = c.args in
    let l = c.loop-i in
    let m = memory_lent a.parents.now a.crowns.now a.amounts.now in
    logged_all (m a.log.now a.opened a.used) a.trail c.requires.sound.short (m l.log a.opened l.more) l.i l.invariant (omega arith)
