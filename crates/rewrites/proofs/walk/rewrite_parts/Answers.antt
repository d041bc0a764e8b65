-- The rows are logged, and then the parents are compressed.
use Rattle.std.proofs.Common.{refl, arith}
use Rattle.rules.specs.Rules.{memory_lent}
use Rattle.rewrites.proofs.RewriteWalk.{short_walk, leads, rewritten}
use Rattle.rewrites.proofs.walk.rewrite_parts.Goals as goal

pub returns-then-trail-lt2 : goal.returns-then-trail-lt2
returns-then-trail-lt2 c =
    let a = c.args in
    short_walk (memory_lent a.parents.now a.crowns.now a.amounts.now a.log.now a.opened a.used) a.count a.trail c.requires.sound (omega arith)

pub inlined_get_root_key-requires : goal.inlined_get_root_key-requires
inlined_get_root_key-requires c =
    let a = c.args in
    let m = memory_lent a.parents.now a.crowns.now a.amounts.now in
    leads (m a.log.now a.opened a.used) a.count a.trail c.requires.sound (m c.log_walk-more.new.log a.opened c.log_walk-more.result) refl
    c.requires.ready.rows.parents (omega arith)

pub returns : goal.returns
returns c =
    let a = c.args in
    let m = memory_lent a.parents.now a.crowns.now a.amounts.now in
    rewritten (m a.log.now a.opened a.used) a.count a.trail c.requires.sound (m c.log_walk-more.new.log a.opened c.log_walk-more.result) refl
    (omega arith) c.log_walk-more.ensures c.inlined_get_root_key.result c.inlined_get_root_key.new.parents c.inlined_get_root_key.ensures
