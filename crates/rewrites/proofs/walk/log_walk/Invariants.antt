-- The rows from i on are logged.
use Rattle.std.proofs.Common.{◌-◌}
use Rattle.rules.specs.Rules.{memory_lent}
use Rattle.rewrites.proofs.LogLaws.{Logging}
use Rattle.rewrites.proofs.walk.log_walk.Given as goal

abbrev pub invariant-loop-i : goal.invariant-loop-i
invariant-loop-i l =
    let m = memory_lent l.parents l.crowns l.amounts in
    Logging (m l.initial.log l.opened l.used) l.trail.nodes (l.trail.steps - 1) (m l.log l.opened l.more) l.i
