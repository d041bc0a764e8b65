-- The walk's rows so far, and the path from there in the table as the first walk leaves it, are the path of the key; the inner loop
-- has met none of the first path's rows.
use Rattle.std.proofs.Common.{◌≡◌, ℕ, ◌≤◌, ◌<◌, ◌-◌, length, get_or, take}
use Rattle.rules.specs.Rules.{path}
use Rattle.roots.specs.Trail.{compress}
use Rattle.roots.proofs.PathLaws.{along}
use Rattle.meeting.proofs.after.trace_after_into.Given as goal

abbrev pub invariant-walk : goal.invariant-walk
invariant-walk l =
    (l.steps ≤ 16)
    × (length l.trail.nodes ≡ 17)
    × (path (compress l.root l.passed l.parents) l.count 16 l.key
    ≡ along (take l.steps l.trail.nodes) (path (compress l.root l.passed l.parents) l.count (16 - l.steps) l.at))

abbrev pub decreases-walk : goal.decreases-walk
decreases-walk l = 16 - l.steps

abbrev pub invariant-loop-node : goal.invariant-loop-node
invariant-loop-node l = (i : ℕ) → i < l.node-index → get_or l.passed i 0 ≡ l.at → ⊥
