-- The marks from `i` on are none of the token's.
use Rattle.std.proofs.Common.{◌≡◌}
use Rattle.rules.specs.Rules.{seek, with_head}
use Rattle.sought.proofs.marks.seek.Given as goal

abbrev pub invariant-loop-i : goal.invariant-loop-i
invariant-loop-i g l = let s = with_head (g.M.Marks.state l.marks) l.fn.head in seek s l.token l.i ≡ seek s l.token l.fn.head.«open»
