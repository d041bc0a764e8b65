-- What the loop has passed, and the path from there, are the path of the key.
use Rattle.std.proofs.Common.{◌≡◌, length, take}
use Rattle.rules.specs.Rules.{path}
use Rattle.roots.proofs.PathLaws.{along, ahead}
use Rattle.roots.proofs.path.trace_into.Given as goal

abbrev pub invariant-loop-steps : goal.invariant-loop-steps
invariant-loop-steps l =
    (length l.trail.nodes ≡ 17) × (path l.parents l.count 16 l.key ≡ along (take l.steps l.trail.nodes) (ahead l.parents l.count l.steps l.at))
