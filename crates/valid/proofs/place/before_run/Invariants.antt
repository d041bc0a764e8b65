use Rattle.valid.proofs.PlaceLaws.{Running}
use Rattle.valid.proofs.place.before_run.Given as goal

abbrev pub invariant-loop : goal.invariant-loop
invariant-loop l = Running l.bytes l.initial.now l.now l.counter
