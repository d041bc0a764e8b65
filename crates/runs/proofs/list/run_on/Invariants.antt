-- What is left of the calls leads to the same end.
use Rattle.std.proofs.Common.{◌*◌}
use Rattle.numbered.specs.Going.{SameGoing}
use Rattle.runs.specs.Served.{host_in}
use Rattle.runs.proofs.RunLaws.{Keeping}
use Rattle.runs.proofs.list.run_on.Given as goal

abbrev pub invariant-loop-i : goal.invariant-loop-i
invariant-loop-i l =
    record {
      same_going : SameGoing l.initial.going l.going;
      keeping : Keeping (host_in l.initial.going.state.now l.initial.going.lent.now l.initial.answers) l.going.head (host_in l.going.state.now l.going.lent.now l.answers) l.calls (4 * l.i) (l.i * 9);
    }
