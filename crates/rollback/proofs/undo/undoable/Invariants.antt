-- The entries not yet read decide, from the count reached.
use Rattle.std.proofs.Common.{◌≡◌, ◌-◌}
use Rattle.rules.specs.Rules.{newest_first, undoable}
use Rattle.rollback.proofs.undo.undoable.Given as goal

abbrev pub invariant-loop-i : goal.invariant-loop-i
invariant-loop-i l =
    undoable l.keys l.count (newest_first l.log l.base (l.used - l.base)) ≡ undoable l.keys l.reached (newest_first l.log l.base (l.i - l.base))
