-- What is left to undo, of the rows as they stand, leads to the same rows.
use Rattle.std.specs.Prelude.{◌≡◌}
use Rattle.rules.specs.Rules.{rows_in, log_in, SameParts}
use Rattle.rollback.proofs.UndoLaws.{Undone}
use Rattle.undoing.proofs.undo.undo.Given as goal

abbrev pub invariant-loop-i : goal.invariant-loop-i
invariant-loop-i l =
    record {
      same_parts : SameParts l.fn.lent l.lent;
      log : log_in l.lent ≡ log_in l.fn.lent;
      undone : Undone (rows_in l.fn.lent) (rows_in l.lent) (log_in l.fn.lent) l.base l.used l.i;
    }
