-- One entry more is undone.
use Rattle.std.proofs.Common.{◌-◌, ◌∙◌, arith, ap, rules}
use Rattle.rules.specs.Rules.{Log, UndoLog, entry_at, rows_in, log_in}
use Rattle.rollback.proofs.UndoLaws.{undone_row, undone_more, all_undone}
use Rattle.undoing.proofs.undo.undo.Goals as goal

pub reverse-requires : goal.reverse-requires
reverse-requires c =
    let before = c.args.lent.now in
    let l = c.loop-i in
    let e = c.entry_at-entry.ensures ∙ ap {B = UndoLog} (λ (g : Log). entry_at g (l.i - 1)) l.invariant.log in
    undone_row (rows_in before) (rows_in l.lent) (log_in before) c.args.base c.args.used l.i l.invariant.undone c.loop-i-test.true _ e

pub loop-i-preserved : goal.loop-i-preserved
loop-i-preserved c =
    let before = c.args.lent.now in
    let l = c.loop-i in
    let r = c.reverse.ensures in
    let e = c.entry_at-entry.ensures ∙ ap {B = UndoLog} (λ (g : Log). entry_at g (l.i - 1)) l.invariant.log in
    record {
      same_parts = search rules;
      log = r.log ∙ l.invariant.log;
      undone =
          undone_more (rows_in before) (rows_in l.lent) (log_in before) c.args.base c.args.used l.i l.invariant.undone c.loop-i-test.true _ e _ r.rows;
    }

pub returns-clause-rows : goal.returns-clause-rows
returns-clause-rows c =
    let before = c.args.lent.now in
    let l = c.loop-i in
    all_undone (rows_in before) (rows_in l.lent) (log_in before) c.args.base c.args.used l.i l.invariant.undone (omega arith)
