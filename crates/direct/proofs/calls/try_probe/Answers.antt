-- A key's value without a walk, refusal by refusal.
use Rattle.kit.specs.Names.{◌∙◌}
use Rattle.rules.specs.Rules.{rows_seen, log_seen}
use Rattle.parts.proofs.BoundLaws.{even_row}
use Rattle.decisions.proofs.FitLaws.{good_even}
use Rattle.direct.proofs.DirectLaws.{try_no_key, try_nothing, try_value}
use Rattle.direct.proofs.calls.try_probe.Goals as goal
use Rattle.direct.proofs.calls.try_probe.Goals.{then-row-key, else-row-key}

pub returns-then-key-head : goal.returns-then-key-head
returns-then-key-head c last m =
    let a = c.args in
    rw c.refused.ensures
    (try_no_key (rows_seen a.table.seen) (log_seen a.table.seen) a.table.head last m a.table.good a.key c.if-key-head.true)

pub row_at-row-requires : goal.row_at-row-requires
row_at-row-requires c =
    let a = c.args in
    let rs = rows_seen a.table.seen in
    even_row rs a.table.head.count a.key (good_even rs (log_seen a.table.seen) a.table.head a.table.good) c.if-key-head.false

pub returns : goal.returns
returns c last m =
    let a = c.args in
    let rs = rows_seen a.table.seen in
    let l = log_seen a.table.seen in
    rw c.still.ensures
    (elim c.if-row-key.branch [
      | then-row-key w ↦
          try_value rs l a.table.head last m a.table.good a.key c.if-key-head.false _ c.row_at-row.ensures _ w.if-row-key.true _ w.from.ensures
          (w.answer-is ∙ w.held-answer.ensures)
      | else-row-key w ↦
          try_nothing rs l a.table.head last m a.table.good a.key c.if-key-head.false _ c.row_at-row.ensures _ w.if-row-key.false
          (w.answer-is ∙ w.said-answer.ensures)
    ])
