-- A bad table refuses any call.
use Rattle.kit.specs.Names.{sym, ◌∙◌}
use Rattle.rules.specs.Rules.{rows_in, log_in}
use Rattle.decisions.proofs.DoesLaws.{bad_does}
use Rattle.table.proofs.call.call.Goals as goal

pub returns-then-bad_lent-clause-value : goal.returns-then-bad_lent-clause-value
returns-then-bad_lent-clause-value c =
    let a = c.args in
    let o = a.outline in
    rw c.refuse_bad.ensures
    (bad_does (rows_in a.lent.now) (log_in a.lent.now) o.head o.last o.sought a.call (sym c.bad_lent.ensures ∙ c.if-bad_lent.true)).0
