-- No two outcomes meet a call's contract: the answer, the state handed back and every lent list at exit are fixed by the table at
-- entry. One statement for all calls, since each has the same equation. Assumes nothing.
use mathlib.Core.Path.{◌≡◌, sym, ap, ◌∙◌}
use Rattle.rules.specs.Rules.{Answered, Call, Rows, Log, Table, table, Outcome, outcome_of, step}

pub record Same (r r' : Answered) (rs rs' : Rows) (l l' : Log) : Type 0 where
  pub answers : r.answer ≡ r'.answer
  pub states : r.state ≡ r'.state
  pub rows : rs ≡ rs'
  pub logs : l ≡ l'

-- Two answers, each with what it leaves in the lent slices, that both meet the contract of one call on one table.
pub only_one : (t : Table) (c : Call) (r r' : Answered) (rs rs' : Rows) (l l' : Log) → outcome_of r (table rs l) ≡ step t c
    → outcome_of r' (table rs' l') ≡ step t c → Same r r' rs rs' l l'
only_one t c r r' rs rs' l l' e f =
    let q = e ∙ sym f in
    record {
      answers = ap (λ (o : Outcome). o.answer) q;
      states = ap (λ (o : Outcome). o.table.state) q;
      rows = ap (λ (o : Outcome). o.table.rows) q;
      logs = ap (λ (o : Outcome). o.table.log) q;
    }
