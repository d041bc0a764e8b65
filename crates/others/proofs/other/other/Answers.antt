-- What an entry and a state leave, where it is told that the command is theirs. Assumes nothing.
use Rattle.rules.specs.Rules.{rows_in, log_in}
use Rattle.others.proofs.other.other.Goals as goal

pub returns-in-SetEntry-clause-value : goal.returns-in-SetEntry-clause-value
returns-in-SetEntry-clause-value c = rw c.in-SetEntry.is (c.set_entry.ensures (rows_in c.args.lent.now))

pub returns-in-SetState-clause-value : goal.returns-in-SetState-clause-value
returns-in-SetState-clause-value c = rw c.in-SetState.is (c.set_state.ensures (rows_in c.args.lent.now) (log_in c.args.lent.now))
