-- The reply that is printed is that of the line's command. Assumes nothing.
use Rattle.rules.specs.Rules.{rows_in, log_in, table_in}
use Rattle.arrays.specs.declared.reply.Changed.{Changed}
use Rattle.meter.proofs.TurnLaws.{answered}
use Rattle.meter.proofs.turn.answer.Goals as goal

pub returns-clause-value : goal.returns-clause-value
returns-clause-value c =
    let a = c.args in
    let n = c.change_in-reply.new.lent in
    let left : Changed = record { holding = c.change_in-reply.new.holding; reply = c.change_in-reply.result } in
    let s = c.seen.ensures in
    let said = rw (s.parents, s.crowns, s.amounts, s.log) at c.say.ensures.said in
    answered a.reading.now (table_in a.lent.now) a.line.now a.out.now.page.bytes.now a.out.now.page.at
    c.command_of-command.result left (rows_in n) (log_in n) c.say.new.out.page.bytes.now c.say.new.out.page.at
    c.go_on.new.reading c.command_of-command.ensures c.change_in-reply.ensures.value said c.go_on.ensures
