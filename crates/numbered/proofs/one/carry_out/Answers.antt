-- Whether the table is bad afterwards.
use Rattle.std.proofs.Common.{sym, ◌∙◌}
use Rattle.rules.specs.Rules.{table_in}
use Rattle.layout.specs.Lent.{state_under}
use Rattle.numbered.specs.Going.{going_table}
use Rattle.numbered.proofs.OneLaws.{bad_on}
use Rattle.numbered.proofs.one.carry_out.Goals as goal

pub invariant_of-going : goal.invariant_of-going
invariant_of-going c =
    let before = c.args.going.now in
    let s = c.settle-settled in
    record {
      known = c.stray-going.ensures
          ∙ bad_on (going_table before) (table_in s.new.lent (state_under s.result.head s.new.state)) s.result.answer c.args.call
          (sym before.known ∙ c.requires.good) s.ensures.value;
    }
