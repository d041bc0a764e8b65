-- The lengths and the test decide, and what passes them is run.
use Rattle.std.proofs.Common.{◌≡◌, rules, sym, ◌∙◌, refl, length, arith}
use Rattle.coding.specs.Coding.{call_list}
use Rattle.coding.proofs.CodingLaws.{four_each}
use Rattle.admit.proofs.AdmitLaws.{unserved, numbers_missing, serials_missing, state_there, heard_out}
use Rattle.runs.specs.Served.{host_lent}
use Rattle.host.proofs.HostLaws.{turned_away_lem, carried_out_lem}
use Rattle.host.proofs.calls.meter_calls.Goals as goal

pub returns-in_default : goal.returns-in_default
returns-in_default c =
    let a = c.args in
    let first = host_lent a.numbers.now a.serials.now a.parents.now a.crowns.now a.amounts.now a.log.now a.answers.now in
    let none = c.code.ensures in
    turned_away_lem first (call_list a.calls.now) c.code.result
    (none ∙ numbers_missing (length a.numbers.now) (length a.serials.now) (call_list a.calls.now) (length a.answers.now) c.in_default.ensures.cases)
    (λ e. omega (arith, none))

pub returns-in_default-as_mut_array : goal.returns-in_default-as_mut_array
returns-in_default-as_mut_array c =
    let a = c.args in
    let first = host_lent a.numbers.now a.serials.now a.parents.now a.crowns.now a.amounts.now a.log.now a.answers.now in
    let n = c.in-Some.ensures.cases in
    let none = c.code-in_default-as_mut_array.ensures in
    rw n.same (turned_away_lem first (call_list a.calls.now) c.code-in_default-as_mut_array.result
    (none ∙ serials_missing (length a.numbers.now) (length a.serials.now) (call_list a.calls.now) (length a.answers.now) n.long
    c.in_default-as_mut_array.ensures.cases) (λ e. omega (arith, none)))

pub returns-in-Err : goal.returns-in-Err
returns-in-Err c =
    let a = c.args in
    let first = host_lent a.numbers.now a.serials.now a.parents.now a.crowns.now a.amounts.now a.log.now a.answers.now in
    let n = c.in-Some.ensures.cases in
    let s = c.in-Some-as_mut_array.ensures.cases in
    let code = c.code-in-Err.ensures in
    rw (n.same, s.same) (turned_away_lem first (call_list a.calls.now) c.code-in-Err.result
    (code ∙ c.in-Err.ensures ∙ state_there (length a.numbers.now) (length a.serials.now) (call_list a.calls.now) (length a.answers.now) n.long s.long)
    (λ e. unserved c.in-Err.unserved (sym code ∙ e)))

pub run-requires-clause-calls_value : goal.run-requires-clause-calls_value
run-requires-clause-calls_value c =
    (heard_out (call_list c.args.calls.now) (length c.args.answers.now) (sym c.in_default-test_calls.ensures)).0

pub run-requires-clause-calls_bound : goal.run-requires-clause-calls_bound
run-requires-clause-calls_bound c =
    let a = c.args in
    let h = heard_out (call_list a.calls.now) (length a.answers.now) (sym c.in_default-test_calls.ensures) in
    omega (arith, h.1, four_each a.calls.now h.0)

pub returns : goal.returns
returns c =
    let a = c.args in
    let first = host_lent a.numbers.now a.serials.now a.parents.now a.crowns.now a.amounts.now a.log.now a.answers.now in
    let n = c.in-Some.ensures.cases in
    let s = c.in-Some-as_mut_array.ensures.cases in
    let there = state_there (length a.numbers.now) (length a.serials.now) (call_list a.calls.now) (length a.answers.now) n.long s.long in
    carried_out_lem first (call_list a.calls.now) 0 (c.in_default-test_calls.ensures ∙ there) _ refl (search (rules, c.run.ensures.value))
