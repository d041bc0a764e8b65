-- The lengths and the test decide, and what passes them is carried out and written.
use Rattle.std.proofs.Common.{rules, ap, sym, ◌∙◌, refl, arith, length, cond, List, ℕ}
use Rattle.admit.specs.Admit.{NO-STATE, hearing}
use Rattle.admit.proofs.AdmitLaws.{unserved, heard_out}
use Rattle.coding.specs.Coding.{call_list}
use Rattle.coding.proofs.CodingLaws.{four_each}
use Rattle.journal.specs.declared.known.Known.{Known}
use Rattle.known_numbers.specs.Known.{is_known, known_in}
use Rattle.known_numbers.proofs.TestLaws.{recordable}
use Rattle.runs.specs.Served.{host_lent}
use Rattle.recorder.specs.Journals.{record_lent}
use Rattle.recorder.proofs.JournalLaws.{record_numbers_missing, record_serials_missing, record_unknown, record_tested, record_away, record_out, as_recorded}
use Rattle.recorder.proofs.calls.meter_record.Goals as goal

pub returns-in_default : goal.returns-in_default
returns-in_default c =
    let a = c.args in
    let host = host_lent a.numbers.now a.serials.now a.parents.now a.crowns.now a.amounts.now a.log.now a.answers.now in
    let first = record_lent host a.journal.now a.known.now in
    let asked = call_list a.calls.now in
    let none = c.code.ensures in
    record_away first asked c.code.result (none ∙ record_numbers_missing first asked c.in_default.ensures.cases) (λ e. omega (arith, none))

pub returns-in_default-as_mut_array : goal.returns-in_default-as_mut_array
returns-in_default-as_mut_array c =
    let a = c.args in
    let host = host_lent a.numbers.now a.serials.now a.parents.now a.crowns.now a.amounts.now a.log.now a.answers.now in
    let first = record_lent host a.journal.now a.known.now in
    let asked = call_list a.calls.now in
    let n = c.in-Some.ensures.cases in
    let none = c.code-in_default-as_mut_array.ensures in
    rw n.same (record_away first asked c.code-in_default-as_mut_array.result
    (none ∙ record_serials_missing first asked n.long c.in_default-as_mut_array.ensures.cases) (λ e. omega (arith, none)))

pub returns-in_default-as_mut_array-2 : goal.returns-in_default-as_mut_array-2
returns-in_default-as_mut_array-2 c =
    let a = c.args in
    let host = host_lent a.numbers.now a.serials.now a.parents.now a.crowns.now a.amounts.now a.log.now a.answers.now in
    let first = record_lent host a.journal.now a.known.now in
    let asked = call_list a.calls.now in
    let none = c.code-in_default-as_mut_array-2.ensures in
    rw (c.in-Some.ensures.cases.same, c.in-Some-as_mut_array.ensures.cases.same) (record_away first asked c.code-in_default-as_mut_array-2.result
    (none ∙ record_unknown first asked c.in_default-as_mut_array-2.ensures.cases) (λ e. omega (arith, none)))

pub returns-in-Err : goal.returns-in-Err
returns-in-Err c =
    let a = c.args in
    let host = host_lent a.numbers.now a.serials.now a.parents.now a.crowns.now a.amounts.now a.log.now a.answers.now in
    let first = record_lent host a.journal.now a.known.now in
    let asked = call_list a.calls.now in
    let n = c.in-Some.ensures.cases in
    let s = c.in-Some-as_mut_array.ensures.cases in
    let k = c.in-Some-as_mut_array-2.ensures.cases in
    let code = c.code-in-Err.ensures in
    let tested = ap (λ (ks : List ℕ). cond (is_known ks) (hearing asked (length a.answers.now)) NO-STATE) k.same in
    rw (n.same, s.same, k.same) (record_away first asked c.code-in-Err.result
    (code ∙ c.in-Err.ensures ∙ tested ∙ record_tested first asked n.long s.long) (λ e. unserved c.in-Err.unserved (sym code ∙ e)))

pub run_recorded-requires-clause-calls_value : goal.run_recorded-requires-clause-calls_value
run_recorded-requires-clause-calls_value c =
    let asked = call_list c.args.calls.now in
    let room = length c.args.answers.now in
    let r = recordable asked room c.in-Some-as_mut_array-2.known.now (sym c.in_default-test_record.ensures) in
    (heard_out asked room r.1).0

pub run_recorded-requires-clause-calls_bound : goal.run_recorded-requires-clause-calls_bound
run_recorded-requires-clause-calls_bound c =
    let asked = call_list c.args.calls.now in
    let room = length c.args.answers.now in
    let r = recordable asked room c.in-Some-as_mut_array-2.known.now (sym c.in_default-test_record.ensures) in
    let h = heard_out asked room r.1 in
    omega (arith, h.1, four_each c.args.calls.now h.0)

pub returns : goal.returns
returns c =
    let a = c.args in
    let host = host_lent a.numbers.now a.serials.now a.parents.now a.crowns.now a.amounts.now a.log.now a.answers.now in
    let first = record_lent host a.journal.now a.known.now in
    let asked = call_list a.calls.now in
    let n = c.in-Some.ensures.cases in
    let s = c.in-Some-as_mut_array.ensures.cases in
    let k = c.in-Some-as_mut_array-2.ensures.cases in
    let tested = ap (λ (ks : List ℕ). cond (is_known ks) (hearing asked (length a.answers.now)) NO-STATE) k.same in
    record_out first asked 0 (c.in_default-test_record.ensures ∙ tested ∙ record_tested first asked n.long s.long) _ refl
    (as_recorded first asked c.known_in-before.result (c.known_in-before.ensures ∙ ap {B = Known} known_in k.same) _ _ c.run_recorded.new.book.known _
    (search (rules, c.run_recorded.ensures.value)) c.put_known.ensures)
