-- The lengths decide, and then whether there is a journal.
use Rattle.std.proofs.Common.{ap, sym, ◌∙◌, refl, arith}
use Rattle.results.specs.Results.{result_numbers}
use Rattle.recorder.specs.Journals.{known_lent}
use Rattle.recorder.proofs.JournalLaws.{known_short, known_roomless, known_roomy, known_away, known_out, none_known, as_known}
use Rattle.recorder.proofs.calls.meter_known.Goals as goal

pub returns-in_default : goal.returns-in_default
returns-in_default c =
    let a = c.args in
    let first = known_lent a.known.now a.res.now in
    let none = c.code.ensures in
    known_away first a.journal.now c.code.result (none ∙ known_short first c.in_default.ensures.cases) (λ e. omega (arith, none))

pub returns-in_default-as_mut_array : goal.returns-in_default-as_mut_array
returns-in_default-as_mut_array c =
    let a = c.args in
    let first = known_lent a.known.now a.res.now in
    let k = c.in-Some.ensures.cases in
    let none = c.code-in_default-as_mut_array.ensures in
    rw k.same (known_away first a.journal.now c.code-in_default-as_mut_array.result
    (none ∙ known_roomless first k.long c.in_default-as_mut_array.ensures.cases) (λ e. omega (arith, none)))

pub returns-then-not-valid : goal.returns-then-not-valid
returns-then-not-valid c =
    let a = c.args in
    let first = known_lent a.known.now a.res.now in
    let k = c.in-Some.ensures.cases in
    rw k.same (known_out first a.journal.now 0 (known_roomy first k.long c.in-Some-as_mut_array.ensures.cases.long) _ refl
    (none_known first a.journal.now (sym c.valid.ensures ∙ c.if-not-valid.true) c.put_result.new.res
    (c.put_result.ensures ∙ ap (λ n. result_numbers n 0) c.code-then-not-valid.ensures)))

pub returns : goal.returns
returns c =
    let a = c.args in
    let first = known_lent a.known.now a.res.now in
    let k = c.in-Some.ensures.cases in
    known_out first a.journal.now 0 (known_roomy first k.long c.in-Some-as_mut_array.ensures.cases.long) _ refl
    (as_known first a.journal.now (sym c.valid.ensures ∙ c.if-not-valid.false) c.put_known.new.known c.put_result-2.new.res c.known_of.result
    c.known_of.ensures c.put_known.ensures c.put_result-2.ensures)
