-- The room decides, and the entries are appended.
use Rattle.std.proofs.Common.{ap, sym, ◌∙◌, refl, arith}
use Rattle.journal.specs.Append.{Appended}
use Rattle.appending.specs.Outcome.{appended_to}
use Rattle.results.specs.Results.{result_numbers}
use Rattle.recorder.specs.Journals.{append_lent}
use Rattle.recorder.proofs.JournalLaws.{append_roomless, append_roomy, append_away, append_out, as_appended}
use Rattle.recorder.proofs.calls.meter_append.Goals as goal

pub returns-in_default : goal.returns-in_default
returns-in_default c =
    let a = c.args in
    let first = append_lent a.journal.now a.res.now in
    let none = c.code.ensures in
    append_away first a.used a.entries.now c.code.result (none ∙ append_roomless first c.in_default.ensures.cases) (λ e. omega (arith, none))

pub returns-in-Ok : goal.returns-in-Ok
returns-in-Ok c =
    let a = c.args in
    let first = append_lent a.journal.now a.res.now in
    let bs = c.append.new.buffer in
    let done = sym (ap {B = Appended} (λ r. appended_to a.used r bs) c.in-Ok.is) ∙ c.append.ensures in
    append_out first a.used a.entries.now 0 (append_roomy first c.in-Some.ensures.cases.long) _ refl
    (as_appended first a.used a.entries.now _ c.put_result.new.res done c.put_result.ensures)

pub returns-in-Err : goal.returns-in-Err
returns-in-Err c =
    let a = c.args in
    let first = append_lent a.journal.now a.res.now in
    let bs = c.append.new.buffer in
    let done = sym (ap {B = Appended} (λ r. appended_to a.used r bs) c.in-Err.is) ∙ c.append.ensures in
    append_out first a.used a.entries.now 0 (append_roomy first c.in-Some.ensures.cases.long) _ refl
    (as_appended first a.used a.entries.now _ c.put_result-in-Err.new.res done
    (c.put_result-in-Err.ensures ∙ ap (λ n. result_numbers n a.used) c.code-in-Err.ensures))
