-- What is known and the room decide, and what waits is made a segment.
use Rattle.std.proofs.Common.{◌≡◌, rules, ap, sym, ◌∙◌, refl, arith, true, false}
use Rattle.journal.specs.Record.{Flushed, flushed, book_in}
use Rattle.journal.specs.declared.known.Known.{Known}
use Rattle.known_numbers.specs.Known.{is_known, known_in}
use Rattle.known_numbers.proofs.KnownLaws.{not_four}
use Rattle.recorder.specs.Journals.{flush_lent}
use Rattle.recorder.proofs.JournalLaws.{flush_unknown, flush_roomless, flush_roomy, flush_away, flush_out, as_flushed}
use Rattle.recorder.proofs.calls.meter_flush.Goals as goal

pub returns-in_default : goal.returns-in_default
returns-in_default c =
    let a = c.args in
    let first = flush_lent a.journal.now a.known.now a.res.now in
    let none = c.code.ensures in
    flush_away first c.code.result (none ∙ flush_unknown first (sym (not_four a.known.now c.in_default.ensures.cases))) (λ e. omega (arith, none))

pub returns-then-not-is_known : goal.returns-then-not-is_known
returns-then-not-is_known c =
    let a = c.args in
    let first = flush_lent a.journal.now a.known.now a.res.now in
    let k = c.in-Some.ensures.cases in
    let unknown : is_known a.known.now ≡ false = ap is_known (sym k.same) ∙ sym c.is_known.ensures ∙ c.if-not-is_known.true in
    let none = c.code-then-not-is_known.ensures in
    rw k.same (flush_away first c.code-then-not-is_known.result (none ∙ flush_unknown first unknown) (λ e. omega (arith, none)))

pub returns-in_default-as_mut_array : goal.returns-in_default-as_mut_array
returns-in_default-as_mut_array c =
    let a = c.args in
    let first = flush_lent a.journal.now a.known.now a.res.now in
    let k = c.in-Some.ensures.cases in
    let known : is_known a.known.now ≡ true = ap is_known (sym k.same) ∙ sym c.is_known.ensures ∙ c.if-not-is_known.false in
    let none = c.code-in_default-as_mut_array.ensures in
    rw k.same (flush_away first c.code-in_default-as_mut_array.result
    (none ∙ flush_roomless first known c.in_default-as_mut_array.ensures.cases) (λ e. omega (arith, none)))

pub returns : goal.returns
returns c =
    let a = c.args in
    let first = flush_lent a.journal.now a.known.now a.res.now in
    let k = c.in-Some.ensures.cases in
    let known : is_known a.known.now ≡ true = ap is_known (sym k.same) ∙ sym c.is_known.ensures ∙ c.if-not-is_known.false in
    let done = ap {B = Flushed} (λ n. flushed n (book_in c.flush.new.book)) c.number_of-no.ensures ∙ c.flush.ensures.flushed in
    flush_out first 0 (flush_roomy first known c.in-Some-as_mut_array.ensures.cases.long) _ refl
    (as_flushed first c.known_in.result (c.known_in.ensures ∙ ap {B = Known} known_in k.same) c.number_of-no.result _ c.flush.new.book.known _ _
    (search (rules, done)) c.put_known.ensures c.put_result.ensures)
