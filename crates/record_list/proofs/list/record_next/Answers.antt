use Rattle.std.proofs.Common.{ap, sym, ◌∙◌, get_or, length}
use Rattle.undo_log.specs.declared.tokens.Settled.{Settled}
use Rattle.numbered.specs.Going.{going_table}
use Rattle.coding.specs.Coding.{call_at}
use Rattle.journal.specs.Record.{Recorded, recorded, book_in}
use Rattle.recording.specs.Barred.{barred, no_of}
use Rattle.record_list.proofs.MineLaws.{code_mine}
use Rattle.record_list.proofs.StepLaws.{kept_off, carried}
use Rattle.record_list.proofs.list.record_next.Goals as goal

pub returns-in-Err-clause-value : goal.returns-in-Err-clause-value
returns-in-Err-clause-value c =
    let a = c.args in
    let ns = a.asked.numbers.now in
    let j = book_in a.book.now in
    let t = going_table a.going.now in
    let mine = code_mine (get_or ns 1 0) (get_or ns 2 0) (get_or ns 3 0) (get_or ns 0 0) a.asked.asked c.is_mine-mine.ensures in
    let barring = sym (ap no_of c.in-Err.is) ∙ c.barred.ensures ∙ ap (λ x. barred x j.known t.state.«open» (length j.bytes)) mine in
    ap {B = Recorded} (λ (x : Settled). recorded x.answer t j) c.refused.ensures
    ∙ kept_off j.bytes j.known t (call_at ns 0) c.in-Err.why barring

pub note-requires-clause-mine_value : goal.note-requires-clause-mine_value
note-requires-clause-mine_value c =
    let a = c.args in
    let ns = a.asked.numbers.now in
    code_mine (get_or ns 1 0) (get_or ns 2 0) (get_or ns 3 0) (get_or ns 0 0) a.asked.asked c.is_mine-mine.ensures

pub returns-clause-value : goal.returns-clause-value
returns-clause-value c =
    let a = c.args in
    let ns = a.asked.numbers.now in
    let j = book_in a.book.now in
    let t = going_table a.going.now in
    let after = going_table c.next-answer.new.going in
    let mine = code_mine (get_or ns 1 0) (get_or ns 2 0) (get_or ns 3 0) (get_or ns 0 0) a.asked.asked c.is_mine-mine.ensures in
    let barring = c.barred.ensures ∙ ap (λ x. barred x j.known t.state.«open» (length j.bytes)) mine in
    carried j.bytes j.known t (call_at ns 0) barring (ap no_of c.in_default.is) {u = after} c.next-answer.ensures.value c.note.ensures.put
