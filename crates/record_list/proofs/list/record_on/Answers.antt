use Rattle.std.proofs.Common.{rules, ap, ◌∙◌, ◌*◌, ◌+◌, ◌/◌, ◌<◌, ◌≡◌, List, ℕ, length, arith}
use Rattle.coding.specs.Coding.{Asked, is_asked, call_in}
use Rattle.layout.specs.State.{Sized, headed}
use Rattle.journal.specs.Record.{Recorded, book_in, record_step}
use Rattle.runs.specs.Served.{host, host_in}
use Rattle.runs.proofs.RunLaws.{four_of, table_by}
use Rattle.record_list.specs.Lent.{Lent, lent}
use Rattle.record_list.proofs.ListLaws.{next_of, writing_starts, writing_on, writing_ends}
use Rattle.record_list.proofs.list.record_on.Goals as goal

pub invariant_of-asked : goal.invariant_of-asked
invariant_of-asked c =
    let l = c.loop-i in
    let calls = c.args.calls.now in
    let here : l.i < length calls / 4 = omega (arith, c.as_chunks.ensures.front_len, c.loop-i-test.true) in
    record {
      asked = ap is_asked (four_of c.as_chunks.result.0.now calls l.i c.as_chunks.ensures.front here)
          ∙ (next_of _ _ l.going.head _ _ calls (4 * l.i) (l.i * 9) l.invariant.writing (omega arith)).asked_there;
    }

pub loop-i-init : goal.loop-i-init
loop-i-init c =
    let a = c.args in
    let w = writing_starts (host_in a.going.now.state.now a.going.now.lent.now a.answers.now) (book_in a.book.now) a.calls.now c.requires.calls_value c.requires.calls_bound
    a.going.now.head c.requires.head in
    record { same_going = search rules; same_book = search rules; writing = w }

pub loop-i-preserved : goal.loop-i-preserved
loop-i-preserved c =
    let l = c.loop-i in
    let i = c.loop-i.invariant in
    let s = c.record_next-answer in
    let e = s.ensures in
    let four : 4 * l.i + 4 ≡ 4 * (l.i + 1) = omega arith in
    let nine : l.i * 9 + 9 ≡ (l.i + 1) * 9 = omega arith in
    let calls = c.args.calls.now in
    let here : l.i < length calls / 4 = omega (arith, c.as_chunks.ensures.front_len, c.loop-i-test.true) in
    let j = book_in l.book in
    let asked = four_of c.as_chunks.result.0.now calls l.i c.as_chunks.ensures.front here in
    let done = e.value ∙ ap {B = Recorded} (λ (x : Asked). record_step j.bytes j.known (table_by l.going.head (host_in l.going.state.now l.going.lent.now l.answers)) (call_in x)) asked in
    let w = writing_on _ _ l.going.head (host_in l.going.state.now l.going.lent.now l.answers) (book_in l.book) c.args.calls.now (4 * l.i) (l.i * 9) i.writing (omega arith)
    (host_in s.new.going.state.now s.new.going.lent.now c.put.new.answers) (book_in s.new.book) s.result s.new.going.head done c.put.ensures in
    record { same_going = search rules; same_book = search rules; writing = rw (← four, ← nine) w }

pub returns-clause-value : goal.returns-clause-value
returns-clause-value c =
    let l = c.loop-i in
    let h = host_in l.going.state.now l.going.lent.now l.answers in
    let j = book_in l.book in
    let w = c.write_head.ensures in
    let t = c.write_head.new.state in
    let z = c.requires.sized in
    let sized : Sized l.going.state.now.numbers.now l.going.state.now.serials.now =
    record { numbers = l.invariant.same_going.2.2 ∙ z.numbers; serials = l.invariant.same_going.2.3 ∙ z.serials } in
    ap {B = Lent} (λ (ns : List ℕ). lent (host ns t.serials.now h.rows h.log h.answers) j) w.numbers
    ∙ ap {B = Lent} (λ (ss : List ℕ). lent (host (headed l.going.state.now.numbers.now l.going.head) ss h.rows h.log h.answers) j) w.serials
    ∙ writing_ends _ _ l.going.head h j c.args.calls.now (4 * l.i) (l.i * 9) l.invariant.writing
    (omega (arith, c.as_chunks.ensures.front_len, c.loop-i-test.false)) sized
