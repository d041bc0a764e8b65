-- The first entry that is left, and what is left after it.
use Rattle.std.specs.Prelude.{◌∷◌, ◌+◌, ◌<◌}
use Rattle.std.proofs.Common.{rules}
use Rattle.kit.specs.Names.{ap, sym, ◌∙◌, arith, length}
use Rattle.journal.specs.declared.entry.Entry.{Entry}
use Rattle.journal.specs.Numbers.{ENTRY-BYTES}
use Rattle.entry_read.specs.Left.{entries_from}
use Rattle.entry_read.proofs.LeftLaws.{entry_here, first_left, left_after}
use Rattle.entry_read.proofs.walk.EntriesIterator.next.Goals as goal

pub entry_at-entry-requires-clause-at_value : goal.entry_at-entry-requires-clause-at_value
entry_at-entry-requires-clause-at_value c =
    let p = c.past_trailers-at in
    entry_here c.args.self.now.bytes.now p.result p.ensures.left (omega arith) (p.ensures.stops (omega arith))

pub returns-clause-steps : goal.returns-clause-steps
returns-clause-steps c =
    let p = c.past_trailers-at in
    let bs = c.args.self.now.bytes.now in
    let first = first_left bs p.result p.ensures.left (omega arith) (p.ensures.stops (omega arith)) in
    sym p.ensures.same ∙ first ∙ ap (λ (e : Entry). e ∷ entries_from bs (p.result + ENTRY-BYTES)) (sym c.entry_at-entry.ensures)

pub returns-clause-goes : goal.returns-clause-goes
returns-clause-goes c =
    let p = c.past_trailers-at in
    let bs = c.args.self.now.bytes.now in
    let i : p.result < length bs = omega arith in
    let k = p.ensures.stops i in
    let can = left_after bs p.result p.ensures.left i k in
    let first = sym p.ensures.same ∙ first_left bs p.result p.ensures.left i k in
    search (rules, can, first)
