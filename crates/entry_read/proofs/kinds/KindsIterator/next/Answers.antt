-- The kind of the first entry that is left, and what is left after it.
use Rattle.std.specs.Prelude.{◌∷◌, ◌+◌, ◌<◌}
use Rattle.std.proofs.Common.{rules}
use Rattle.kit.specs.Names.{ap, sym, ◌∙◌, arith, map, ℕ, length}
use Rattle.journal.specs.Numbers.{ENTRY-BYTES}
use Rattle.entry_read.specs.Left.{entry_kind, kinds_from}
use Rattle.entry_read.proofs.LeftLaws.{entry_here, kind_here, first_left, left_after}
use Rattle.entry_read.proofs.kinds.KindsIterator.next.Goals as goal

pub returns-clause-steps : goal.returns-clause-steps
returns-clause-steps c =
    let p = c.past_trailers-at in
    let bs = c.args.self.now.bytes.now in
    let k = p.ensures.stops (omega arith) in
    let first = first_left bs p.result p.ensures.left (omega arith) k in
    let kind = c.u32_at-kind.ensures ∙ kind_here bs p.result (entry_here bs p.result p.ensures.left (omega arith) k) in
    ap (map entry_kind) (sym p.ensures.same ∙ first) ∙ ap (λ (n : ℕ). n ∷ kinds_from bs (p.result + ENTRY-BYTES)) (sym kind)

pub returns-clause-goes : goal.returns-clause-goes
returns-clause-goes c =
    let p = c.past_trailers-at in
    let bs = c.args.self.now.bytes.now in
    let i : p.result < length bs = omega arith in
    let k = p.ensures.stops i in
    let can = left_after bs p.result p.ensures.left i k in
    let first = ap (map entry_kind) (sym p.ensures.same ∙ first_left bs p.result p.ensures.left i k) in
    search (rules, can, first)
