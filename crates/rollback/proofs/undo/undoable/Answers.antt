-- One entry more is read: it refuses, or leaves the rest to decide.
use Rattle.std.proofs.Common.{◌≡◌, ap, sym, ◌∙◌, ◌-◌, ℕ, None, Some, arith, rules}
use Rattle.rules.specs.Rules.{newest_first, undoable}
use Rattle.rollback.specs.Since.{reached_before}
use Rattle.rollback.proofs.UndoLaws.{refused_next, passed_next}
use Rattle.rollback.proofs.undo.undoable.Goals as goal

pub returns-in_default : goal.returns-in_default
returns-in_default c =
    let a = c.args in
    let l = c.loop-i in
    let barred : reached_before c.entry_at.result l.reached ≡ None = search rules in
    refused_next a.log.now a.base l.i c.loop-i-test.true c.entry_at.result c.entry_at.ensures a.keys l.reached barred ∙ sym l.invariant

pub loop-i-preserved : goal.loop-i-preserved
loop-i-preserved c =
    let a = c.args in
    let l = c.loop-i in
    let free : reached_before c.entry_at.result l.reached ≡ Some c.in-Some.before = search rules in
    l.invariant
    ∙ passed_next a.log.now a.base l.i c.loop-i-test.true c.entry_at.result c.entry_at.ensures a.keys l.reached c.in-Some.before free

pub returns : goal.returns
unfolding undoable newest_first
returns c =
    let a = c.args in
    let none : c.loop-i.i - a.base ≡ 0 = omega arith in
    sym (c.loop-i.invariant ∙ ap (λ (n : ℕ). undoable a.keys c.loop-i.reached (newest_first a.log.now a.base n)) none)
