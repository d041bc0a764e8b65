-- One entry more is printed. Assumes nothing.
use Rattle.std.proofs.Common.{ap, refl, ◌∙◌}
use Rattle.rules.specs.Rules.{Log}
use Rattle.extract.specs.Numbers.{lent_at}
use Rattle.parts.specs.declared.entries.Numbers.{Numbers}
use Rattle.show.specs.Shown.{Pieces, numbers_pieces}
use Rattle.show.proofs.PieceLaws.{none, one_more, saying}
use Rattle.show.proofs.since.entries_since.Invariants.{seen}
use Rattle.show.proofs.since.entries_since.Goals as goal

pub loop-i-init : goal.loop-i-init
loop-i-init c = record { same_page = (refl, refl); said = none (seen c.args.log.now c.args.from c.args.to) }

pub loop-i-preserved : goal.loop-i-preserved
loop-i-preserved c =
    let shown = c.lent_entry.ensures ∙ ap {B = Numbers} (λ (v : Log). lent_at v c.loop-i.i) c.actions_between-view.ensures in
    let here = saying (ap {B = Pieces} (λ (e : Numbers). numbers_pieces e) shown) c.entry.ensures.said in
    record {
      same_page = (cc, cc);
      said = one_more c.loop-i.i (seen c.args.log.now c.args.from c.args.to) c.loop-i.invariant.said here;
    }
