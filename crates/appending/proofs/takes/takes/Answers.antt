use Rattle.std.specs.Prelude.{◌≡◌}
use Rattle.kit.specs.Names.{ap, ◌∙◌, true, length, take, le-ltb, arith}
use Rattle.rules.specs.Rules.{WORD}
use Rattle.journal.specs.Journal.{journal_of}
use Rattle.valid.specs.declared.window.Window.{Window}
use Rattle.valid.specs.Place.{segments_told, followed_by}
use Rattle.appending.specs.Takes.{fills_by}
use Rattle.appending.proofs.TakesLaws.{small, no_number, judged_so}
use Rattle.appending.proofs.takes.takes.Goals as goal

pub returns-else-segments-lt-WORD : goal.returns-else-segments-lt-WORD
returns-else-segments-lt-WORD c =
    let number : c.segments.result ≡ segments_told (take c.args.used c.args.buffer.now) =
    c.segments.ensures in
    let filled : fills_by (length c.args.entries.now) ≡ true = cc in
    rw (le-ltb c.segments.result WORD (omega arith)) (no_number c.args.buffer.now c.args.used c.args.entries.now (omega arith) filled (omega (arith, number)))

pub admits-requires : goal.admits-requires
admits-requires c =
    let filled : fills_by (length c.args.entries.now) ≡ true = cc in
    rw c.narrow_all-window.ensures (small c.args.entries.now filled)

pub returns-then-segments-lt-WORD : goal.returns-then-segments-lt-WORD
returns-then-segments-lt-WORD c =
    let bs = c.args.buffer.now in
    let used = c.args.used in
    let es = c.args.entries.now in
    let number : c.segments.result ≡ segments_told (take used bs) = c.segments.ensures in
    let filled : fills_by (length es) ≡ true = cc in
    c.admits.ensures
    ∙ ap (λ (w : Window). followed_by w (journal_of (take used bs))) c.narrow_all-window.ensures
    ∙ judged_so bs used es (omega arith) filled (omega (arith, number))
