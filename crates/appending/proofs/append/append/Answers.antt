use Rattle.std.specs.Prelude.{◌≡◌}
use Rattle.kit.specs.Names.{refl, ap, ◌∙◌, true, take, arith}
use Rattle.journal.specs.Append.{segment}
use Rattle.valid.specs.Place.{segments_told}
use Rattle.appending.specs.Takes.{takes, with_segment}
use Rattle.appending.proofs.TakesLaws.{taken}
use Rattle.appending.proofs.SegmentLaws.{no_room, appended}
use Rattle.appending.proofs.append.append.Goals as goal

pub returns-then-buffer-used : goal.returns-then-buffer-used
returns-then-buffer-used c =
    let yes : takes c.args.buffer.now c.args.used c.args.entries.now ≡ true = cc in
    no_room c.args.buffer.now c.args.used c.args.entries.now yes c.if-buffer-used.true

pub write_segment-requires : goal.write_segment-requires
write_segment-requires c =
    let bs = c.args.buffer.now in
    let used = c.args.used in
    let yes : takes bs used c.args.entries.now ≡ true = cc in
    let number : c.segments-number.result ≡ segments_told (take used bs) = c.segments-number.ensures in
    let k = taken bs used c.args.entries.now yes in
    record { room = omega (arith, k.inside); filling = k.filled; numbered = omega (arith, number, k.numbered) }

pub returns : goal.returns
returns c =
    let bs = c.args.buffer.now in
    let used = c.args.used in
    let es = c.args.entries.now in
    let yes : takes bs used es ≡ true = cc in
    let number : c.segments-number.result ≡ segments_told (take used bs) = c.segments-number.ensures in
    appended bs used es yes c.if-buffer-used.false refl
    (c.write_segment.ensures ∙ ap (λ n. with_segment bs used (segment n es)) number)
