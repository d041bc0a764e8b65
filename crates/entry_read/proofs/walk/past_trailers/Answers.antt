-- The same entries are left.
use Rattle.kit.specs.Names.{◌∙◌, arith}
use Rattle.entry_read.proofs.LeftLaws.{past_trailer}
use Rattle.entry_read.proofs.walk.past_trailers.Goals as goal

pub loop-at-preserved : goal.loop-at-preserved
loop-at-preserved c =
    let l = c.loop-at in
    let past = past_trailer c.args.bytes.now l.at l.invariant.left c.loop-at-test.true (omega (arith, c.u32_at.ensures, c.if-u32_at-ge-ENTRY_BYTES.true)) in
    record { left = past.left; same = past.same ∙ l.invariant.same }
