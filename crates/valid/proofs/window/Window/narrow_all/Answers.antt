-- The entries that are left say what is admitted before all of them. Assumes nothing.
use Rattle.std.specs.Prelude.{◌+◌, ◌-◌, ◌*◌, ◌≤◌, ◌<◌}
use Rattle.kit.specs.Names.{length, arith}
use Rattle.journal.specs.Entry.{read_entry, entries_at}
use Rattle.valid.specs.Window.{Small, narrow, narrowed}
use Rattle.valid.proofs.WindowLaws.{small_narrow, small_more, next_entry, no_entries}
use Rattle.valid.proofs.window.Window.narrow_all.Goals as goal

pub loop-entry-preserved : goal.loop-entry-preserved
loop-entry-preserved c =
    let bs = c.args.bytes.now in
    let start = c.args.start in
    let left = c.loop-entry.entry in
    let now = c.loop-entry.now in
    let some : 0 < left = omega arith in
    let at = start + (left - 1) * 24 in
    let m = length bs - (at + 24) in
    let follow : Small now m = small_more now (length bs - (start + 24 * left)) m (omega arith) c.loop-entry.invariant.1 in
    let more : m + 24 ≤ length bs - (start + 24 * (left - 1)) = omega (arith, c.requires.0, c.loop-entry.invariant.0) in
    let inside = small_more (narrow (read_entry bs at) now) (m + 24) (length bs - (start + 24 * (left - 1))) more
    (small_narrow now m follow (read_entry bs at)) in (
      omega (arith, c.loop-entry.invariant.0),
      rw c.narrow_at-now.ensures inside,
      next_entry bs start (narrowed (entries_at c.args.count bs start) c.args.self) now left c.loop-entry.invariant.2 some c.narrow_at-now.ensures,
    )

pub returns : goal.returns
returns c =
    no_entries c.args.bytes.now c.args.start (narrowed (entries_at c.args.count c.args.bytes.now c.args.start) c.args.self) c.loop-entry.now
    c.loop-entry.entry c.loop-entry.invariant.2 (omega arith)
