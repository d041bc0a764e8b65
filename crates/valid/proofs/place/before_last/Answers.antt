-- The last trailer says what the part before its segment must be. Assumes nothing.
use Rattle.std.specs.Prelude.{◌≡◌, ◌+◌, ◌-◌, ◌*◌, ◌≤◌}
use Rattle.kit.specs.Names.{ap, ◌∙◌, true, false, length, arith}
use Rattle.journal.specs.Entry.{entries_at}
use Rattle.journal.specs.Journal.{points, read_to}
use Rattle.journal.proofs.ByteLaws.{count_entries}
use Rattle.journal.proofs.ReadLaws.{pointing}
use Rattle.valid.specs.declared.window.Window.{Window}
use Rattle.valid.specs.Window.{Small, narrowed}
use Rattle.valid.specs.Place.{back, ends_in}
use Rattle.valid.proofs.WindowLaws.{small_more, small_narrowed}
use Rattle.valid.proofs.PlaceLaws.{no_trailer, points_nowhere, other_number, further_back}
use Rattle.valid.proofs.place.before_last.Goals as goal

pub returns-then-place-lt-TRAILER_BYTES : goal.returns-then-place-lt-TRAILER_BYTES
returns-then-place-lt-TRAILER_BYTES c =
    let p = c.args.place in
    no_trailer c.args.bytes.now p.end p.segments p.window (λ e. omega (arith, c.requires.1, e)) c.if-place-lt-TRAILER_BYTES.true

pub returns-then-not-points_back : goal.returns-then-not-points_back
returns-then-not-points_back c =
    let p = c.args.place in
    let astray : points (back c.u32_at-distance.result c.u32_at-count.result) (p.end - 12) ≡ false = cc in
    points_nowhere c.args.bytes.now p.end p.segments p.window c.u32_at-distance.result c.u32_at-count.result (omega arith)
    c.u32_at-distance.ensures c.u32_at-count.ensures astray

pub returns-then-number-place : goal.returns-then-number-place
returns-then-number-place c =
    let p = c.args.place in
    let there : points (back c.u32_at-distance.result c.u32_at-count.result) (p.end - 12) ≡ true = cc in
    other_number c.args.bytes.now p.end p.segments p.window c.u32_at-distance.result c.u32_at-count.result (omega arith)
    c.u32_at-distance.ensures c.u32_at-count.ensures there c.u32_at-number.result c.u32_at-number.ensures c.if-number-place.true

pub returns : goal.returns
returns c =
    let p = c.args.place in
    let bs = c.args.bytes.now in
    let distance = c.u32_at-distance.result in
    let count = c.u32_at-count.result in
    let w = p.window in
    let first = p.end - 12 - distance in
    let es = entries_at count bs first in
    let m = length bs - (first + 24 * count) in
    let there : points (back distance count) (p.end - 12) ≡ true = cc in
    let here = pointing (back distance count) (p.end - 12) there in
    -- what follows the entries is the trailer, and what followed that
    let follows : Small w m = small_more w (length bs - p.end) m (omega (arith, here.whole, here.inside)) c.requires.0.window in
    let all : m + 24 * length es ≤ length bs - first =
    omega (arith, here.whole, here.inside, c.requires.0.within, count_entries count bs first) in
    let inside : Small c.narrow_all.result (length bs - first) =
    rw c.narrow_all.ensures
    (small_more (narrowed es w) (m + 24 * length es) (length bs - first) all (small_narrowed es w m follows)) in
    record {
      placed = record { within = omega (arith, c.requires.0.within); window = inside };
      falls = omega arith;
      same =
          ap (λ (v : Window). ends_in c.u32_at-number.result v (read_to first bs first)) c.narrow_all.ensures
          ∙ further_back bs p.end p.segments w distance count (omega arith) c.u32_at-distance.ensures c.u32_at-count.ensures there
          c.u32_at-number.result c.u32_at-number.ensures c.if-number-place.false;
    }
