use Rattle.std.specs.Prelude.{◌≡◌, ◌+◌, ◌*◌, ◌-◌, ◌≤◌}
use Rattle.kit.specs.Names.{length}
use Rattle.journal.specs.Entry.{entries_at}
use Rattle.valid.specs.Window.{Small, narrowed}
use Rattle.valid.proofs.window.Window.narrow_all.Given as goal

abbrev pub invariant-loop-entry : goal.invariant-loop-entry
invariant-loop-entry l =
    (l.entry ≤ l.count) × Small l.now (length l.bytes - (l.start + 24 * l.entry))
    × (narrowed (entries_at l.count l.bytes l.start) l.initial.now ≡ narrowed (entries_at l.entry l.bytes l.start) l.now)
