-- What carrying out a plan asks of the memory: rows within what is lent, and room in the log.
use Rattle.std.specs.Prelude.{◌≡◌, ◌+◌, ◌*◌, ◌≤◌}
use Rattle.kit.specs.Names.{ℕ, length}
use Rattle.rules.specs.Rules.{MAX-ENTRIES, ENTRY, Memory}
use Rattle.parts.specs.Bounds.{Even}

-- With a snapshot open, n more entries fit.
pub record Ready (count n : ℕ) (m : Memory) : Type 0 where
  pub rows : Even count m.rows
  pub limit : length m.log ≤ MAX-ENTRIES * ENTRY
  pub room : (m.opened ≡ 0 → ⊥) → (m.used + n) * ENTRY ≤ length m.log
