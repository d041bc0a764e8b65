-- An entry of a log as its numbers; what they say is `action_of` of crate `parts`.
use Rattle.std.specs.Prelude.{◌+◌, ◌*◌}
use Rattle.kit.specs.Names.{ℕ, get_or}
use Rattle.rules.specs.Rules.{ENTRY, KIND-UNKNOWN, Log, old_at}
use Rattle.parts.specs.declared.entries.Numbers.{Numbers}
pub use Rattle.parts.specs.Numbers.{action_of}

-- The numbers of entry i as they stand, of whatever kind: an owner's number is lost in no row, since 0 alone reads as none.
abbrev pub lent_at : Log → ℕ → Numbers
lent_at l i = let b = i * ENTRY in record { kind = get_or l b KIND-UNKNOWN; key = get_or l (b + 1) 0; old = old_at l b }
