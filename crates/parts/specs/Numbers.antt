-- The numbers that an entry is written as, as the code's own struct, and what such numbers say.
use Rattle.kit.specs.Names.{cond, eqb}
use Rattle.rules.specs.Rules.{UndoLog, KIND-NEW, KIND-SET, kind_of, key_of, old_of}
use Rattle.rules.specs.declared.table.UndoLog.TheVariants.{NewElem, SetElem, Unknown}
use Rattle.parts.specs.declared.entries.Numbers.{Numbers}

abbrev pub numbers_of : UndoLog → Numbers
numbers_of e = record { kind = kind_of e; key = key_of e; old = old_of e }

-- What they say: `entry_at l i` is `action_of` of the numbers of entry i.
abbrev pub action_of : Numbers → UndoLog
action_of n = cond (eqb n.kind KIND-NEW) (NewElem n.key) (cond (eqb n.kind KIND-SET) (SetElem n.key n.old) Unknown)
