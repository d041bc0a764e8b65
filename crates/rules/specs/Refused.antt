-- The numbers of the refusals that the code names.
use Rattle.kit.specs.Names.{ℕ}
use Rattle.rules.specs.Numbers.{NO-KEY, KEYS-FULL, LOG-FULL, OWNER-CLASH, TOO-MUCH, NOT-INNERMOST, TOO-DEEP, BROKEN-TABLE, BAD-STATE, SERIALS-SPENT, NOT-OPEN}
use Rattle.rules.specs.Numbers.{BAD-JOURNAL, NO-ROOM}
use Rattle.rules.specs.declared.table.MergeError.{MergeError}
use Rattle.rules.specs.declared.table.MergeError.TheVariants as merge_errors
use Rattle.rules.specs.declared.refusal.Refusal.{Refusal}
use Rattle.rules.specs.declared.refusal.Refusal.TheVariants.{NoKey, KeysFull, LogFull, OwnerClash, TooMuch, NotInnermost, TooDeep, BrokenTable, BadState, SerialsSpent, NotOpen, BadJournal, NoRoom}

abbrev pub code_of : Refusal → ℕ
code_of NoKey = NO-KEY
code_of KeysFull = KEYS-FULL
code_of LogFull = LOG-FULL
code_of OwnerClash = OWNER-CLASH
code_of TooMuch = TOO-MUCH
code_of NotInnermost = NOT-INNERMOST
code_of TooDeep = TOO-DEEP
code_of BrokenTable = BROKEN-TABLE
code_of BadState = BAD-STATE
code_of SerialsSpent = SERIALS-SPENT
code_of NotOpen = NOT-OPEN
code_of BadJournal = BAD-JOURNAL
code_of NoRoom = NO-ROOM

-- Why two values do not merge, as a refusal.
abbrev pub refused_merge : MergeError → Refusal
refused_merge merge_errors.Clash = OwnerClash
refused_merge merge_errors.TooMuch = TooMuch
