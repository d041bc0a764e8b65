-- The call that an entry is, with the mark that it is about.
use Rattle.rules.specs.Rules.{Call, Sought, State}
use Rattle.journal.specs.declared.entry.Entry.{Entry}
use Rattle.journal.specs.Replay.{call_for}
use Rattle.undo_log.specs.Settled.{mark_for}
use Rattle.entry_calls.specs.declared.ready.Ready.{Ready}

abbrev pub ready : Call → Sought → Ready
ready c m = record { call = c; sought = m }

abbrev pub ready_for : State → Entry → Ready
ready_for s e = let c = call_for s e in ready c (mark_for s c)
