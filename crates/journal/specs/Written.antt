-- Document 02, Q-1: "Exactly the DONE calls of these six kinds are written, in order."
use Rattle.std.specs.Prelude.{◌∷◌}
use Rattle.kit.specs.Names.{cond, List, [], eqb}
use Rattle.rules.specs.Rules.{Call, Answer, DONE}
use Rattle.rules.specs.declared.call.Call.TheVariants.{New, Len, Find, Unioned, Join, Post, Probe, ProbeKey, TryProbe, Snapshot, Rollback, Commit, Keys, Actions, Changes}
use Rattle.journal.specs.declared.entry.Entry.{Entry}
use Rattle.journal.specs.declared.entry.Entry.TheVariants.{EntryNew, EntryPost, EntryJoin, EntrySnapshot, EntryRollback, EntryCommit}

-- The entry of a call, if it is of one of the six kinds.
abbrev pub entry_for : Call → List Entry
entry_for (New owner amount) = EntryNew owner amount ∷ []
entry_for Len = []
entry_for (Find key) = []
entry_for (Unioned a b) = []
entry_for (Join a b) = EntryJoin a b ∷ []
entry_for (Post key owner amount) = EntryPost key owner amount ∷ []
entry_for (Probe key) = []
entry_for (ProbeKey key) = []
entry_for (TryProbe key) = []
entry_for Snapshot = EntrySnapshot ∷ []
entry_for (Rollback token) = EntryRollback ∷ []
entry_for (Commit token) = EntryCommit ∷ []
entry_for (Keys token) = []
entry_for (Actions token) = []
entry_for (Changes token) = []

-- What is written of a call and its answer.
abbrev pub written : Call → Answer → List Entry
written c a = cond (eqb a.no DONE) (entry_for c) []
