-- Document 02, Q-1: "Replay stops at the first entry not answered DONE and names it. .. Rollback and commit act on the innermost."
use Rattle.std.specs.Prelude.{◌∷◌, ◌-◌}
use Rattle.kit.specs.Names.{cond, List, [], ℕ, suc, eqb}
use Rattle.rules.specs.Rules.{Call, State, DONE, Table, mark_at, step, BAD-JOURNAL}
use Rattle.rules.specs.declared.call.Call.TheVariants.{New, Len, Join, Post, Snapshot, Rollback, Commit}
use Rattle.journal.specs.declared.entry.Entry.{Entry}
use Rattle.journal.specs.declared.entry.Entry.TheVariants.{EntryNew, EntryPost, EntryJoin, EntrySnapshot, EntryRollback, EntryCommit, NoEntry}
use Rattle.journal.specs.Entry.{Bytes}
use Rattle.journal.specs.Journal.{Journal, no_journal, journal, journal_of}

-- The token of the innermost open snapshot.
abbrev pub innermost_token : State → ℕ
innermost_token s = (mark_at s (s.«open» - 1)).serial

-- The call that an entry is, in a table with this state. No valid journal has a `NoEntry`.
abbrev pub call_for : State → Entry → Call
call_for s (EntryNew owner amount) = New owner amount
call_for s (EntryPost a owner amount) = Post a owner amount
call_for s (EntryJoin a b) = Join a b
call_for s EntrySnapshot = Snapshot
call_for s EntryRollback = Rollback (innermost_token s)
call_for s EntryCommit = Commit (innermost_token s)
call_for s NoEntry = Len

-- A number, the place of the entry at which replay stopped or how many entries there were, and the table as it is then.
pub record Replayed : Type 0 where
  pub no : ℕ
  pub entry : ℕ
  pub table : Table

-- Entries from place `at` of the journal on.
unfoldable pub replay_from : ℕ → Table → List Entry → Replayed
replay_from at t [] = record { no = DONE; entry = at; table = t }
replay_from at t (e ∷ es) =
    let o = step t (call_for t.state e) in
    cond (eqb o.answer.no DONE) (replay_from (suc at) o.table es) (record { no = o.answer.no; entry = at; table = o.table })

abbrev pub replay_of : Journal → Table → Replayed
replay_of no_journal t = record { no = BAD-JOURNAL; entry = 0; table = t }
replay_of (journal segments es) t = replay_from 0 t es

abbrev pub replay_bytes : Bytes → Table → Replayed
replay_bytes bs t = replay_of (journal_of bs) t
