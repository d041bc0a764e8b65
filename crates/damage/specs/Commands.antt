-- CALLS.md, command by command: what a line leaves of the memory, of the lengths that are lent and of the state, and its reply.
use Rattle.std.specs.Prelude.{◌+◌, ◌*◌, Option, None, Some}
use Rattle.kit.specs.Names.{Bool, cond, ℕ, set, ltb}
use Rattle.rules.specs.Rules.{Mark, Row, State, ENTRY, MAX-OPEN, Rows, Log, Table, table, row, value, owner_of, put_row, put_old, fresh}
use Rattle.commands.specs.declared.command.Command.{Command}
use Rattle.commands.specs.declared.command.Command.TheVariants as command
use Rattle.commands.specs.declared.command.Lengths.{Lengths}
use Rattle.commands.specs.declared.command.RowNumbers.{RowNumbers}
use Rattle.damage.specs.declared.damage.Lending.{Lending}
use Rattle.arrays.specs.declared.reply.Reply.{Reply}
use Rattle.arrays.specs.declared.reply.Reply.TheVariants as reply
use Rattle.arrays.specs.Cut.{rows_of, log_of, rows_back, log_back, most_rows, most_entries, lent_sizes, holding, Left, leaving, called, done_where}
use Rattle.arrays.specs.Room.{nothing, evenly, room_for, zeroed}

-- ---- what is lent

abbrev pub lent_anew : Lengths → Lengths → Rows → Log → State → Table
lent_anew old new rs l =
    table
    (record {
      parents = zeroed old.parents new.parents rs.parents;
      crowns = zeroed old.crowns new.crowns rs.crowns;
      amounts = zeroed old.amounts new.amounts rs.amounts;
    })
    (zeroed old.log new.log l)

-- "prints `error LINE` .., changes nothing"
abbrev pub or_error : Bool → Lengths → Table → Left → Left
or_error fine n t rest = cond fine rest (leaving reply.Error n t)

abbrev pub lent_left : Lengths → Table → Option Lending → Left
lent_left n t (Some z) = leaving z.reply z.new.lengths (lent_anew z.old z.new.lengths t.rows t.log z.new.state)
lent_left n t None = leaving reply.Error n t

-- other lengths, where there is room for them
abbrev pub lending : Lengths → Lengths → State → Reply → Option Lending
lending old new s r = cond (room_for new) (Some (record { old = old; new = holding new s; reply = r })) None

-- ---- damage: a number past the end of what is lent is written nowhere

abbrev pub row_of : RowNumbers → Row
row_of r = row r.parent r.rank (value (owner_of r.owner) r.amount)

abbrev pub entry_set : Log → ℕ → ℕ → ℕ → RowNumbers → Log
entry_set l i kind key r = let b = i * ENTRY in put_old (set (set l b kind) (b + 1) key) b (row_of r)

abbrev pub state : ℕ → ℕ → ℕ → ℕ → State → State
state count used opened last s = record { count = count; used = used; «open» = opened; last = last; marks = s.marks }

abbrev pub with_mark : State → ℕ → Mark → State
with_mark s i m = record { count = s.count; used = s.used; «open» = s.«open»; last = s.last; marks = set s.marks i m }

-- ---- a command

unfoldable pub changed : Lengths → Table → Command → Left
changed n t command.Blank = leaving reply.Silent n t
changed n t command.Error = leaving reply.Error n t
changed n t (command.Call c) = called n t c
changed n t (command.Table rows entries) = lent_left n t (lending nothing (evenly rows entries) fresh reply.Table)
changed n t (command.Row key) = leaving (reply.Row key) n t
changed n t command.Live = leaving reply.Live n t
changed n t command.Dump = leaving reply.Dump n t
changed n t (command.SetRow key r) =
    leaving (done_where (ltb key (most_rows (lent_sizes n t)))) n
    (table (rows_back n t.rows (put_row (rows_of n t.rows) key (row_of r))) t.log t.state)
changed n t (command.SetEntry i kind key r) =
    leaving (done_where (ltb i (most_entries (lent_sizes n t)))) n
    (table t.rows (log_back n t.log (entry_set (log_of n t.log) i kind key r)) t.state)
changed n t (command.SetState count used opened last) = leaving reply.Ok n (table t.rows t.log (state count used opened last t.state))
changed n t (command.SetMark i m) = or_error (ltb i MAX-OPEN) n t (leaving reply.Ok n (table t.rows t.log (with_mark t.state i m)))
changed n t (command.Lend new) = lent_left n t (lending n new t.state reply.Ok)
