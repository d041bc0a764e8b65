-- What a program lends of the memory that it has: of each part the first numbers, as many as CALLS.md's `table` and `lend` say.
use Rattle.std.specs.Prelude.{◌++◌, ◌+◌, ◌-◌, ◌/◌}
use Rattle.kit.specs.Names.{Bool, cond, ℕ, max, take, drop}
use Rattle.rules.specs.Rules.{Call, State, CROWN, ENTRY, Rows, Log, Table, table, Sizes, sizes_of, step}
use Rattle.commands.specs.declared.command.Lengths.{Lengths}
use Rattle.arrays.specs.declared.reply.Changed.{Changed}
use Rattle.arrays.specs.declared.reply.Holding.{Holding}
use Rattle.arrays.specs.declared.reply.Reply.{Reply}
use Rattle.arrays.specs.declared.reply.Reply.TheVariants as reply

-- What is lent: of a part that is shorter, all of it.
abbrev pub rows_of : Lengths → Rows → Rows
rows_of n rs =
    record {
      parents = take n.parents rs.parents;
      crowns = take n.crowns rs.crowns;
      amounts = take n.amounts rs.amounts;
    }

abbrev pub log_of : Lengths → Log → Log
log_of n l = take n.log l

abbrev pub lent_of : Lengths → Table → Table
lent_of n t = table (rows_of n t.rows) (log_of n t.log) t.state

-- All of the memory again, with what was lent as it is handed back.
abbrev pub rows_back : Lengths → Rows → Rows → Rows
rows_back n rs after =
    record {
      parents = after.parents ++ drop n.parents rs.parents;
      crowns = after.crowns ++ drop n.crowns rs.crowns;
      amounts = after.amounts ++ drop n.amounts rs.amounts;
    }

abbrev pub log_back : Lengths → Log → Log → Log
log_back n l after = after ++ drop n.log l

abbrev pub handed_back : Lengths → Table → Table → Table
handed_back n t after = table (rows_back n t.rows after.rows) (log_back n t.log after.log) after.state

-- How many rows or entries so many numbers reach, the last one wholly or not.
abbrev pub touched : ℕ → ℕ → ℕ
touched numbers stride = (numbers + (stride - 1)) / stride

-- "the row and entry that the longest reaches"
abbrev pub most_rows : Sizes → ℕ
most_rows z = max (max z.parents z.amounts) (touched z.crowns CROWN)

abbrev pub most_entries : Sizes → ℕ
most_entries z = touched z.log ENTRY

abbrev pub lent_sizes : Lengths → Table → Sizes
lent_sizes n t = sizes_of (rows_of n t.rows) (log_of n t.log)

abbrev pub holding : Lengths → State → Holding
holding n s = record { lengths = n; state = s }

-- What a command leaves: the reply and the lengths, and all of the memory.
pub record Left : Type 0 where
  pub reply : Reply
  pub lengths : Lengths
  pub table : Table

abbrev pub leaving : Reply → Lengths → Table → Left
leaving r n t = record { reply = r; lengths = n; table = t }

abbrev pub left : Changed → (State → Table) → Left
left c t = leaving c.reply c.holding.lengths (t c.holding.state)

-- A call on what is lent: the rules' step, answered and handed back.
abbrev pub called : Lengths → Table → Call → Left
called n t c = let o = step (lent_of n t) c in leaving (reply.Answer c o.answer) n (handed_back n t o.table)

-- "`ok`", and "`error LINE` where nothing has" a place
abbrev pub done_where : Bool → Reply
done_where some = cond some reply.Ok reply.Error
