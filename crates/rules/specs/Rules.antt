-- All definitions of document 01, and the types that they share with the code, passed on under one name.
use Rattle.std.specs.Prelude.{Option, Result}
use Rattle.rules.specs.declared.table.Owner as declared_owner
use Rattle.rules.specs.declared.table.Value as declared_value
use Rattle.rules.specs.declared.table.MergeError as declared_mergeerror
use Rattle.rules.specs.declared.table.Row as declared_row
use Rattle.rules.specs.declared.table.UndoLog as declared_undolog
use Rattle.rules.specs.declared.table.Mark as declared_mark
use Rattle.rules.specs.declared.table.Head as declared_head
use Rattle.rules.specs.declared.table.State as declared_state
use Rattle.rules.specs.declared.call.Call as declared_call
use Rattle.rules.specs.declared.call.Answer as declared_answer
use Rattle.rules.specs.declared.call.Answered as declared_answered
pub use Rattle.rules.specs.Numbers.{MAX-ROWS, MAX-ENTRIES, CROWN, ENTRY, WORD, MAX-OPEN, MAX-REDIRECTS, MAX-RANK, MAX-U64, DONE, NO-KEY, KEYS-FULL}
pub use Rattle.rules.specs.Numbers.{LOG-FULL, OWNER-CLASH, TOO-MUCH, NOT-INNERMOST, TOO-DEEP, BROKEN-TABLE, BAD-STATE, SERIALS-SPENT, NOT-OPEN}
pub use Rattle.rules.specs.Numbers.{BAD-JOURNAL, NO-ROOM, KIND-UNKNOWN, KIND-NEW, KIND-SET}
pub use Rattle.rules.specs.Lent.{Rows, Log, entries, Table, owner_of, number_of, value, none, row, value_of, row_at, put_crown, put_row, amount_of, low_of}
pub use Rattle.rules.specs.Lent.{high_of, old_at, put_old, kind_of, key_of, old_of, entry_at, put_entry, mark, mark_at, fresh, head, head_of, with_head, table}
pub use Rattle.rules.specs.Wide.{WideRows, WideLog}
pub use Rattle.rules.specs.Answer.{answer, refusal, stepped, found, probed, held, said, range, opened, bit, answer_numbers, answered, refuse_state}
pub use Rattle.rules.specs.Merge.{summed, merge_owned}
unfoldable pub use Rattle.rules.specs.Merge.{merge}
pub use Rattle.rules.specs.Walk.{Path, broken, to, from, steps}
unfoldable pub use Rattle.rules.specs.Walk.{path}
pub use Rattle.rules.specs.Write.{Write, redirect, crown, place, edit, write, Memory, memory, memory_of, with_memory, logged, put, push, full}
unfoldable pub use Rattle.rules.specs.Write.{writes, puts}
pub use Rattle.rules.specs.Plan.{Plan, plan, Walked, walked_on, go_on, walk, walk_both, settle, find_on, unioned_on, unite, too_high, join_on, post_on, probe_on}
pub use Rattle.rules.specs.Plan.{probe_key_on, try_probe}
unfoldable pub use Rattle.rules.specs.Plan.{rewrites}
pub use Rattle.rules.specs.Tokens.{marked, innermost, not_innermost, unfit, snapshot, committed, stranded, commit, asked, ask, keys_since, actions_since}
pub use Rattle.rules.specs.Tokens.{has_changes, len, since, reversed, rolled_back, viewed, actions_view}
unfoldable pub use Rattle.rules.specs.Tokens.{seek, newest_first, undoable, undo}
pub use Rattle.rules.specs.Refusal.{Outcome, outcome, refused, refuse, carry, Sizes, sizes, sizes_of, any, differ, stray, faults, bad_table}
unfoldable pub use Rattle.rules.specs.Refusal.{bad}
pub use Rattle.rules.specs.Step.{not_live, new, live, one, two, resting, rollback}
unfoldable pub use Rattle.rules.specs.Step.{call, step}
pub use Rattle.rules.specs.Refused.{code_of, refused_merge}
pub use Rattle.rules.specs.Contract.{rows_lent, memory_lent, table_lent, rows_in, log_in, memory_in, table_in, rows_seen, log_seen, table_seen, SameParts, outcome_of}

abbrev pub Owner : Type 0
Owner = declared_owner.Owner

abbrev pub Value : Type 0
Value = declared_value.Value

abbrev pub Merged : Type 0
Merged = Result Value declared_mergeerror.MergeError

abbrev pub Row : Type 0
Row = declared_row.Row

abbrev pub UndoLog : Type 0
UndoLog = declared_undolog.UndoLog

abbrev pub Mark : Type 0
Mark = declared_mark.Mark

abbrev pub Sought : Type 0
Sought = Option Mark

abbrev pub Head : Type 0
Head = declared_head.Head

abbrev pub State : Type 0
State = declared_state.State

abbrev pub Call : Type 0
Call = declared_call.Call

abbrev pub Answer : Type 0
Answer = declared_answer.Answer

abbrev pub Answered : Type 0
Answered = declared_answered.Answered
