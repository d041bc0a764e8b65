-- A decided call: what is written of it, what that leaves, and what it asks of the parts.
use Rattle.std.specs.Prelude.{◌-◌, ◌≤◌, Ok, Err}
use Rattle.kit.specs.Names.{ℕ, length}
use Rattle.rules.specs.Rules.{Head, Rows, Log, row, head, refusal, code_of, Memory, memory, push, puts, newest_first, undo}
use Rattle.parts.specs.Bounds.{InRows, Loggable}
use Rattle.undo_log.specs.declared.tokens.Settled.{Settled}
use Rattle.undo_log.specs.Settled.{settled}
use Rattle.rollback.specs.Since.{Logged, Reversible}
use Rattle.plans.specs.Plans.{Verdict, finish_of, InsideEnd}
use Rattle.parts.specs.Ready.{Ready}
use Rattle.decisions.specs.declared.todo.End.{End}
use Rattle.decisions.specs.declared.todo.End.TheVariants as end
use Rattle.decisions.specs.declared.todo.Todo.{Todo}

abbrev pub todo : Settled → End → Todo
todo s e = record { settled = s; end = e }

abbrev pub still_todo : Settled → Todo
still_todo s = todo s end.Nothing

-- What a call comes to whose walks rewrite nothing.
abbrev pub verdict_todo : Head → Verdict → Todo
verdict_todo h (Err why) = still_todo (settled (refusal (code_of why)) h)
verdict_todo h (Ok p) = todo (settled p.answer h) (end.Rows p.finish)

-- ---- what is left

pub record Ended : Type 0 where
  pub rows : Rows
  pub log : Log
  pub settled : Settled

abbrev pub ended_with : Rows → Log → Settled → Ended
ended_with rs l s = record { rows = rs; log = l; settled = s }

-- The memory that a settled call writes to: its head says how many snapshots are open and how much of the log is used.
abbrev pub memory_for : Rows → Log → Settled → Memory
memory_for rs l s = memory rs l s.head.«open» s.head.used

-- What was logged is used.
abbrev pub logs : Settled → Memory → Ended
logs s m = ended_with m.rows m.log (settled s.answer (head s.head.count m.used s.head.«open»))

abbrev pub end_on : Rows → Log → Settled → End → Ended
end_on rs l s end.Nothing = ended_with rs l s
end_on rs l s (end.Rows f) = logs s (puts (memory_for rs l s) (finish_of f))
end_on rs l s (end.Push key v) = logs s (push (memory_for rs l s) key (row key 0 v))
end_on rs l s (end.Undo used) = ended_with (undo rs (newest_first l s.head.used (used - s.head.used))) l s

abbrev pub end_by : Rows → Log → Todo → Ended
end_by rs l t = end_on rs l t.settled t.end

-- ---- what it asks

abbrev pub EndableOn : ℕ → Rows → Log → Settled → End → Type 0
EndableOn count rs l s end.Nothing = Unit {0}
EndableOn count rs l s (end.Rows f) = Ready count (length (finish_of f)) (memory_for rs l s) × InsideEnd count f
EndableOn count rs l s (end.Push key v) = InRows key rs × Loggable s.head.«open» s.head.used l
EndableOn count rs l s (end.Undo used) =
    (s.head.used ≤ used) × Logged used l × Reversible rs (newest_first l s.head.used (used - s.head.used))

abbrev pub Endable : ℕ → Rows → Log → Todo → Type 0
Endable count rs l t = EndableOn count rs l t.settled t.end
