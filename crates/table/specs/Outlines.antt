-- What a call has to know of a state.
use Rattle.rules.specs.Rules.{Call, State, head_of}
use Rattle.undo_log.specs.Settled.{mark_for}
use Rattle.head_calls.specs.declared.calls.Outline.{Outline}

abbrev pub outline_of : State → Call → Outline
outline_of s c = record { head = head_of s; last = s.last; sought = mark_for s c }
