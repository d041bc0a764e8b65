-- A call over a head and the mark in question: which mark that is, what the call leaves, and the state that this makes.
use Rattle.kit.specs.Names.{Bool, cond, List, ℕ, set, ltb}
use Rattle.rules.specs.Rules.{Answer, Call, Head, Mark, Sought, State, MAX-OPEN, mark, refusal, innermost, not_innermost, seek}
use Rattle.rules.specs.declared.call.Call.TheVariants.{New, Len, Find, Unioned, Join, Post, Probe, ProbeKey, TryProbe, Snapshot, Rollback, Commit, Keys, Actions, Changes}
use Rattle.std.specs.Prelude.{None, Some}
use Rattle.undo_log.specs.declared.tokens.Settled.{Settled}

abbrev pub settled : Answer → Head → Settled
settled a h = record { answer = a; head = h }

-- A refusal leaves the head as it is.
abbrev pub refuse_head : Bool → ℕ → Head → Settled → Settled
refuse_head test n h rest = cond test (settled (refusal n) h) rest

abbrev pub state_with : Head → ℕ → List Mark → State
state_with h l ms = record { count = h.count; used = h.used; «open» = h.«open»; last = l; marks = ms }

-- The state that a settled call makes of the one it was made on: its head, and where a snapshot was opened, its token and mark.
unfoldable pub state_after : State → Settled → State
state_after s r =
    let deeper = ltb s.«open» r.head.«open» in
    let token = r.answer.token in
    state_with r.head (cond deeper token s.last) (cond deeper (set s.marks s.«open» (mark token s.used s.count)) s.marks)

-- ---- the mark that a call is about

-- The innermost one, where the token is its own.
abbrev pub latest : State → ℕ → Sought
latest s token = cond (not_innermost s token) None (Some (innermost s))

abbrev pub mark_of : State → Call → Sought
mark_of s (New owner amount) = None
mark_of s Len = None
mark_of s (Find key) = None
mark_of s (Unioned a b) = None
mark_of s (Join a b) = None
mark_of s (Post key owner amount) = None
mark_of s (Probe key) = None
mark_of s (ProbeKey key) = None
mark_of s (TryProbe key) = None
mark_of s Snapshot = None
mark_of s (Rollback token) = latest s token
mark_of s (Commit token) = latest s token
mark_of s (Keys token) = seek s token s.«open»
mark_of s (Actions token) = seek s token s.«open»
mark_of s (Changes token) = seek s token s.«open»

-- None where more snapshots are open than there are marks: any call on such a state is refused.
unfoldable pub mark_for : State → Call → Sought
mark_for s c = cond (ltb MAX-OPEN s.«open») None (mark_of s c)
