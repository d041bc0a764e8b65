-- The calls that neither read nor write rows and entries: over a state, as document 01 has them, and over a head.
use Rattle.std.specs.Prelude.{◌||◌, ◌+◌}
use Rattle.kit.specs.Names.{ℕ, eqb, ltb}
use Rattle.rules.specs.Rules.{Answer, Answered, Call, Head, Mark, Sought, State, DONE, NOT-INNERMOST, TOO-DEEP, BROKEN-TABLE, SERIALS-SPENT, NOT-OPEN, MAX-OPEN}
use Rattle.rules.specs.Rules.{MAX-U64, head, refusal, said, range, opened, unfit, stranded, committed, len, snapshot, commit, keys_since, actions_since, has_changes}
use Rattle.rules.specs.declared.call.Call.TheVariants as call
use Rattle.std.specs.Prelude.{None, Some}
use Rattle.undo_log.specs.declared.tokens.HeadCall.{HeadCall}
use Rattle.undo_log.specs.declared.tokens.HeadCall.TheVariants.{Len, Snapshot, Commit, Keys, Actions, Changes}
use Rattle.undo_log.specs.declared.tokens.Settled.{Settled}
use Rattle.undo_log.specs.Settled.{settled, refuse_head}

abbrev pub head_call : HeadCall → Call
head_call Len = call.Len
head_call Snapshot = call.Snapshot
head_call (Commit token) = call.Commit token
head_call (Keys token) = call.Keys token
head_call (Actions token) = call.Actions token
head_call (Changes token) = call.Changes token

abbrev pub on_state : State → HeadCall → Answered
on_state s Len = len s
on_state s Snapshot = snapshot s
on_state s (Commit token) = commit s token
on_state s (Keys token) = keys_since s token
on_state s (Actions token) = actions_since s token
on_state s (Changes token) = has_changes s token

-- ---- the same over a head, the last serial and the mark in question

abbrev pub snapshot_on : Head → ℕ → Settled
snapshot_on h l =
    refuse_head (eqb h.«open» MAX-OPEN) TOO-DEEP h
    (refuse_head (eqb l MAX-U64) SERIALS-SPENT h
    (settled (opened (l + 1)) (head h.count h.used (h.«open» + 1))))

abbrev pub commit_on : Head → Sought → Settled
commit_on h None = settled (refusal NOT-INNERMOST) h
commit_on h (Some m) = refuse_head (unfit h m || stranded h m) BROKEN-TABLE h (settled (refusal DONE) (committed h))

abbrev pub asked_on : Head → (Mark → Answer) → Sought → Settled
asked_on h reply None = settled (refusal NOT-OPEN) h
asked_on h reply (Some m) = refuse_head (unfit h m) BROKEN-TABLE h (settled (reply m) h)

unfoldable pub on_head : Head → ℕ → Sought → HeadCall → Settled
on_head h l m Len = settled (range 0 h.count) h
on_head h l m Snapshot = snapshot_on h l
on_head h l m (Commit token) = commit_on h m
on_head h l m (Keys token) = asked_on h (λ k. range k.keys h.count) m
on_head h l m (Actions token) = asked_on h (λ k. range k.log_len h.used) m
on_head h l m (Changes token) = asked_on h (λ k. said (ltb k.log_len h.used) 0) m
