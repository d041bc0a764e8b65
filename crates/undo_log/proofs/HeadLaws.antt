-- A call over a head and its mark is document 01's over the state. Assumes nothing.
use Rattle.std.specs.Prelude.{◌≡◌, ◌||◌, ◌+◌, ◌≤◌}
use Rattle.kit.specs.Names.{refl, ap, sym, ◌∙◌, Bool, true, false, cond, List, ℕ, eqb, ltb, arith, lt-ltb, le-ltb}
use Rattle.rules.specs.Rules.{Answer, Answered, Head, Mark, Sought, State, DONE, NOT-INNERMOST, TOO-DEEP, BROKEN-TABLE, SERIALS-SPENT, NOT-OPEN, MAX-OPEN, MAX-U64}
use Rattle.rules.specs.Rules.{head, head_of, with_head, refusal, range, said, opened, answered, refuse_state, marked, innermost, not_innermost, unfit, stranded}
use Rattle.rules.specs.Rules.{committed, seek, snapshot, commit, asked, ask}
use Rattle.std.specs.Prelude.{None, Some}
use Rattle.undo_log.specs.declared.tokens.HeadCall.{HeadCall}
use Rattle.undo_log.specs.declared.tokens.HeadCall.TheVariants.{Len, Snapshot, Commit, Keys, Actions, Changes}
use Rattle.undo_log.specs.declared.tokens.Settled.{Settled}
use Rattle.undo_log.specs.Settled.{settled, refuse_head, state_with, state_after, latest, mark_of, mark_for}
use Rattle.undo_log.specs.HeadCalls.{head_call, on_state, snapshot_on, commit_on, asked_on, on_head}
use Rattle.undo_log.proofs.MarkLaws.{mark_for_few}

-- ---- the state that a settled call makes

module _ (s : State) (a : Answer) where
  -- A call that opens no snapshot leaves serials and marks.
  pub after_moved : (h : Head) → h.«open» ≤ s.«open» → state_after s (settled a h) ≡ with_head s h
  unfolding state_after
  after_moved h q = rw (le-ltb s.«open» h.«open» q)

  -- One that leaves the head leaves the state.
  pub after_kept : state_after s (settled a (head_of s)) ≡ s
  after_kept = after_moved (head_of s) (omega arith)

abbrev settle : State → Settled → Answered
settle s r = answered r.answer (state_after s r)

settle_kept : (s : State) (a : Answer) → settle s (settled a (head_of s)) ≡ answered a s
settle_kept s a = rw (after_kept s a)

settle_refuse : (s : State) (b : Bool) (n : ℕ) (r : Settled) → settle s (refuse_head b n (head_of s) r) ≡ refuse_state b n s (settle s r)
settle_refuse s true n r = settle_kept s (refusal n)
settle_refuse s false n r = refl

-- ---- call by call

module _ (s : State) where
  settle_opened : settle s (settled (opened (s.last + 1)) (head s.count s.used (s.«open» + 1))) ≡ answered (opened (s.last + 1)) (marked s)
  unfolding state_after
  settle_opened = rw (lt-ltb s.«open» (s.«open» + 1) (omega arith))

  settle_snapshot : settle s (snapshot_on (head_of s) s.last) ≡ snapshot s
  settle_snapshot =
      let deep = eqb s.«open» MAX-OPEN in
      let spent = eqb s.last MAX-U64 in
      settle_refuse s deep TOO-DEEP _
      ∙ ap (refuse_state deep TOO-DEEP s) (settle_refuse s spent SERIALS-SPENT _ ∙ ap (refuse_state spent SERIALS-SPENT s) settle_opened)

  settle_committed : settle s (settled (refusal DONE) (committed (head_of s))) ≡ answered (refusal DONE) (with_head s (committed (head_of s)))
  settle_committed = rw (after_moved s (refusal DONE) (committed (head_of s)) (omega arith))

  commit_by : (token : ℕ) (b : Bool) → not_innermost s token ≡ b → settle s (commit_on (head_of s) (cond b None (Some (innermost s)))) ≡ commit s token
  commit_by token true e = rw e (settle_kept s (refusal NOT-INNERMOST))
  commit_by token false e =
      let broken = unfit (head_of s) (innermost s) || stranded (head_of s) (innermost s) in
      rw e (settle_refuse s broken BROKEN-TABLE _ ∙ ap (refuse_state broken BROKEN-TABLE s) settle_committed)

  module _ (token : ℕ) (m : Sought) where
    settle_commit : latest s token ≡ m → settle s (commit_on (head_of s) m) ≡ commit s token
    settle_commit e = rw (sym e) (commit_by token (not_innermost s token) refl)

    settle_ask : (reply : Mark → Answer) → seek s token s.«open» ≡ m → settle s (asked_on (head_of s) reply m) ≡ ask s token reply
    settle_ask reply e = by_mark m ∙ ap (asked s reply) (sym e)
      where
        by_mark : (k : Sought) → settle s (asked_on (head_of s) reply k) ≡ asked s reply k
        by_mark None = settle_kept s (refusal NOT-OPEN)
        by_mark (Some k) =
            let broken = unfit (head_of s) k in
            settle_refuse s broken BROKEN-TABLE _ ∙ ap (refuse_state broken BROKEN-TABLE s) (settle_kept s (reply k))

pub head_call_lem : (h : Head) (l : ℕ) (ms : List Mark) (m : Sought) (c : HeadCall) → h.«open» ≤ MAX-OPEN
    → mark_for (state_with h l ms) (head_call c) ≡ m
    → answered (on_head h l m c).answer (state_after (state_with h l ms) (on_head h l m c)) ≡ on_state (state_with h l ms) c
unfolding on_head
head_call_lem h l ms m c o e = by_call c (mark_for_few (state_with h l ms) (head_call c) o ∙ e)
  where
    by_call : (k : HeadCall) → mark_of (state_with h l ms) (head_call k) ≡ m → settle (state_with h l ms) (on_head h l m k) ≡ on_state (state_with h l ms) k
    by_call Len q = settle_kept (state_with h l ms) (range 0 h.count)
    by_call Snapshot q = settle_snapshot (state_with h l ms)
    by_call (Commit token) q = settle_commit (state_with h l ms) token m q
    by_call (Keys token) q = settle_ask (state_with h l ms) token m (λ k. range k.keys h.count) q
    by_call (Actions token) q = settle_ask (state_with h l ms) token m (λ k. range k.log_len h.used) q
    by_call (Changes token) q = settle_ask (state_with h l ms) token m (λ k. said (ltb k.log_len h.used) 0) q
