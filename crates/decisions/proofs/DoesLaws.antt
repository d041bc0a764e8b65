-- What is decided of a call is the rules' step: refusals, verdicts, new keys, rollbacks. Assumes nothing.
use Rattle.std.specs.Prelude.{◌≡◌, ◌+◌, Ok, Err}
use Rattle.kit.specs.Names.{refl, ap, sym, ◌∙◌, true, false, List, [], ℕ, length, arith}
use Rattle.rules.specs.Rules.{Answer, Answered, Call, Head, Mark, Sought, State, BAD-STATE, Rows, Log, table, entries, head, refusal, code_of, Write, memory}
use Rattle.rules.specs.Rules.{with_memory, puts, outcome, sizes_of, bad, resting, call, step}
use Rattle.undo_log.specs.declared.tokens.HeadCall.{HeadCall}
use Rattle.undo_log.specs.declared.tokens.HeadCall.TheVariants as head_call_case
use Rattle.undo_log.specs.declared.tokens.Settled.{Settled}
use Rattle.undo_log.specs.Settled.{settled, state_with}
use Rattle.undo_log.specs.HeadCalls.{head_call, on_state, on_head}
use Rattle.undo_log.proofs.HeadLaws.{after_moved, after_kept, head_call_lem}
use Rattle.plans.specs.Plans.{Verdict, finish_of, Inside}
use Rattle.plans.proofs.PlanLaws.{and_then_lem}
use Rattle.decisions.specs.End.{still_todo, verdict_todo}
use Rattle.decisions.specs.Decided.{carried_out, Carried, Does}
use Rattle.decisions.proofs.FitLaws.{Fits, good, good_ready}

-- ---- nothing is written

module _ (rs : Rows) (l : Log) (h : Head) (last : ℕ) (m : Sought) (c : Call) where
  pub answers : (a : Answer) → ((ms : List Mark) → outcome a (table rs l (state_with h last ms)) ≡ step (table rs l (state_with h last ms)) c)
      → Does rs l h last m c (still_todo (settled a h))
  answers a f = (λ ms q. ap (λ (s : State). outcome a (table rs l s)) (after_kept (state_with h last ms) a) ∙ f ms, tt)

  -- The lent parts or the state are no table's.
  pub bad_does : bad (sizes_of rs l) h ≡ true → Does rs l h last m c (still_todo (settled (refusal BAD-STATE) h))
  unfolding step
  bad_does b = answers (refusal BAD-STATE) (λ ms. rw b)

  module _ (g : bad (sizes_of rs l) h ≡ false) where
    good_step : (ms : List Mark) → call (table rs l (state_with h last ms)) c ≡ step (table rs l (state_with h last ms)) c
    unfolding step
    good_step ms = rw g

    pub calls : (a : Answer) → ((ms : List Mark) → outcome a (table rs l (state_with h last ms)) ≡ call (table rs l (state_with h last ms)) c)
        → Does rs l h last m c (still_todo (settled a h))
    calls a f = answers a (λ ms. f ms ∙ good_step ms)

    -- ---- a verdict on walks that rewrite nothing

    pub verdict_does : (v : Verdict) → Fits h.«open» h.used (entries l) 0 v → Inside h.count v
        → ((ms : List Mark) → carried_out (table rs l (state_with h last ms)) [] v ≡ step (table rs l (state_with h last ms)) c)
        → Does rs l h last m c (verdict_todo h v)
    verdict_does (Err why) fit i e = answers (refusal (code_of why)) e
    verdict_does (Ok p) fit i e =
        let a = p.answer in
        let f = p.finish in
        let ws = finish_of f in
        let none : 0 + length ws ≡ length ws = omega arith in
        let before = memory rs l h.«open» h.used in
        let after = puts before ws in (
          λ ms q.
              let s = state_with h last ms in
              ap (λ (x : State). outcome a (table after.rows after.log x))
              (after_moved s a (head h.count after.used h.«open») (omega arith))
              ∙ ap (λ (w : List Write). outcome a (with_memory (table rs l s) (puts before w))) (sym (and_then_lem [] f))
              ∙ e ms,
          (good_ready rs l h g (length ws) (rw none at fit), i),
        )

-- ---- a call on the head

module _ (rs : Rows) (l : Log) (h : Head) (last : ℕ) (m : Sought) (c : HeadCall) (g : bad (sizes_of rs l) h ≡ false) where
  resting_is : (ms : List Mark) (k : HeadCall) → resting (table rs l (state_with h last ms)) (on_state (state_with h last ms) k)
      ≡ call (table rs l (state_with h last ms)) (head_call k)
  unfolding call
  resting_is ms head_call_case.Len = refl
  resting_is ms head_call_case.Snapshot = refl
  resting_is ms (head_call_case.Commit token) = refl
  resting_is ms (head_call_case.Keys token) = refl
  resting_is ms (head_call_case.Actions token) = refl
  resting_is ms (head_call_case.Changes token) = refl

  pub rest_carried : (r : Settled) → r ≡ on_head h last m c → Carried (table rs l) (table rs l) h last m (head_call c) r
  unfolding step
  rest_carried r e ms q =
      let s = state_with h last ms in
      rw e
      (ap (λ (x : Answered). outcome x.answer (table rs l x.state)) (head_call_lem h last ms m c (good rs l h g).opened q)
      ∙ resting_is ms c
      ∙ rw g)

  pub rest_does : (r : Settled) → r ≡ on_head h last m c → Does rs l h last m (head_call c) (still_todo r)
  rest_does r e = (rest_carried r e, tt)
