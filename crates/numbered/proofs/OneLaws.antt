-- One call, with its mark at hand and what it leaves written. Assumes nothing.
use Rattle.std.specs.Prelude.{◌≡◌}
use Rattle.kit.specs.Names.{sym, ap, ◌∙◌, subst, false, List, ℕ}
use Rattle.rules.specs.Rules.{Answer, Call, Head, Mark, Sought, State, Table, head_of, Outcome, outcome, stray, bad_table, step}
use Rattle.bad_state.proofs.GoodLaws.{bad_after}
use Rattle.undo_log.specs.declared.tokens.Settled.{Settled}
use Rattle.undo_log.specs.Settled.{state_with, state_after, mark_for}
use Rattle.decisions.specs.Decided.{Carried}

module _ (entry exit : State → Table) (h : Head) (l : ℕ) (ms : List Mark) (c : Call) where
  pub one_done : (m : Sought) (r : Settled) (s : State) → m ≡ mark_for (state_with h l ms) c → Carried entry exit h l m c r
      → s ≡ state_after (state_with h l ms) r → outcome r.answer (exit s) ≡ step (entry (state_with h l ms)) c
  one_done m r s q e w = ap (λ (x : State). outcome r.answer (exit x)) w ∙ e ms (sym q)

-- After a call on a table that is not bad, it is bad where the head is astray.
pub bad_on : (t u : Table) (a : Answer) (c : Call) → bad_table t ≡ false → outcome a u ≡ step t c → stray (head_of u.state) ≡ bad_table u
bad_on t u a c g q = subst (λ (x : Table). stray (head_of x.state) ≡ bad_table x) (sym (ap (λ (o : Outcome). o.table) q)) (bad_after t c false (sym g))
