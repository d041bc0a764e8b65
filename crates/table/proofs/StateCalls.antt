-- A call over an outline is the call over the state. Assumes nothing.
use Rattle.kit.specs.Names.{refl, ap, subst, ◌∙◌}
use Rattle.std.specs.Prelude.{◌≡◌}
use Rattle.rules.specs.Rules.{Answered, Call, State, Table, answered, outcome_of, step}
use Rattle.undo_log.specs.declared.tokens.Settled.{Settled}
use Rattle.undo_log.specs.Settled.{state_after}
use Rattle.head_calls.specs.declared.calls.Outline.{Outline}
use Rattle.decisions.specs.Decided.{Carried}
use Rattle.table.specs.Outlines.{outline_of}

pub by_state : (entry exit : State → Table) (s : State) (c : Call) (k : Outline) (r : Settled) (o : Answered) → k ≡ outline_of s c
    → Carried entry exit k.head k.last k.sought c r → o ≡ answered r.answer (state_after s r) → outcome_of o exit ≡ step (entry s) c
by_state entry exit s c k r o p f e =
    ap (λ (x : Answered). outcome_of x exit) e ∙ subst (λ (x : Outline). Carried entry exit x.head x.last x.sought c r) p f s.marks refl
