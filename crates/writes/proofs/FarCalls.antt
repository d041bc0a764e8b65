-- A long walk's plan carried out is the rules' step. Assumes nothing.
use Rattle.std.specs.Prelude.{◌≡◌, ◌++◌, Ok, Err}
use Rattle.kit.specs.Names.{ap, ◌∙◌, arith}
use Rattle.rules.specs.Rules.{Call, Head, State, Rows, Log, table, head, refusal, code_of, memory, puts, outcome}
use Rattle.rules.specs.declared.refusal.Refusal.{Refusal}
use Rattle.undo_log.specs.declared.tokens.Settled.{Settled}
use Rattle.undo_log.specs.Settled.{settled, state_with}
use Rattle.undo_log.proofs.HeadLaws.{after_moved, after_kept}
use Rattle.roots.specs.Trail.{walk_of}
use Rattle.plans.specs.Plans.{and_then}
use Rattle.decisions.specs.declared.decision.FarPlan.{FarPlan}
use Rattle.decisions.specs.End.{Ended, logs}
use Rattle.decisions.specs.Decided.{outcome_from, FarPlanned, FarCarried}

module _ (rs : Rows) (l : Log) (h : Head) (c : Call) where
  pub far_refused : (why : Refusal) → FarPlanned rs l h c (Err why) → (r : Settled) → r ≡ settled (refusal (code_of why)) h
      → FarCarried (table rs l) (table rs l) h c r
  far_refused why is r e last m ms k =
      let s = state_with h last ms in
      ap (λ (x : Settled). outcome_from s x (table rs l)) e
      ∙ ap (λ (x : State). outcome (refusal (code_of why)) (table rs l x)) (after_kept s (refusal (code_of why)))
      ∙ is last ms

  pub far_carried : (p : FarPlan) → FarPlanned rs l h c (Ok p) → (e : Ended)
      → e ≡ logs (settled p.plan.answer h) (puts (memory rs l h.«open» h.used) (and_then (walk_of p.first ++ walk_of p.second) p.plan.finish))
      → FarCarried (table rs l) (table e.rows e.log) h c e.settled
  far_carried p P e q last m ms k =
      let s = state_with h last ms in
      let a = p.plan.answer in
      let after = puts (memory rs l h.«open» h.used) (and_then (walk_of p.first ++ walk_of p.second) p.plan.finish) in
      ap (λ (x : Ended). outcome_from s x.settled (table x.rows x.log)) q
      ∙ ap (λ (x : State). outcome a (table after.rows after.log x)) (after_moved s a (head h.count after.used h.«open») (omega arith))
      ∙ P.0 last ms
