-- What is said of a call before and after it is written, for every state with the head, the last serial and the mark in question.
use Rattle.std.specs.Prelude.{◌≡◌, ◌++◌, ◌+◌, Result, Ok, Err}
use Rattle.kit.specs.Names.{false, List, [], ℕ, length}
use Rattle.rules.specs.Rules.{Call, Head, Mark, Sought, State, Rows, Log, Table, table, Write, memory, memory_of, with_memory, puts, Outcome, outcome, refused, code_of}
use Rattle.rules.specs.Rules.{sizes_of, bad, step}
use Rattle.undo_log.specs.declared.tokens.Settled.{Settled}
use Rattle.undo_log.specs.Settled.{state_with, state_after, mark_for}
use Rattle.roots.specs.Trail.{walk_of, compressed, Sound}
use Rattle.rules.specs.declared.refusal.Refusal.{Refusal}
use Rattle.plans.specs.Plans.{Verdict, finish_of, and_then, InsideEnd}
use Rattle.parts.specs.Ready.{Ready}
use Rattle.decisions.specs.declared.todo.Todo.{Todo}
use Rattle.decisions.specs.declared.decision.Decision.{Decision}
use Rattle.decisions.specs.declared.decision.Decision.TheVariants.{Near, Far}
use Rattle.decisions.specs.declared.decision.FarPlan.{FarPlan}
use Rattle.decisions.specs.Sorted.{walk_call, LiveKeys}
use Rattle.decisions.specs.End.{end_by, Endable}

-- What a settled call leaves, over the rows and the log and the state that it was made on.
abbrev pub outcome_from : State → Settled → (State → Table) → Outcome
outcome_from s r exit = outcome r.answer (exit (state_after s r))

-- A call was carried out: it is the rules' step, whatever the marks besides the one in question.
abbrev pub Carried : (State → Table) → (State → Table) → Head → ℕ → Sought → Call → Settled → Type 0
Carried entry exit h last m c r =
    (ms : List Mark) → mark_for (state_with h last ms) c ≡ m → outcome_from (state_with h last ms) r exit ≡ step (entry (state_with h last ms)) c

-- A call that is about no mark.
abbrev pub FarCarried : (State → Table) → (State → Table) → Head → Call → Settled → Type 0
FarCarried entry exit h c r = (last : ℕ) (m : Sought) → Carried entry exit h last m c r

-- ---- before

-- What is to be done is the rules' step, and can be done.
abbrev pub Does : Rows → Log → Head → ℕ → Sought → Call → Todo → Type 0
Does rs l h last m c t =
    let e = end_by rs l t in
    Carried (table rs l) (table e.rows e.log) h last m c e.settled × Endable h.count rs l t

abbrev pub Decided : Rows → Log → Head → ℕ → Sought → Call → Decision → Type 0
Decided rs l h last m c (Near t) = Does rs l h last m c t
Decided rs l h last m c (Far w) = (bad (sizes_of rs l) h ≡ false) × LiveKeys h.count w × (walk_call w ≡ c)

abbrev pub DecidedAnyhow : Rows → Log → Head → Call → Decision → Type 0
DecidedAnyhow rs l h c d = (last : ℕ) (m : Sought) → Decided rs l h last m c d

-- ---- long walks

-- What a verdict that fits comes to.
abbrev pub carried_out : Table → List Write → Verdict → Outcome
carried_out t ws (Err why) = refused (code_of why) t
carried_out t ws (Ok p) = outcome p.answer (with_memory t (puts (memory_of t) (and_then ws p.finish)))

-- It can be carried out, with room for all its entries.
pub record Doable (rs : Rows) (l : Log) (h : Head) (p : FarPlan) : Type 0 where
  pub ready
      : Ready h.count (length (walk_of p.first) + (length (walk_of p.second) + length (finish_of p.plan.finish))) (memory rs l h.«open» h.used)
  pub first : Sound rs.parents h.count p.first
  pub second : Sound (compressed p.first rs.parents) h.count p.second
  pub inside : InsideEnd h.count p.plan.finish

-- The call comes to it: the plan carried out, and the walks before it, is the rules' step.
abbrev pub FarIs : Rows → Log → Head → Call → List Write → Verdict → Type 0
FarIs rs l h c ws v = (last : ℕ) (ms : List Mark) → let t = table rs l (state_with h last ms) in carried_out t ws v ≡ step t c

abbrev pub FarPlanned : Rows → Log → Head → Call → Result FarPlan Refusal → Type 0
FarPlanned rs l h c (Err why) = FarIs rs l h c [] (Err why)
FarPlanned rs l h c (Ok p) = FarIs rs l h c (walk_of p.first ++ walk_of p.second) (Ok p.plan) × Doable rs l h p
