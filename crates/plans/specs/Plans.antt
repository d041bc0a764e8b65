-- A call's plan as the code has it, made of where its walks lead: what the rules make of the same walks.
use Rattle.std.specs.Prelude.{◌≡◌, ◌∷◌, ◌++◌, ◌+◌, ◌-◌, ◌<◌, Result, Ok, Err}
use Rattle.kit.specs.Names.{Bool, false, cond, List, [], ℕ, length, eqb, ltb}
use Rattle.rules.specs.Rules.{Value, Answer, Rows, value, owner_of, row_at, refusal, Write, redirect, crown, Plan, plan, Walked, find_on, unioned_on, join_on}
use Rattle.rules.specs.Rules.{post_on, probe_on, probe_key_on, code_of, stepped, OWNER-CLASH, TOO-MUCH}
use Rattle.rules.specs.declared.table.MergeError.{MergeError}
use Rattle.rules.specs.declared.table.MergeError.TheVariants.{Clash, TooMuch}
use Rattle.rules.specs.declared.refusal.Refusal.{Refusal}
use Rattle.rules.specs.declared.refusal.Refusal.TheVariants.{LogFull}
use Rattle.roots.specs.Saves.{with_parents}
use Rattle.plans.specs.declared.verdict.Root.{Root}
use Rattle.plans.specs.declared.verdict.Finish.{Finish}
use Rattle.plans.specs.declared.verdict.Finish.TheVariants.{Nothing, Crown, Unite}
use Rattle.plans.specs.declared.verdict.Planned.{Planned}
use Rattle.plans.specs.declared.verdict.OneCall.{OneCall}
use Rattle.plans.specs.declared.verdict.OneCall.TheVariants.{Find, Probe, ProbeKey, Post}
use Rattle.plans.specs.declared.verdict.TwoCall.{TwoCall}
use Rattle.plans.specs.declared.verdict.TwoCall.TheVariants.{Unioned, Join}

-- A plan, or why there is none.
abbrev pub Verdict : Type 0
Verdict = Result Planned Refusal

abbrev pub planned : Answer → Finish → Planned
planned a f = record { answer = a; finish = f }

-- Nothing is written at the roots; so where a merge fails.
abbrev pub still : Answer → Planned
still a = planned a Nothing

abbrev pub unmerged : MergeError → ℕ → Planned
unmerged Clash s = still (stepped OWNER-CLASH s)
unmerged TooMuch s = still (stepped TOO-MUCH s)

-- ---- what is written

-- At the roots, after the walks.
abbrev pub finish_of : Finish → List Write
finish_of Nothing = []
finish_of (Crown key rank v) = crown key rank v ∷ []
finish_of (Unite old new rank v) = redirect old new ∷ crown new rank v ∷ []

-- The walks' writes, and those at the roots.
abbrev pub and_then : List Write → Finish → List Write
and_then walked Nothing = walked
and_then walked (Crown key rank v) = walked ++ (crown key rank v ∷ [])
and_then walked (Unite old new rank v) = walked ++ (redirect old new ∷ crown new rank v ∷ [])

-- The rules' plan that a verdict stands for.
abbrev pub plan_of : List Write → Verdict → Plan
plan_of walked (Err why) = plan (refusal (code_of why)) []
plan_of walked (Ok p) = plan p.answer (and_then walked p.finish)

-- The roots that are written are rows.
abbrev pub InsideEnd : ℕ → Finish → Type 0
InsideEnd count Nothing = Unit {0}
InsideEnd count (Crown key rank v) = key < count
InsideEnd count (Unite old new rank v) = (old < count) × (new < count)

abbrev pub Inside : ℕ → Verdict → Type 0
Inside count (Err why) = Unit {0}
Inside count (Ok p) = InsideEnd count p.finish

-- ---- what a call makes of its walks

-- A walk that ended at a root after so many steps. It rewrote parents alone.
abbrev pub walked_to : Rows → ℕ → ℕ → List ℕ → List Write → Walked
walked_to rs root s ps ws = record { root = root; steps = s; todo = ws; rows = with_parents rs ps }

abbrev pub one_on : OneCall → Walked → Plan
one_on Find = find_on
one_on Probe = probe_on
one_on ProbeKey = probe_key_on
one_on (Post owner amount) = post_on (value (owner_of owner) amount)

abbrev pub two_on : TwoCall → Walked → Walked → Plan
two_on Unioned = unioned_on
two_on Join = join_on

-- Whatever the walks wrote, the verdict is the rules' plan.
abbrev pub MadeOfOne : Rows → OneCall → ℕ → ℕ → Verdict → Type 0
MadeOfOne rs c root s v = (ps : List ℕ) (ws : List Write) → plan_of ws v ≡ one_on c (walked_to rs root s ps ws)

abbrev pub MadeOfTwo : Rows → TwoCall → ℕ → ℕ → ℕ → Verdict → Type 0
MadeOfTwo rs c a b s v =
    (ps ps' : List ℕ) (ws ws' : List Write) (sa sb : ℕ) → sa + sb ≡ s
    → plan_of (ws ++ ws') v ≡ two_on c (walked_to rs a sa ps ws) (walked_to rs b sb ps' ws')

-- A post at a root, and a join of two.
abbrev pub Posted : Root → ℕ → Value → Verdict → Type 0
Posted r s w v =
    (rs : Rows) → r.row ≡ row_at rs r.key → (ps : List ℕ) (ws : List Write) → plan_of ws v ≡ post_on w (walked_to rs r.key s ps ws)

abbrev pub Joined : Root → Root → ℕ → Verdict → Type 0
Joined a b s v =
    (a.key ≡ b.key → ⊥) → (rs : Rows) → a.row ≡ row_at rs a.key → b.row ≡ row_at rs b.key → MadeOfTwo rs Join a.key b.key s v

-- The roots united by their ranks, as `Plan.unite` has it.
abbrev pub united : Root → Root → Value → List Write
united a b v =
    cond (ltb b.row.rank a.row.rank) (redirect b.key a.key ∷ crown a.key a.row.rank v ∷ [])
    (cond (ltb a.row.rank b.row.rank) (redirect a.key b.key ∷ crown b.key b.row.rank v ∷ [])
    (redirect a.key b.key ∷ crown b.key (b.row.rank + 1) v ∷ []))

-- ---- room in the log

-- LOG_FULL: "a snapshot is open and the entries this call would log exceed the free ones", as `Write.full` has it.
abbrev pub lacks : ℕ → ℕ → ℕ → ℕ → Bool
lacks opened used room n = cond (eqb opened 0) false (ltb (room - used) n)

abbrev pub fitted : ℕ → ℕ → ℕ → ℕ → Verdict → Verdict
fitted opened used room walked (Err why) = Err why
fitted opened used room walked (Ok p) = cond (lacks opened used room (walked + length (finish_of p.finish))) (Err LogFull) (Ok p)
