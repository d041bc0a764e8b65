-- Document 01, "Rules of the rows": what a call on rows would answer and write, were there room in the log.
use Rattle.std.specs.Prelude.{◌||◌, ◌∷◌, ◌++◌, ◌+◌, Result, Ok, Err}
use Rattle.kit.specs.Names.{Bool, false, cond, List, [], ℕ, eqb, ltb}
use Rattle.rules.specs.declared.call.Answer.{Answer}
use Rattle.rules.specs.declared.table.Value.{Value}
use Rattle.rules.specs.declared.table.MergeError.{MergeError}
use Rattle.rules.specs.declared.table.MergeError.TheVariants.{Clash, TooMuch}
use Rattle.rules.specs.Numbers.{DONE, BROKEN-TABLE, OWNER-CLASH, TOO-MUCH, MAX-REDIRECTS, MAX-RANK}
use Rattle.rules.specs.Lent.{Rows, value_of, row_at}
use Rattle.rules.specs.Answer.{refusal, stepped, found, probed, held, said}
use Rattle.rules.specs.Merge.{merge}
use Rattle.rules.specs.Walk.{Path, broken, to, path, steps}
use Rattle.rules.specs.Write.{Write, redirect, crown, writes}

-- ---- plans

pub record Plan : Type 0 where
  pub answer : Answer
  pub todo : List Write

abbrev pub plan : Answer → List Write → Plan
plan a ws = record { answer = a; todo = ws }

-- A walk that ended at a root: its writes, and the rows as it leaves them.
pub record Walked : Type 0 where
  pub root : ℕ
  pub steps : ℕ
  pub todo : List Write
  pub rows : Rows

-- "A walk of k ≥ 1 steps rewrites the parents of its first k − 1 rows to the root, the row nearest the root first. The row just
-- below the root isn't written. k = 0 or 1 writes nothing."
unfoldable pub rewrites : ℕ → List ℕ → List Write
rewrites root [] = []
rewrites root (key ∷ []) = []
rewrites root (key ∷ next ∷ passed) = rewrites root (next ∷ passed) ++ (redirect key root ∷ [])

abbrev pub walked_on : Rows → ℕ → List ℕ → Walked
walked_on rs root passed =
    record { root = root; steps = steps passed; todo = rewrites root passed; rows = writes rs (rewrites root passed) }

-- The walk from a key, and the plan that is made of where it led.
abbrev pub go_on : Rows → (Walked → Plan) → Path → Plan
go_on rs next broken = plan (refusal BROKEN-TABLE) []
go_on rs next (to root passed) = next (walked_on rs root passed)

abbrev pub walk : Rows → ℕ → ℕ → (Walked → Plan) → Plan
walk rs count key next = go_on rs next (path rs.parents count MAX-REDIRECTS key)

-- "walk a, then walk b in the table as a's walk left it"
abbrev pub walk_both : Rows → ℕ → ℕ → ℕ → (Walked → Walked → Plan) → Plan
walk_both rs count a b next = walk rs count a (λ w. walk w.rows count b (next w))

-- After the walks a merge decides. "A merge that fails logs only its walks' entries".
abbrev pub settle : List Write → ℕ → (Value → List Write) → Result Value MergeError → Plan
settle walked s more (Err Clash) = plan (stepped OWNER-CLASH s) walked
settle walked s more (Err TooMuch) = plan (stepped TOO-MUCH s) walked
settle walked s more (Ok v) = plan (stepped DONE s) (walked ++ more v)

-- ---- what each call makes of its walks

abbrev pub find_on : Walked → Plan
find_on w = plan (found w.root w.steps) w.todo

-- "Unioned makes the same two walks, a's first, and no more." "Join and unioned report the sum of both walks' steps".
abbrev pub unioned_on : Walked → Walked → Plan
unioned_on v w = plan (said (eqb v.root w.root) (v.steps + w.steps)) (v.todo ++ w.todo)

-- "Unequal ranks: the lower root redirects to the higher, whose rank stays. Equal ranks: a's root redirects to b's, whose rank
-- grows by 1. The row that redirects keeps its rank, owner and amount." "A join logs the redirected row, then the new root".
abbrev pub unite : Rows → ℕ → ℕ → Value → List Write
unite rs a b v =
    let ra = (row_at rs a).rank in
    let rb = (row_at rs b).rank in
    cond (ltb rb ra) (redirect b a ∷ crown a ra v ∷ [])
    (cond (ltb ra rb) (redirect a b ∷ crown b rb v ∷ [])
    (redirect a b ∷ crown b (rb + 1) v ∷ []))

-- BROKEN_TABLE: "a join of different roots finds a root's rank above 16"
abbrev pub too_high : Rows → ℕ → ℕ → Bool
too_high rs a b = ltb MAX-RANK (row_at rs a).rank || ltb MAX-RANK (row_at rs b).rank

-- "Equal roots: done, values not merged. Else merge a's root with b's."
abbrev pub join_on : Walked → Walked → Plan
join_on v w =
    let a = v.root in
    let b = w.root in
    let walked = v.todo ++ w.todo in
    let s = v.steps + w.steps in
    cond (eqb a b) (plan (stepped DONE s) walked)
    (cond (too_high w.rows a b) (plan (refusal BROKEN-TABLE) [])
    (settle walked s (unite w.rows a b) (merge (value_of (row_at w.rows a)) (value_of (row_at w.rows b)))))

-- Post: "walk, merge the root's value with the given one, write owner and amount."
abbrev pub post_on : Value → Walked → Plan
post_on v w =
    let root = row_at w.rows w.root in
    settle w.todo w.steps (λ merged. crown w.root root.rank merged ∷ []) (merge (value_of root) v)

abbrev pub probe_on : Walked → Plan
probe_on w = plan (probed 0 (value_of (row_at w.rows w.root)) w.steps) w.todo

abbrev pub probe_key_on : Walked → Plan
probe_key_on w = plan (probed w.root (value_of (row_at w.rows w.root)) w.steps) w.todo

-- `try_probe_value`: "no walk; the value where the row is a root, else nothing, an answer told apart from every value."
abbrev pub try_probe : Rows → ℕ → Plan
try_probe rs key =
    let r = row_at rs key in
    plan (cond (eqb r.parent key) (held (value_of r)) (said false 0)) []
