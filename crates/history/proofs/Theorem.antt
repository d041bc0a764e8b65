-- Demand 3: of every table that stands for a history, and so of every one that is reached from a fresh table.
use Rattle.std.specs.Prelude.{◌≡◌, ◌∷◌, ◌↔◌, ◌≢◌, ◌<◌}
use Rattle.kit.specs.Names.{refl, sym, ap, ◌∙◌, subst⁻¹, Bool, true, false, List, [], ℕ, length, eqb, arith, eqb-false}
use Rattle.rules.specs.Rules.{Call, Owner, Value, DONE, BAD-STATE, NO-KEY, LOG-FULL, Rows, Table, row_at, found, Path, broken, to, memory_of, with_memory, full, puts}
use Rattle.rules.specs.Rules.{Plan, walked_on, go_on, find_on, Outcome, outcome, refuse, carry, bad_table, not_live, live, call, step}
use Rattle.rules.specs.declared.call.Call.TheVariants.{Find}
use Rattle.rules.specs.declared.table.Owner.TheVariants.{Nobody, Tenant}
use Rattle.groups.specs.Groups.{Groups, Deed, replay}
use Rattle.groups.specs.Shown.{walk_in, end_of, passed_on, root_in, steps_in, groups_of, Same}
use Rattle.groups.specs.Track.{History, event, act}
use Rattle.groups.specs.Stands.{Made, over_after, Stands}
use Rattle.groups.proofs.Walks.{Holds, reaches}
use Rattle.groups.proofs.Plans.{walk_holds}
use Rattle.groups.proofs.RowCalls.{holds}
use Rattle.groups.proofs.Calls.{keeps, fresh_stands}
use Rattle.groups.proofs.ShownLaws.{walk_reaches, same_groups, steps_bound, same_total, same_size}
use Rattle.history.specs.Survival.{surviving}
use Rattle.history.specs.Account.{byte_seconds, named_by, namings, down_from}
use Rattle.history.specs.Demand.{after_walk, Live, Root, in_group, Peaceful, Demand, Story, turn, tell, begin, Demand3}
use Rattle.history.proofs.SurvivalLaws.{surviving_is}
use Rattle.history.proofs.LinkLaws.{linked_iff}
use Rattle.history.proofs.AccountLaws.{Account, account}

-- ---- the central law, in 01's words: the groups after a history are the groups after its surviving creations, joins and posts alone

module _ (t : Table) (h : History) (S : Stands t h) where
  pub survivors_made : Made t.rows t.state.count (surviving h)
  survivors_made = rw (surviving_is h S.1.orderly) S.1.made

  survivors_hold : Holds t.rows (replay (surviving h)) S.1.room
  survivors_hold = rw (surviving_is h S.1.orderly) (holds S.1)

  pub groups_after : Same (groups_of t) (replay (surviving h))
  groups_after = same_groups t survivors_hold survivors_made.counted

-- ---- what `find` answers, in any table whatever

refuse_done : (b : Bool) (n : ℕ) (t : Table) (rest : Outcome) → eqb n DONE ≡ false → (refuse b n t rest).answer.no ≡ DONE
    → ((refuse b n t rest).answer ≡ rest.answer) × (rest.answer.no ≡ DONE)
refuse_done true n t rest e q = absurd (eqb-false n DONE e q)
refuse_done false n t rest e q = (refl, q)

find_goes : (rs : Rows) (p : Path) → (go_on rs find_on p).answer.no ≡ DONE
    → (go_on rs find_on p).answer ≡ found (end_of p) (length (passed_on p))
find_goes rs broken e = absurd (omega arith)
find_goes rs (to root passed) e = refl

find_answers : (t : Table) (key : ℕ) → (step t (Find key)).answer.no ≡ DONE
    → (step t (Find key)).answer ≡ found (root_in t key) (steps_in t key)
unfolding step call
find_answers t key e =
    let p : Plan = go_on t.rows find_on (walk_in t key) in
    let (a, e₁) = refuse_done (bad_table t) BAD-STATE t (live t key p) refl e in
    let (b, e₂) = refuse_done (not_live t key) NO-KEY t (carry t p) refl e₁ in
    let (c, e₃) =
    refuse_done (full (memory_of t) (length p.todo)) LOG-FULL t (outcome p.answer (with_memory t (puts (memory_of t) p.todo)))
    refl e₂ in
    a ∙ b ∙ c ∙ find_goes t.rows (walk_in t key) e₃

-- ---- any table that stands for a history

-- A walk that ends is the one that ends there.
ends_there : (p : Path) (r : ℕ) (passed : List ℕ) → p ≡ to r passed → p ≡ to (end_of p) (passed_on p)
ends_there p r passed e = rw e

unnamed : (o : Owner) → ((n : ℕ) → o ≢ Tenant n) → o ≡ Nobody
unnamed Nobody f = refl
unnamed (Tenant n) f = absurd (f n refl)

pub stands_demand : (t : Table) (h : History) → Stands t h → Peaceful h → Demand t h
stands_demand t h S peace =
    let ds : List Deed = surviving h in
    let g : Groups = replay ds in
    let M : Made t.rows t.state.count ds = survivors_made t h S in
    let H : Holds t.rows g S.1.room = survivors_hold t h S in
    let G : Same (groups_of t) g = groups_after t h S in
    let A : Account g ds = account ds M.accepted in
    let live : (key : ℕ) → Live t key → key < g.count = λ key l. rw M.counted l in
    let root : (key : ℕ) → Live t key → root_in t key ≡ g.root key = λ key l. G.root key (live key l) in
    let inside : (key : ℕ) → Live t key → Live t (root_in t key) =
    λ key l. rw (root key l, ← M.counted) (H.whole.within key (live key l)) in
    let own : (r : ℕ) → Root t r → g.root r ≡ r = λ r l. sym (root r l.0) ∙ l.1 in
    let owns : (r : ℕ) → Root t r → (k : ℕ) → ((row_at t.rows r).owner ≡ Tenant k) ↔ (0 < in_group t r (namings k ds)) = λ r l k.
    rw (
      ap (λ (v : Value). v.owner) (G.value r (live r l.0) (own r l)),
      same_total G r (namings k ds)
          (A.below (λ v. named_by k v.owner)),
    )
    ((A.values r (live r l.0) (own r l)).owned k) in
    let walked : (a : ℕ) → Live t a → Holds (after_walk t a).rows g S.1.room = λ a l.
    subst⁻¹ (λ (p : Path). Holds (walked_on t.rows (end_of p) (passed_on p)).rows g S.1.room)
    (walk_reaches t H M.counted a (live a l)) (walk_holds H a (live a l)) in
    record {
      ends = λ key l. (
        ends_there (walk_in t key) (g.root key) (reaches H key (live key l)).passed (walk_reaches t H M.counted key (live key l)),
        (inside key l, root (root_in t key) (inside key l) ∙ ap g.root (root key l) ∙ H.whole.settled key ∙ sym (root key l)),
      );
      finds = find_answers t;
      links = λ a b la lb. rw (root a la, root b lb) (linked_iff A.links a b);
      sums = λ r l. ap (λ (v : Value). v.amount) (G.value r (live r l.0) (own r l)) ∙ (A.values r (live r l.0) (own r l)).sum
          ∙ sym (same_total G r (byte_seconds ds) (A.below (λ v. v.amount)));
      owners = owns;
      unowned = λ r l f. unnamed (row_at t.rows r).owner (λ k e. let q = (owns r l k).0 e in omega (arith, f k));
      short = λ key l. rw (same_size G (root_in t key), root key l) (steps_bound t H M.counted key (live key l));
      short_second =
          λ a b la lb. rw (same_size G (root_in t b), root b lb) (steps_bound (after_walk t a) (walked a la) M.counted b (live b lb));
      peace = peace;
      keys = A.keys ∙ ap down_from M.counted;
    }

-- ---- any sequence of calls, on any table that stands for a history

pub told_stands : (cs : List Call) (s : Story) → Stands s.table s.past → Peaceful s.past
    → Stands (tell s cs).table (tell s cs).past × Peaceful (tell s cs).past
unfolding tell
told_stands [] s S p = (S, p)
told_stands (c ∷ cs) s S p =
    let K = keeps S.1 c in told_stands cs (turn s c)
    (over_after S.0 s.table (act (event c (step s.table c).answer)), K.stands) (K.peace, p)

pub demand_from : (s : Story) → Stands s.table s.past → Peaceful s.past → (cs : List Call)
    → Demand (tell s cs).table (tell s cs).past
demand_from s S p cs = let (S', p') = told_stands cs s S p in stands_demand (tell s cs).table (tell s cs).past S' p'

-- ---- the promise

pub demand_3 : Demand3
demand_3 rs l rows entries lent = demand_from (begin rs l) ((λ _. rs), fresh_stands rs l rows entries lent) tt
