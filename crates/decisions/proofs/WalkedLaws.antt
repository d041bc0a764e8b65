-- The walks of a call, near or long: what the rules make of them. Assumes nothing.
use Rattle.std.specs.Prelude.{◌≡◌, ◌+◌, ◌≤◌, ◌<◌}
use Rattle.kit.specs.Names.{refl, ap, sym, ◌∙◌, [], ℕ, zero, suc, arith, le-leb, lt-leb}
use Rattle.rules.specs.Rules.{NO-KEY, Rows, Table, writes, Plan, Walked, walked_on, go_on, rewrites, walk, walk_both, refused, carry, call}
use Rattle.roots.specs.declared.near.Near.{Near}
use Rattle.roots.proofs.NearLaws.{passed_near, Found}
use Rattle.plans.specs.declared.verdict.OneCall.{OneCall}
use Rattle.plans.specs.declared.verdict.OneCall.TheVariants.{Find, Probe, ProbeKey, Post}
use Rattle.plans.specs.declared.verdict.TwoCall.{TwoCall}
use Rattle.plans.specs.declared.verdict.TwoCall.TheVariants.{Unioned, Join}
use Rattle.plans.specs.Plans.{Verdict, plan_of, walked_to, one_on, two_on, MadeOfOne, MadeOfTwo}
use Rattle.decisions.specs.Sorted.{one_call, two_call}

-- ---- the calls that walk

module _ (t : Table) where
  pub one_no_key : (key : ℕ) (c : OneCall) → t.state.count ≤ key → refused NO-KEY t ≡ call t (one_call key c)
  unfolding call
  one_no_key key Find h = rw (le-leb t.state.count key h)
  one_no_key key Probe h = rw (le-leb t.state.count key h)
  one_no_key key ProbeKey h = rw (le-leb t.state.count key h)
  one_no_key key (Post owner amount) h = rw (le-leb t.state.count key h)

  pub one_walks : (key : ℕ) (c : OneCall) → key < t.state.count
      → carry t (walk t.rows t.state.count key (one_on c)) ≡ call t (one_call key c)
  unfolding call
  one_walks key Find h = rw (lt-leb t.state.count key h)
  one_walks key Probe h = rw (lt-leb t.state.count key h)
  one_walks key ProbeKey h = rw (lt-leb t.state.count key h)
  one_walks key (Post owner amount) h = rw (lt-leb t.state.count key h)

  pub two_no_first : (a b : ℕ) (c : TwoCall) → t.state.count ≤ a → refused NO-KEY t ≡ call t (two_call a b c)
  unfolding call
  two_no_first a b Unioned h = rw (le-leb t.state.count a h)
  two_no_first a b Join h = rw (le-leb t.state.count a h)

  pub two_no_second : (a b : ℕ) (c : TwoCall) → a < t.state.count → t.state.count ≤ b → refused NO-KEY t ≡ call t (two_call a b c)
  unfolding call
  two_no_second a b Unioned k h = rw (lt-leb t.state.count a k, le-leb t.state.count b h)
  two_no_second a b Join k h = rw (lt-leb t.state.count a k, le-leb t.state.count b h)

  pub two_walk : (a b : ℕ) (c : TwoCall) → a < t.state.count → b < t.state.count
      → carry t (walk_both t.rows t.state.count a b (two_on c)) ≡ call t (two_call a b c)
  unfolding call
  two_walk a b Unioned h k = rw (lt-leb t.state.count a h, lt-leb t.state.count b k)
  two_walk a b Join h k = rw (lt-leb t.state.count a h, lt-leb t.state.count b k)

-- ---- near walks

-- They rewrite nothing.
quiet : (rs : Rows) (key root s : ℕ) → s ≤ 1 → walked_on rs root (passed_near key s) ≡ walked_to rs root s rs.parents []
unfolding rewrites writes
quiet rs key root zero h = refl
quiet rs key root (suc zero) h = refl
quiet rs key root (suc (suc s)) h = absurd (omega arith)

module _ (rs : Rows) (count : ℕ) where
  near_walk : (key : ℕ) (n : Near) → Found rs.parents count key n → (next : Walked → Plan)
      → walk rs count key next ≡ next (walked_to rs n.root n.steps rs.parents [])
  near_walk key n f next = ap (go_on rs next) f.is ∙ ap next (quiet rs key n.root n.steps f.steps)

  pub near_one : (key : ℕ) (n : Near) → Found rs.parents count key n → (c : OneCall) (v : Verdict) → MadeOfOne rs c n.root n.steps v
      → plan_of [] v ≡ walk rs count key (one_on c)
  near_one key n f c v made = made rs.parents [] ∙ sym (near_walk key n f (one_on c))

  pub near_two : (a b : ℕ) (n k : Near) → Found rs.parents count a n → Found rs.parents count b k → (c : TwoCall) (v : Verdict)
      → MadeOfTwo rs c n.root k.root (n.steps + k.steps) v → plan_of [] v ≡ walk_both rs count a b (two_on c)
  near_two a b n k f g c v made =
      made rs.parents rs.parents [] [] n.steps k.steps refl
      ∙ sym
      (near_walk a n f (λ w. walk w.rows count b (two_on c w))
      ∙ near_walk b k g (two_on c (walked_to rs n.root n.steps rs.parents [])))
