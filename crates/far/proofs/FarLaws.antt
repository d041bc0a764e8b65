-- Long walks: traced and judged, they come to what the rules make of them, and can be carried out. Assumes nothing.
use Rattle.std.specs.Prelude.{◌≡◌, ◌++◌, ◌+◌, ◌-◌, ◌<◌, Result, Ok, Err, Some, None}
use Rattle.kit.specs.Names.{refl, ap, ap₂, sym, ◌∙◌, false, List, [], append-nil, ℕ, length, length-append, arith}
use Rattle.rules.specs.Rules.{Call, Head, Mark, BROKEN-TABLE, MAX-REDIRECTS, Rows, Log, table, entries, refusal, broken, path, Plan, plan, Walked, go_on, walk}
use Rattle.rules.specs.Rules.{walk_both, carry, sizes_of, bad, call, step}
use Rattle.rules.specs.declared.refusal.Refusal.{Refusal}
use Rattle.rules.specs.declared.refusal.Refusal.TheVariants.{BrokenTable}
use Rattle.undo_log.specs.Settled.{state_with}
use Rattle.roots.specs.declared.path.Trail.{Trail}
use Rattle.roots.specs.Trail.{root_of, traced, compressed, walk_of, Short, Sound, Idle}
use Rattle.roots.proofs.TrailLaws.{walk_length, idle_walk, idle_sound, trail_there, trail_sound, trail_walked}
use Rattle.plans.specs.declared.verdict.OneCall.{OneCall}
use Rattle.plans.specs.declared.verdict.TwoCall.{TwoCall}
use Rattle.plans.specs.Plans.{Verdict, finish_of, plan_of, walked_to, one_on, two_on, MadeOfOne, MadeOfTwo, Inside, fitted}
use Rattle.decisions.specs.declared.decision.FarPlan.{FarPlan}
use Rattle.decisions.specs.Sorted.{one_call, two_call}
use Rattle.decisions.specs.Decided.{FarIs, FarPlanned}
use Rattle.decisions.proofs.FitLaws.{refused_is, fitted_is, Fits, fits, inside_fitted, good_ready}
use Rattle.decisions.proofs.WalkedLaws.{one_walks, two_walk}

-- what is planned of two walks, where it is not refused
abbrev pub far_plan : Verdict → Trail → Trail → Result FarPlan Refusal
far_plan (Err why) first second = Err why
far_plan (Ok p) first second = Ok (record { plan = p; first = first; second = second })

-- ---- where the walks lead

module _ (rs : Rows) (count key : ℕ) where
  far_walk : (t : Trail) → traced (Some t) ≡ path rs.parents count MAX-REDIRECTS key → Short t → (next : Walked → Plan)
      → walk rs count key next ≡ next (walked_to rs (root_of t) t.steps (compressed t rs.parents) (walk_of t))
  far_walk t e s next = ap (go_on rs next) (trail_there rs.parents count t key e s) ∙ ap next (trail_walked rs t s)

  far_lost : traced None ≡ path rs.parents count MAX-REDIRECTS key → (next : Walked → Plan) → walk rs count key next ≡ go_on rs next broken
  far_lost e next = ap (go_on rs next) (sym e)

-- ---- room for all

module _ (rs : Rows) (l : Log) (h : Head) (g : bad (sizes_of rs l) h ≡ false) (first second : Trail)
    (one : Sound rs.parents h.count first) (two : Sound (compressed first rs.parents) h.count second) where
  walks_length : (first.steps - 1) + (second.steps - 1) ≡ length (walk_of first ++ walk_of second)
  walks_length =
      omega (
        arith,
        length-append (walk_of first) (walk_of second),
        walk_length first one.short,
        walk_length second two.short,
      )

  planned_if : (c : Call) (w : Verdict) → FarIs rs l h c (walk_of first ++ walk_of second) w
      → Fits h.«open» h.used (entries l) ((first.steps - 1) + (second.steps - 1)) w → Inside h.count w → FarPlanned rs l h c (far_plan w first second)
  planned_if c (Err why) is fit i = is
  planned_if c (Ok p) is fit i =
      let all = length (walk_of first) + (length (walk_of second) + length (finish_of p.finish)) in
      let n : ((first.steps - 1) + (second.steps - 1)) + length (finish_of p.finish) ≡ all =
      omega (arith, walk_length first one.short, walk_length second two.short) in
      (is, record { ready = good_ready rs l h g all (rw n at fit); first = one; second = two; inside = i })

  -- A verdict made of both walks, once it fits.
  pub far_planned : (c : Call) (v w : Verdict)
      → w ≡ fitted h.«open» h.used (entries l) ((first.steps - 1) + (second.steps - 1)) v → Inside h.count v
      → ((last : ℕ) (ms : List Mark)
      → let t = table rs l (state_with h last ms) in carry t (plan_of (walk_of first ++ walk_of second) v) ≡ call t c)
      → FarPlanned rs l h c (far_plan w first second)
  unfolding step
  far_planned c v w e i made =
      let n = (first.steps - 1) + (second.steps - 1) in
      rw e
      (planned_if c (fitted h.«open» h.used (entries l) n v)
      (λ last ms.
      let t = table rs l (state_with h last ms) in
      fitted_is t (walk_of first ++ walk_of second) n walks_length v ∙ made last ms ∙ rw g)
      (fits h.«open» h.used (entries l) n v) (inside_fitted h.count h.«open» h.used (entries l) n v i))

-- A walk that leads nowhere: nothing is planned.
pub far_broken : (rs : Rows) (l : Log) (h : Head) (c : Call) → bad (sizes_of rs l) h ≡ false
    → ((last : ℕ) (ms : List Mark) → let t = table rs l (state_with h last ms) in carry t (plan (refusal BROKEN-TABLE) []) ≡ call t c)
    → FarPlanned rs l h c (Err BrokenTable)
unfolding step
far_broken rs l h c g made last ms = let t = table rs l (state_with h last ms) in refused_is t [] BROKEN-TABLE ∙ made last ms ∙ rw g

-- ---- one walk

module _ (rs : Rows) (l : Log) (h : Head) (g : bad (sizes_of rs l) h ≡ false) (key : ℕ) (live : key < h.count) (c : OneCall) where
  pub one_lost : traced None ≡ path rs.parents h.count MAX-REDIRECTS key → FarPlanned rs l h (one_call key c) (Err BrokenTable)
  one_lost e =
      far_broken rs l h (one_call key c) g
      (λ last ms.
      let tb = table rs l (state_with h last ms) in
      ap (carry tb) (sym (far_lost rs h.count key e (one_on c))) ∙ one_walks tb key c live)

  module _ (t second : Trail) (e : traced (Some t) ≡ path rs.parents h.count MAX-REDIRECTS key) (s : Short t) (i : Idle second) where
    one_plan : (v : Verdict) → MadeOfOne rs c (root_of t) t.steps v → plan_of (walk_of t ++ walk_of second) v ≡ walk rs h.count key (one_on c)
    one_plan v made =
        rw (idle_walk second i.steps, append-nil)
        (made (compressed t rs.parents) (walk_of t) ∙ sym (far_walk rs h.count key t e s (one_on c)))

    pub one_planned : (v w : Verdict) → MadeOfOne rs c (root_of t) t.steps v → Inside h.count v
        → (n : ℕ) → n ≡ t.steps - 1 → w ≡ fitted h.«open» h.used (entries l) n v → FarPlanned rs l h (one_call key c) (far_plan w t second)
    one_planned v w made inside n q fit =
        let all : n ≡ (t.steps - 1) + (second.steps - 1) = omega (arith, i.steps, q) in
        far_planned rs l h g t second (trail_sound rs.parents h.count t key e s) (idle_sound (compressed t rs.parents) h.count second i)
        (one_call key c) v w (fit ∙ ap (λ (k : ℕ). fitted h.«open» h.used (entries l) k v) all) inside
        (λ last ms. let tb = table rs l (state_with h last ms) in ap (carry tb) (one_plan v made) ∙ one_walks tb key c live)

-- ---- two walks, the second in the rows as the first leaves them

module _ (rs : Rows) (l : Log) (h : Head) (g : bad (sizes_of rs l) h ≡ false) (a b : ℕ) (la : a < h.count) (lb : b < h.count) (c : TwoCall) where
  pub two_first_lost : traced None ≡ path rs.parents h.count MAX-REDIRECTS a → FarPlanned rs l h (two_call a b c) (Err BrokenTable)
  two_first_lost e =
      far_broken rs l h (two_call a b c) g
      (λ last ms.
      let tb = table rs l (state_with h last ms) in
      ap (carry tb) (sym (far_lost rs h.count a e (λ w. walk w.rows h.count b (two_on c w)))) ∙ two_walk tb a b c la lb)

  module _ (t : Trail) (e : traced (Some t) ≡ path rs.parents h.count MAX-REDIRECTS a) (s : Short t) where
    -- a's walk, and the rows that it leaves
    abbrev walked : Walked
    walked = walked_to rs (root_of t) t.steps (compressed t rs.parents) (walk_of t)

    first_walk : walk_both rs h.count a b (two_on c) ≡ walk walked.rows h.count b (two_on c walked)
    first_walk = far_walk rs h.count a t e s (λ w. walk w.rows h.count b (two_on c w))

    pub two_second_lost : traced None ≡ path (compressed t rs.parents) h.count MAX-REDIRECTS b → FarPlanned rs l h (two_call a b c) (Err BrokenTable)
    two_second_lost k =
        far_broken rs l h (two_call a b c) g
        (λ last ms.
        let tb = table rs l (state_with h last ms) in
        ap (carry tb) (sym (first_walk ∙ far_lost walked.rows h.count b k (two_on c walked))) ∙ two_walk tb a b c la lb)

    module _ (u : Trail) (k : traced (Some u) ≡ path (compressed t rs.parents) h.count MAX-REDIRECTS b) (z : Short u) where
      two_plan : (v : Verdict) → MadeOfTwo rs c (root_of t) (root_of u) (t.steps + u.steps) v
          → plan_of (walk_of t ++ walk_of u) v ≡ walk_both rs h.count a b (two_on c)
      two_plan v made =
          made (compressed t rs.parents) (compressed u (compressed t rs.parents)) (walk_of t) (walk_of u) t.steps u.steps refl
          ∙ sym (first_walk ∙ far_walk walked.rows h.count b u k z (two_on c walked))

      pub two_planned : (v w : Verdict) → MadeOfTwo rs c (root_of t) (root_of u) (t.steps + u.steps) v → Inside h.count v
          → (n m : ℕ) → n ≡ t.steps - 1 → m ≡ u.steps - 1 → w ≡ fitted h.«open» h.used (entries l) (n + m) v
          → FarPlanned rs l h (two_call a b c) (far_plan w t u)
      two_planned v w made inside n m p q fit =
          far_planned rs l h g t u (trail_sound rs.parents h.count t a e s)
          (trail_sound (compressed t rs.parents) h.count u b k z) (two_call a b c) v w
          (fit ∙ ap₂ (λ (x y : ℕ). fitted h.«open» h.used (entries l) (x + y) v) p q) inside
          (λ last ms. let tb = table rs l (state_with h last ms) in ap (carry tb) (two_plan v made) ∙ two_walk tb a b c la lb)
