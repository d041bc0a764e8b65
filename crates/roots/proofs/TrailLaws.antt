-- A trail that was traced is a walk that can be made. Assumes nothing.
use Rattle.std.specs.Prelude.{◌≡◌, ◌∷◌, ◌-◌, ◌<◌, Some}
use Rattle.kit.specs.Names.{sym, ap, ◌∙◌, List, [], ℕ, length, get_or, length-take, get_or-take, arith}
use Rattle.rules.specs.Rules.{MAX-REDIRECTS, Rows, to, path, rewrites, walked_on}
use Rattle.roots.specs.declared.path.Trail.{Trail}
use Rattle.roots.specs.Saves.{with_parents}
use Rattle.roots.specs.Trail.{root_of, passed_of, traced, compressed, walk_of, Short, Sound, Idle}
use Rattle.roots.proofs.AfterLaws.{path_cons, root_in_lem}
use Rattle.rules.proofs.PlanLaws.{rewrites_length}
use Rattle.roots.proofs.RewriteLaws.{rows_after}

pub trail_length : (t : Trail) → Short t → length (passed_of t) ≡ t.steps
trail_length t h = rw length-take (omega arith)

pub walk_length : (t : Trail) → Short t → length (walk_of t) ≡ t.steps - 1
walk_length t h = rewrites_length (root_of t) (passed_of t) ∙ ap (λ (n : ℕ). n - 1) (trail_length t h)

-- A path that passes rows begins at its key.
path_first : (ps : List ℕ) (count left key root : ℕ) (passed : List ℕ) → path ps count left key ≡ to root passed → 0 < length passed
    → get_or passed 0 0 ≡ key
path_first ps count left key root [] e h = absurd (omega arith)
path_first ps count left key root (k ∷ passed) e h = (path_cons ps count key left root k passed e).first

pub idle_sound : (ps : List ℕ) (count : ℕ) (t : Trail) → Idle t → Sound ps count t
idle_sound ps count t i =
    record { short = record { steps = omega (arith, i.steps); size = i.size }; there = λ h. absurd (omega (arith, i.steps)) }

pub idle_walk : (t : Trail) → t.steps ≡ 0 → walk_of t ≡ []
unfolding rewrites
idle_walk t q = rw q

module _ (ps : List ℕ) (count : ℕ) (t : Trail) (key : ℕ) (e : traced (Some t) ≡ path ps count MAX-REDIRECTS key) (s : Short t) where
  pub trail_there : path ps count MAX-REDIRECTS key ≡ to (root_of t) (passed_of t)
  trail_there = sym e

  pub trail_root : root_of t < count
  trail_root = root_in_lem ps count key MAX-REDIRECTS (root_of t) (passed_of t) trail_there

  trail_start : 0 < t.steps → get_or t.nodes 0 0 ≡ key
  trail_start h =
      sym (get_or-take t.steps t.nodes 0 0 h)
      ∙ path_first ps count MAX-REDIRECTS key (root_of t) (passed_of t) trail_there (omega (arith, trail_length t s))

  pub trail_sound : Sound ps count t
  trail_sound = record { short = s; there = λ h. rw (trail_start h) trail_there }

-- What the rules say of a walk along a trail.
pub trail_walked : (rs : Rows) (t : Trail) → Short t
    → walked_on rs (root_of t) (passed_of t)
    ≡ record { root = root_of t; steps = t.steps; todo = walk_of t; rows = with_parents rs (compressed t rs.parents) }
trail_walked rs t s = rw (rows_after rs (root_of t) (passed_of t), trail_length t s)
