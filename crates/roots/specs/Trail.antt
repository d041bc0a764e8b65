-- A walk as the code has it: a trail of nodes, and the parents after the walk.
use Rattle.std.specs.Prelude.{◌≡◌, ◌∷◌, ◌≤◌, ◌<◌, Option, Some, None}
use Rattle.kit.specs.Names.{List, [], ℕ, length, get_or, take, set}
use Rattle.rules.specs.Rules.{MAX-REDIRECTS, Path, broken, to, path, Write, rewrites}
use Rattle.roots.specs.declared.path.Trail.{Trail}

abbrev pub root_of : Trail → ℕ
root_of t = get_or t.nodes t.steps 0

abbrev pub passed_of : Trail → List ℕ
passed_of t = take t.steps t.nodes

-- What a trail says, or none.
abbrev pub traced : Option Trail → Path
traced None = broken
traced (Some t) = to (root_of t) (passed_of t)

-- The array of a trail holds all of it.
pub record Short (t : Trail) : Type 0 where
  pub steps : t.steps ≤ MAX-REDIRECTS
  pub size : length t.nodes ≡ 17

-- The trail of a walk that can be made in these rows, or of none.
pub record Sound (parents : List ℕ) (count : ℕ) (t : Trail) : Type 0 where
  pub short : Short t
  pub there : 0 < t.steps → path parents count MAX-REDIRECTS (get_or t.nodes 0 0) ≡ to (root_of t) (passed_of t)

-- A trail that leads nowhere.
pub record Idle (t : Trail) : Type 0 where
  pub steps : t.steps ≡ 0
  pub size : length t.nodes ≡ 17

-- The parents after a walk: the rows passed, but for the last, redirect to the root, the nearest first.
unfoldable pub compress : ℕ → List ℕ → List ℕ → List ℕ
compress root [] parents = parents
compress root (key ∷ []) parents = parents
compress root (key ∷ next ∷ passed) parents = set (compress root (next ∷ passed) parents) key root

-- What a walk writes.
abbrev pub walk_of : Trail → List Write
walk_of t = rewrites (root_of t) (passed_of t)

abbrev pub compressed : Trail → List ℕ → List ℕ
compressed t parents = compress (root_of t) (passed_of t) parents

-- ---- a walk that can be made

pub record Leads (parents : List ℕ) (count left key : ℕ) : Type 0 where
  pub root : ℕ
  pub passed : List ℕ
  pub there : path parents count left key ≡ to root passed
  pub inside : count ≤ length parents

-- Where it ended, and the parents after it.
pub record Landed : Type 0 where
  pub root : ℕ
  pub parents : List ℕ

abbrev pub landed : ℕ → List ℕ → Landed
landed r ps = record { root = r; parents = ps }

abbrev pub land : Path → List ℕ → Landed
land broken ps = landed 0 ps
land (to root passed) ps = landed root (compress root passed ps)
