-- The groups that a table shows, read off it by the walk of the rules.
use Rattle.std.specs.Prelude.{◌≡◌, ◌<◌}
use Rattle.kit.specs.Names.{List, [], ℕ}
use Rattle.rules.specs.Rules.{MAX-REDIRECTS, Table, value_of, row_at, Path, broken, to, path, steps}
use Rattle.groups.specs.Groups.{Groups}

-- ---- the walk from a key

abbrev pub walk_in : Table → ℕ → Path
walk_in t key = path t.rows.parents t.state.count MAX-REDIRECTS key

abbrev pub end_of : Path → ℕ
end_of broken = 0
end_of (to root passed) = root

abbrev pub passed_on : Path → List ℕ
passed_on broken = []
passed_on (to root passed) = passed

abbrev pub root_in : Table → ℕ → ℕ
root_in t key = end_of (walk_in t key)

abbrev pub steps_in : Table → ℕ → ℕ
steps_in t key = steps (passed_on (walk_in t key))

-- ---- the groups

abbrev pub groups_of : Table → Groups
groups_of t =
    record { count = t.state.count; root = root_in t; rank = λ r. (row_at t.rows r).rank; value = λ r. value_of (row_at t.rows r) }

-- The same keys, each with the same root, and each root with the same rank and value: "only a root's rank, owner and amount mean
-- anything".
pub record Same (g g' : Groups) : Type 0 where
  pub count : g.count ≡ g'.count
  pub root : (key : ℕ) → key < g'.count → g.root key ≡ g'.root key
  pub rank : (r : ℕ) → r < g'.count → g'.root r ≡ r → g.rank r ≡ g'.rank r
  pub value : (r : ℕ) → r < g'.count → g'.root r ≡ r → g.value r ≡ g'.value r
