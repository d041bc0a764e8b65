-- Document 01, "Rules of the rows", Walk: "follow parents to the root."
use Rattle.std.specs.Prelude.{◌∷◌}
use Rattle.kit.specs.Names.{cond, List, [], ℕ, zero, suc, length, get_or, eqb, ltb}

-- Where a walk leads: to a root, past the rows that it followed a redirect from, its own key's first.
-- BROKEN_TABLE: "a walk meets a parent not below the count, or is at no root after 16 redirects".
pub data Path : Type 0 where
  broken : Path
  to : ℕ → List ℕ → Path

abbrev pub from : ℕ → Path → Path
from key broken = broken
from key (to root passed) = to root (key ∷ passed)

-- The walk from `key`, with `left` redirects at most.
unfoldable pub path : List ℕ → ℕ → ℕ → ℕ → Path
path parents count zero key =
    cond (ltb key count) (cond (eqb (get_or parents key 0) key) (to key []) broken) broken
path parents count (suc left) key =
    cond (ltb key count) (cond (eqb (get_or parents key 0) key) (to key []) (from key (path parents count left (get_or parents key 0)))) broken

-- "Its steps are the redirects followed".
abbrev pub steps : List ℕ → ℕ
steps passed = length passed
