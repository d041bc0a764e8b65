-- Laws of plans: how much a walk writes. Assumes nothing.
use Rattle.std.specs.Prelude.{◌≡◌, ◌∷◌, ◌-◌}
use Rattle.kit.specs.Names.{refl, ◌∙◌, List, [], ℕ, length, length-append, arith}
use Rattle.rules.specs.Rules.{redirect, rewrites}

-- "A walk of k ≥ 1 steps rewrites the parents of its first k − 1 rows".
pub rewrites_length : (root : ℕ) (passed : List ℕ) → length (rewrites root passed) ≡ length passed - 1
unfolding rewrites
rewrites_length root [] = refl
rewrites_length root (k ∷ []) = refl
rewrites_length root (k ∷ next ∷ passed) =
    length-append (rewrites root (next ∷ passed)) (redirect k root ∷ []) ∙ omega (arith, rewrites_length root (next ∷ passed))
