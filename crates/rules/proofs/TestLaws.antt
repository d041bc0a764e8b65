-- Laws of tests. Assumes nothing.
use Rattle.std.specs.Prelude.{◌≡◌}
use Rattle.kit.specs.Names.{refl, Bool, true, false, cond}

-- What both ends of a test are.
pub either_way : {A : Type 0} (b : Bool) (x : A) → cond b x x ≡ x
either_way true x = refl
either_way false x = refl
