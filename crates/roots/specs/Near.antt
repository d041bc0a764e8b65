-- A walk of at most one redirect rewrites nothing: document 01, "k = 0 or 1 writes nothing."
use Rattle.std.specs.Prelude.{Option, Some, None}
use Rattle.kit.specs.Names.{cond, List, ℕ, get_or, eqb, leb}
use Rattle.roots.specs.declared.near.Near.{Near}

abbrev pub near : ℕ → ℕ → Near
near root steps = record { root = root; steps = steps }

-- The root of a live key, where it is the key or its parent.
abbrev pub near_of : List ℕ → ℕ → ℕ → Option Near
near_of parents count key =
    let next = get_or parents key 0 in
    cond (eqb next key) (Some (near key 0)) (cond (leb count next) None (cond (eqb (get_or parents next 0) next) (Some (near next 1)) None))
