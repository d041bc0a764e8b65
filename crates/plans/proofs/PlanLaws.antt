-- Laws of verdicts: what they write, and whether it fits the log. Assumes nothing.
use Rattle.std.specs.Prelude.{◌≡◌, ◌++◌}
use Rattle.kit.specs.Names.{refl, sym, List, append-nil}
use Rattle.rules.specs.Rules.{Write}
use Rattle.plans.specs.declared.verdict.Finish.{Finish}
use Rattle.plans.specs.declared.verdict.Finish.TheVariants.{Nothing, Crown, Unite}
use Rattle.plans.specs.Plans.{finish_of, and_then}

pub and_then_lem : (ws : List Write) (f : Finish) → and_then ws f ≡ ws ++ finish_of f
and_then_lem ws Nothing = sym (append-nil ws)
and_then_lem ws (Crown key rank v) = refl
and_then_lem ws (Unite old new rank v) = refl
