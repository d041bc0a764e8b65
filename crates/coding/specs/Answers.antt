-- The answers of a list of calls as numbers, one after the other.
use Rattle.std.specs.Prelude.{◌∷◌, ◌++◌}
use Rattle.kit.specs.Names.{List, [], ℕ}
use Rattle.rules.specs.Rules.{Answer, answer_numbers}

unfoldable pub answers_numbers : List Answer → List ℕ
answers_numbers [] = []
answers_numbers (a ∷ more) = answer_numbers a ++ answers_numbers more
