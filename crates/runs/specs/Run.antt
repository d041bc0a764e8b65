-- A list of calls carried out in order: the rules' step, over and over.
use Rattle.std.specs.Prelude.{List, [], ◌∷◌}
use Rattle.rules.specs.Rules.{Answer, Call, Table, step}

-- What a list of calls leaves, and each call's answer.
pub record Ran : Type 0 where
  pub table : Table
  pub answers : List Answer

abbrev pub ran : Table → List Answer → Ran
ran t answers = record { table = t; answers = answers }

unfoldable pub run : Table → List Call → Ran
run t [] = ran t []
run t (c ∷ cs) = let o = step t c in let r = run o.table cs in ran r.table (o.answer ∷ r.answers)
