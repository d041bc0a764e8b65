-- The codes of the calls that are written, in coding's table: 0, 4 and 5, 9 to 11.
use Rattle.kit.specs.Names.{Bool, true, false, cond, ℕ, eqb, ltb}

abbrev pub mine_by : ℕ → Bool
mine_by code = cond (eqb code 0) true (cond (ltb code 4) false (cond (ltb code 6) true (cond (ltb code 9) false (ltb code 12))))
