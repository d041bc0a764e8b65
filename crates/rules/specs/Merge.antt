-- Document 01, "Rules of the rows", Merge: "two different named owners clash. One named owner wins over none. Amounts add exactly."
use Rattle.std.specs.Prelude.{◌+◌, Result, Ok, Err}
use Rattle.kit.specs.Names.{cond, ℕ, eqb, ltb}
use Rattle.rules.specs.declared.table.Owner.{Owner}
use Rattle.rules.specs.declared.table.Owner.TheVariants.{Nobody, Tenant}
use Rattle.rules.specs.declared.table.Value.{Value}
use Rattle.rules.specs.declared.table.MergeError.{MergeError}
use Rattle.rules.specs.declared.table.MergeError.TheVariants.{Clash, TooMuch}
use Rattle.rules.specs.Numbers.{MAX-U64}
use Rattle.rules.specs.Lent.{value}

-- TOO_MUCH: "owners merge, sum above 18446744073709551615"
abbrev pub summed : Owner → ℕ → Result Value MergeError
summed o n = cond (ltb MAX-U64 n) (Err TooMuch) (Ok (value o n))

abbrev pub merge_owned : Owner → Owner → ℕ → Result Value MergeError
merge_owned Nobody o n = summed o n
merge_owned (Tenant a) Nobody n = summed (Tenant a) n
merge_owned (Tenant a) (Tenant b) n = cond (eqb a b) (summed (Tenant a) n) (Err Clash)

unfoldable pub merge : Value → Value → Result Value MergeError
merge v w = merge_owned v.owner w.owner (v.amount + w.amount)
