-- What is put on the keys of a group. Group sizes, byte-seconds and the naming of owners are all such sums.
use Rattle.std.specs.Prelude.{◌∷◌, ◌+◌}
use Rattle.kit.specs.Names.{cond, List, [], ℕ, zero, suc, eqb}

-- Keys, and what is put on each.
abbrev pub Credits : Type 0
Credits = List (ℕ × ℕ)

-- What a credit of `amount` on `key` adds to the group of the root `r`.
abbrev pub due : (ℕ → ℕ) → ℕ → ℕ → ℕ → ℕ
due root r key amount = cond (eqb (root key) r) amount 0

unfoldable pub total : (ℕ → ℕ) → ℕ → Credits → ℕ
total root r [] = 0
total root r (c ∷ cs) = due root r c.0 c.1 + total root r cs

-- One for each of the keys below n: their total is the number of keys in a group.
abbrev pub ones : ℕ → Credits
ones zero = []
ones (suc n) = (n, 1) ∷ ones n

abbrev pub size : (ℕ → ℕ) → ℕ → ℕ → ℕ
size root count r = total root r (ones count)
