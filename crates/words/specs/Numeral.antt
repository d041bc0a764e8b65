-- A word of digits read as a number, as CALLS.md has it: decimal, digits alone, below its width.
use Rattle.std.specs.Prelude.{◌&&◌, ◌∷◌, ◌+◌, ◌*◌, ◌-◌, Option, None, Some}
use Rattle.kit.specs.Names.{Bool, true, cond, List, [], ℕ, length, leb, ltb}

-- ASCII digits alone
unfoldable pub all_digits : List ℕ → Bool
all_digits [] = true
all_digits (b ∷ bs) = leb 48 b && (leb b 57 && all_digits bs)

-- the decimal value of more digits, after those that make n
unfoldable pub decimal : ℕ → List ℕ → ℕ
decimal n [] = n
decimal n (b ∷ bs) = decimal (n * 10 + (b - 48)) bs

-- at least one digit, nothing else, and a value within the limit; zeros in front are allowed
abbrev pub is_numeral : ℕ → List ℕ → Bool
is_numeral limit w = all_digits w && (ltb 0 (length w) && leb (decimal 0 w) limit)

abbrev pub numeral : ℕ → List ℕ → Option ℕ
numeral limit w = cond (is_numeral limit w) (Some (decimal 0 w)) None
