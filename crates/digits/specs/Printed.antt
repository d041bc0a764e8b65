-- Numbers as CALLS.md prints them, and where a text stands in a buffer.
use Rattle.std.specs.Prelude.{◌≡◌, ◌∷◌, ◌++◌, ◌+◌, ◌/◌, ◌%◌, ◌≤◌, ◌<◌}
use Rattle.kit.specs.Names.{cond, List, [], ℕ, zero, suc, length, ltb, paste}

-- ---- numbers

-- a number's decimal digits, without zeros in front, as far as there is room
unfoldable pub spell_in : ℕ → ℕ → List ℕ
spell_in zero n = []
spell_in (suc room) n = cond (ltb n 10) ((48 + n) ∷ []) (spell_in room (n / 10) ++ ((48 + n % 10) ∷ []))

-- a number's decimal digits, the fewest that hold it: every number printed is below 2^64, and those have at most 20
unfoldable pub spell : ℕ → List ℕ
spell n = spell_in 20 n

-- a blank before each
unfoldable pub listed : List ℕ → List ℕ
listed [] = []
listed (n ∷ ns) = (32 ∷ spell n) ++ listed ns

-- ---- where a text stands

-- a text stands from a place on, with room for it, all else is as it was, and the end is the place after it
pub record Printed (before after : List ℕ) (at : ℕ) (text : List ℕ) (end : ℕ) : Type 0 where
  pub place : end ≡ at + length text
  pub room : at + length text ≤ length before
  pub stands : after ≡ paste before at text (length text)

-- something was written, and no more than so many bytes
pub record Wrote (at most end : ℕ) : Type 0 where
  pub some : at < end
  pub enough : end ≤ at + most
