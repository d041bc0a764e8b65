-- A line's words. CALLS.md: "words separated by blanks".
use Rattle.std.specs.Prelude.{◌∷◌, ◌++◌}
use Rattle.kit.specs.Names.{cond, List, [], ℕ, suc, eqb}
use Rattle.words.specs.Bytes.{same_bytes}

abbrev pub BLANK : ℕ
BLANK = 32

-- a word that ends is one unless it is empty
abbrev pub ended : List ℕ → List (List ℕ) → List (List ℕ)
ended [] ws = ws
ended (b ∷ bs) ws = (b ∷ bs) ∷ ws

-- the words of a line, of whose first some bytes were read
unfoldable pub words_after : List ℕ → List ℕ → List (List ℕ)
words_after word [] = ended word []
words_after word (b ∷ bs) = cond (eqb b BLANK) (ended word (words_after [] bs)) (words_after (word ++ (b ∷ [])) bs)

abbrev pub words : List ℕ → List (List ℕ)
words line = words_after [] line

-- which of some words this is, and their number where it is none of them
unfoldable pub place_in : List (List ℕ) → List ℕ → ℕ
place_in [] word = 0
place_in (w ∷ ws) word = cond (same_bytes word w) 0 (suc (place_in ws word))
