-- Text as bytes.
use Rattle.std.specs.Prelude.{◌&&◌, ◌∷◌}
use Rattle.kit.specs.Names.{Bool, true, false, List, [], ℕ, eqb}
use Prim.Native.Char.{code}
use Prim.Native.String as text
use Prim.Native.String.{String}

-- the bytes of an ASCII text
abbrev pub bytes : String → List ℕ
bytes text.[] = []
bytes (text.◌∷◌ c s) = code c ∷ bytes s

unfoldable pub same_bytes : List ℕ → List ℕ → Bool
same_bytes [] [] = true
same_bytes (x ∷ xs) (y ∷ ys) = eqb x y && same_bytes xs ys
same_bytes [] (y ∷ ys) = false
same_bytes (x ∷ xs) [] = false
