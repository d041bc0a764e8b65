-- Texts of equal numbers. Assumes nothing.
use Rattle.std.specs.Prelude.{◌≡◌, ◌∷◌}
use Rattle.kit.specs.Names.{[]}
use Rattle.print.specs.Texts.{Cell, row_text}
use Rattle.show.specs.Shown.{Pieces}

pub row_said : {a a' b b' c c' d d' : Cell} → a ≡ a' → b ≡ b' → c ≡ c' → d ≡ d'
    → ◌≡◌ {A = Pieces} (row_text a b c d ∷ []) (row_text a' b' c' d' ∷ [])
row_said e f g h = rw (e, f, g, h)
