-- What a recorder knows of a journal, as the four numbers that the host lends: used, segments, open, waiting.
use Rattle.std.specs.Prelude.{◌&&◌, ◌∷◌}
use Rattle.kit.specs.Names.{Bool, List, [], ℕ, length, get_or, eqb, ltb}
use Rattle.rules.specs.Rules.{WORD}
use Rattle.journal.specs.declared.known.Known.{Known}
use Rattle.journal.specs.Record.{known}

abbrev pub KNOWN : ℕ
KNOWN = 4

-- How many snapshots are open is a number of 32 bits.
abbrev pub is_known : List ℕ → Bool
is_known ns = eqb (length ns) KNOWN && ltb (get_or ns 2 0) WORD

abbrev pub known_in : List ℕ → Known
known_in ns = known (get_or ns 0 0) (get_or ns 1 0) (get_or ns 2 0) (get_or ns 3 0)

abbrev pub known_numbers : Known → List ℕ
known_numbers k = k.used ∷ k.segments ∷ k.«open» ∷ k.waiting ∷ []
