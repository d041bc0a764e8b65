-- The mark beside a journal.
use Rattle.std.specs.Prelude.{◌&&◌, ◌-◌, Option, None}
use Rattle.kit.specs.Names.{cond, List, ℕ, length, get_or, take, eqb, ltb}
use Rattle.words.specs.Numeral.{numeral}

abbrev pub LINE-FEED : ℕ
LINE-FEED = 10

-- Digits and a line feed are the length that they say. Anything else is no mark.
abbrev pub length_marked : List ℕ → Option ℕ
length_marked text =
    cond (ltb 0 (length text) && eqb (get_or text (length text - 1) 0) LINE-FEED)
    (numeral 18446744073709551615 (take (length text - 1) text)) None
