-- Which line is which command: CALLS.md, sentence by sentence and in its order.
use Rattle.std.specs.Prelude.{◌&&◌, ◌∷◌}
use Rattle.kit.specs.Names.{Bool, true, false, cond, List, [], ℕ, get_or, eqb}
use Rattle.words.specs.Line.{place_in, words}
use Rattle.words.specs.Numeral.{decimal, is_numeral}
use Rattle.commands.specs.Forms.{Form, form_at, limit, names}
use Rattle.commands.specs.declared.command.Width.{Width}
use Rattle.commands.specs.declared.command.Command.{Command}
use Rattle.commands.specs.declared.command.Command.TheVariants.{Blank, Error}

-- ---- a line

-- "numbers decimal": as many words as widths, and each a number that is not wider
unfoldable pub fit : List Width → List (List ℕ) → Bool
fit [] [] = true
fit (w ∷ ws) (x ∷ xs) = is_numeral (limit w) x && fit ws xs
fit [] (x ∷ xs) = false
fit (w ∷ ws) [] = false

-- "a line that is no command" is an error, also where a number is too wide
abbrev pub command_with : Form → List (List ℕ) → Command
command_with f xs = cond (fit f.widths xs) (f.makes (λ i. decimal 0 (get_or xs i []))) Error

abbrev pub of_words : List (List ℕ) → Command
of_words [] = Error
of_words (name ∷ xs) = command_with (form_at (place_in names name)) xs

-- "Empty lines and lines that begin with `#` print nothing."
unfoldable pub command_of : List ℕ → Command
command_of [] = Blank
command_of (b ∷ bs) = cond (eqb b 35) Blank (of_words (words (b ∷ bs)))
