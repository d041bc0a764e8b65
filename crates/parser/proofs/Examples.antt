-- Lines of CALLS.md, read. Assumes nothing.
use Rattle.std.specs.Prelude.{◌≡◌, ◌∷◌}
use Rattle.kit.specs.Names.{refl, [], map}
use Rattle.rules.specs.declared.call.Call.TheVariants.{New, Join}
use Rattle.words.specs.Bytes.{bytes, same_bytes}
use Rattle.parser.specs.Command.{command_of, fit}
use Rattle.commands.specs.Forms.{forms, lengths, names}
use Rattle.words.specs.Line.{place_in, words_after}
use Rattle.words.specs.Numeral.{all_digits, decimal}
use Rattle.commands.specs.declared.command.Command.TheVariants.{Blank, Error, Call, Lend}

lines_read : (command_of (bytes " join  7 12 ") ≡ Call (Join 7 12))
    × (command_of (bytes "new 4294967295 18446744073709551615") ≡ Call (New 4294967295 18446744073709551615))
    × (command_of (bytes "new 4294967296 1") ≡ Error) × (command_of (bytes "lend 1 2 3 4") ≡ Lend (lengths 1 2 3 4))
    × (command_of (bytes "# join 7 12") ≡ Blank)
unfolding command_of words_after fit all_digits decimal place_in forms same_bytes
lines_read = (refl, refl, refl, refl, refl)

-- no name stands twice in the table
own_places : map (place_in names) names ≡ 0 ∷ 1 ∷ 2 ∷ 3 ∷ 4 ∷ 5 ∷ 6 ∷ 7 ∷ 8 ∷ 9 ∷ 10 ∷ 11 ∷ 12 ∷ 13 ∷ 14 ∷ 15 ∷ 16 ∷ 17 ∷ 18 ∷ 19 ∷ 20 ∷ 21 ∷ 22 ∷ 23 ∷ []
unfolding place_in forms same_bytes
own_places = refl
