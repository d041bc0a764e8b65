-- An option of a verb: its name, then its number. FILES.md: "Numbers are decimal. A number above its width .. is no verb's words."
use Rattle.std.specs.Prelude.{Option, None, Some, Result, Ok, Err}
use Rattle.kit.specs.Names.{cond, List, ℕ}
use Rattle.words.specs.Bytes.{same_bytes}
use Rattle.words.specs.Numeral.{numeral}
use Rattle.verb_words.specs.declared.option.OptionError.{OptionError}
use Rattle.verb_words.specs.declared.option.OptionError.TheVariants.{NoNumber}

abbrev pub choice : Option ℕ → Result (Option ℕ) OptionError
choice None = Err NoNumber
choice (Some n) = Ok (Some n)

-- The option of a name, with numbers up to a limit, in two words.
abbrev pub chosen : List ℕ → ℕ → List ℕ → List ℕ → Result (Option ℕ) OptionError
chosen name limit word number = cond (same_bytes word name) (choice (numeral limit number)) (Ok None)
