-- Lines of CALLS.md, printed. Assumes nothing.
use Rattle.std.proofs.Common.{◌≡◌, refl}
use Rattle.rules.specs.Rules.{found, refusal, NO-KEY}
use Rattle.words.specs.Bytes.{bytes}
use Rattle.print.specs.Texts.{answer_text, error_text}
use Rattle.digits.specs.Printed.{listed, spell, spell_in}

lines_printed : (answer_text (found 3 2) ≡ bytes "0 3 0 0 0 2 0 0 0") × (answer_text (refusal NO-KEY) ≡ bytes "1 0 0 0 0 0 0 0 0")
    × (error_text 120 ≡ bytes "error 120\n")
unfolding answer_text listed spell spell_in
lines_printed = (refl, refl, refl)
