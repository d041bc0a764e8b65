-- A text of blanks has no word, and another begins with what stands from its first letter up to the next blank. Assumes nothing.
use Rattle.kit.specs.Names.{arith, sym, ◌∙◌}
use Rattle.std.proofs.lemmas.Grind.{common_steps}
use Rattle.words.proofs.LineLaws.{no_words, word_first}
use Rattle.words.proofs.words.first_word.Goals as goal

pub returns-in_err-begun : goal.returns-in_err-begun
returns-in_err-begun c = rw c.from_residual.ensures (no_words c.args.text.now (sym c.first_letter.ensures ∙ c.in_err-begun.was))

pub returns : goal.returns
returns c =
    rw (c.split_at.ensures.front, c.split_at.ensures.back)
    (word_first c.args.text.now (sym c.first_letter.ensures ∙ c.in_ok-begun.was) _ (grind (arith, common_steps)) (rw c.first_blank.ensures at c.unwrap_or.ensures))
