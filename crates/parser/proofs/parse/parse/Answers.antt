-- A line from its first byte on. Assumes nothing.
use Rattle.kit.specs.Names.{◌∙◌, arith}
use Rattle.std.proofs.lemmas.Bool.Decides.{nat_tests}
use Rattle.parser.proofs.CommandLaws.{by_words, comment, empty_line}
use Rattle.parser.proofs.parse.parse.Goals.{then-is_empty-via-then-is_empty, then-is_empty-via-else-is_empty+then-line-eq35}
use Rattle.parser.proofs.parse.parse.Goals as goal

pub returns-then-is_empty : goal.returns-then-is_empty
returns-then-is_empty c = elim c.then-is_empty.branch [
  | then-is_empty-via-then-is_empty w ↦ empty_line _ (grind (arith, nat_tests))
  | then-is_empty-via-else-is_empty+then-line-eq35 w ↦ comment _ (grind (arith, nat_tests)) w.if-line-eq35.true
]

pub returns : goal.returns
returns c = c.unwrap_or.ensures ∙ (c.of_words.ensures ∙ by_words _ (grind (arith, nat_tests)) c.if-line-eq35.false)
