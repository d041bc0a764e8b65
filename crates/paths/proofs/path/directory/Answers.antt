-- A path in which no slash is found has none.
use Rattle.std.proofs.Common.{rules, arith, None}
use Rattle.std.proofs.lemmas.Str.Pattern.{rfind_char}
use Rattle.paths.proofs.path.directory.Goals as goal

pub returns-in_err-slash-clause-none : goal.returns-in_err-slash-clause-none
returns-in_err-slash-clause-none c =
    search (rules, rfind_char 47 c.args.path.now None c.in_err-slash.ensures.cases (omega arith))
