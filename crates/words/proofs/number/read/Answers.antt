-- A byte that is no digit or goes past the limit ends the reading, and a digit is taken in. Assumes nothing.
use Rattle.kit.specs.Names.{arith}
use Rattle.std.proofs.lemmas.Bool.Decides.{nat_tests}
use Rattle.words.proofs.NumeralLaws.{fits_more, read_end, read_more, read_other, read_past}
use Rattle.words.proofs.number.read.Goals as goal

pub returns-then-not-is_ascii_digit : goal.returns-then-not-is_ascii_digit
returns-then-not-is_ascii_digit c = read_other _ c.loop-byte.invariant.taken (omega arith) c.if-not-is_ascii_digit.ensures.cases

pub returns-then-n-limit : goal.returns-then-n-limit
returns-then-n-limit c =
    let digit = c.if-not-is_ascii_digit.ensures.cases in
    read_past _ c.loop-byte.invariant.taken (omega arith) (omega arith) (omega arith) c.requires (rw c.from-d.ensures at c.if-n-limit.true)

pub loop-byte-preserved : goal.loop-byte-preserved
loop-byte-preserved c = let digit = c.if-not-is_ascii_digit.ensures.cases in record {
  small = fits_more c.args.limit c.loop-byte.n _ c.requires (omega arith) c.if-n-limit.false;
  taken = rw c.from-d.ensures (read_more c.args.limit c.loop-byte.invariant.taken (omega arith) (omega arith) (omega arith));
}

pub returns : goal.returns
returns c = read_end c.args.limit c.loop-byte.invariant.taken (grind (arith, nat_tests)) (omega arith) c.loop-byte.invariant.small
