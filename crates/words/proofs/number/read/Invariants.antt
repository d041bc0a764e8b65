-- The digits so far, and the rest of the word.
use Rattle.std.specs.Prelude.{◌≤◌}
use Rattle.words.proofs.NumeralLaws.{Taken}
use Rattle.words.proofs.number.read.Given as goal

abbrev pub invariant-loop-byte : goal.invariant-loop-byte
invariant-loop-byte l = record { small : l.n ≤ l.limit; taken : Taken l.word l.n l.byte-index }
