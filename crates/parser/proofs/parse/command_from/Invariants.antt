-- The numbers so far, and the words and widths that are left.
use Rattle.std.specs.Prelude.{◌≡◌}
use Rattle.kit.specs.Names.{length}
use Rattle.commands.specs.Forms.{form_at}
use Rattle.words.specs.Line.{words}
use Rattle.parser.proofs.CommandLaws.{Reading}
use Rattle.parser.proofs.parse.command_from.Given as goal

abbrev pub invariant-loop-count : goal.invariant-loop-count
invariant-loop-count l =
    record {
      shorts : length l.shorts ≡ 7;
      longs : length l.longs ≡ 7;
      reading : Reading (form_at l.form).widths (words l.fn.numbers.0.now) (words l.numbers.0.now) l.count l.shorts l.longs;
    }
