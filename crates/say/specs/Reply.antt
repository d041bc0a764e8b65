-- The line that each reply prints.
use Rattle.std.specs.Prelude.{◌∷◌}
use Rattle.kit.specs.Names.{[], ℕ}
use Rattle.rules.specs.Rules.{Head, Table}
use Rattle.words.specs.Bytes.{bytes}
use Rattle.print.specs.Texts.{error_text}
use Rattle.commands.specs.declared.command.Lengths.{Lengths}
use Rattle.arrays.specs.Cut.{lent_of, lent_sizes}
use Rattle.arrays.specs.declared.reply.Reply.{Reply}
use Rattle.arrays.specs.declared.reply.Reply.TheVariants as reply
use Rattle.show.specs.Shown.{Pieces}
use Rattle.replies.specs.Replies.{answer_pieces, look_pieces, shown_pieces, all_of, in_use}

-- The pieces of a reply, over what is lent, all that there is of it and the number of the line.
unfoldable pub reply_pieces : Table → Head → Reply → ℕ → Pieces
reply_pieces t all reply.Silent line = []
reply_pieces t all reply.Error line = error_text line ∷ []
reply_pieces t all reply.Ok line = bytes "ok\n" ∷ []
reply_pieces t all reply.Table line = bytes "table\n" ∷ []
reply_pieces t all (reply.Answer call a) line = answer_pieces t.log call a
reply_pieces t all (reply.Row key) line = look_pieces t.rows all.count key
reply_pieces t all reply.Live line = shown_pieces (bytes "live rows") t (in_use t.state all)
reply_pieces t all reply.Dump line = shown_pieces (bytes "dump rows") t all

-- The pieces of a reply, over the lengths that are lent of a memory.
abbrev pub said_pieces : Lengths → Table → Reply → ℕ → Pieces
said_pieces n t r line = reply_pieces (lent_of n t) (all_of (lent_sizes n t)) r line
