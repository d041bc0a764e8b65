-- Replies as CALLS.md has them, on one table. Assumes nothing.
use Rattle.std.specs.Prelude.{◌≡◌, ◌∷◌, ◌++◌}
use Rattle.kit.specs.Names.{refl, List, [], ℕ, replicate}
use Rattle.rules.specs.Rules.{range, Table, mark}
use Rattle.rules.specs.declared.call.Call.TheVariants.{Actions}
use Rattle.words.specs.Bytes.{bytes}
use Rattle.print.specs.Texts.{answer_text, cell_text, cells}
use Rattle.digits.specs.Printed.{listed, spell, spell_in}
use Rattle.commands.specs.declared.command.Lengths.{Lengths}
use Rattle.arrays.specs.Room.{evenly}
use Rattle.arrays.specs.declared.reply.Reply.{Reply}
use Rattle.arrays.specs.declared.reply.Reply.TheVariants as reply
use Rattle.show.specs.Shown.{Pieces, each}
use Rattle.replies.specs.Replies.{onward}
use Rattle.say.specs.Reply.{reply_pieces, said_pieces}

-- pieces as one text
text : Pieces → List ℕ
text [] = []
text (x ∷ xs) = x ++ text xs

-- two rows, one entry and one open snapshot
two : Table
two =
    record {
      rows = record { parents = 0 ∷ 0 ∷ []; crowns = 1 ∷ 7 ∷ 3 ∷ 0 ∷ []; amounts = 5 ∷ 12 ∷ [] };
      log = 2 ∷ 1 ∷ 1 ∷ 0 ∷ 9 ∷ 12 ∷ 1 ∷ [];
      state = record { count = 2; used = 1; «open» = 1; last = 4; marks = mark 4 0 2 ∷ replicate 31 (mark 0 0 0) };
    }

-- of which the second row's owner is not lent, nor the high word of the entry's amount
unequal : Lengths
unequal = record { parents = 2; crowns = 3; amounts = 2; log = 6 }

said : Reply → List ℕ
said r = text (said_pieces unequal two r 1)

a_row : said (reply.Row 0) ≡ bytes "row 0 1 7 5\n"
unfolding said text unequal two reply_pieces each cells cell_text listed spell spell_in
a_row = refl

a_row_with_a_gap : said (reply.Row 1) ≡ bytes "row 0 3 - 12\n"
unfolding said text unequal two reply_pieces each cells cell_text listed spell spell_in
a_row_with_a_gap = refl

no_row : said (reply.Row 2) ≡ bytes "none\n"
unfolding said text unequal two reply_pieces each cells cell_text listed spell spell_in
no_row = refl

all_in_use : said reply.Live ≡ bytes "live rows | 0 1 7 5 | 0 3 - 12 log | 2 1 1 0 9 - state 2 1 1 4 marks | 4 0 2\n"
unfolding said text unequal two reply_pieces each cells cell_text listed spell spell_in
all_in_use = refl

an_entry_since : text (said_pieces (evenly 2 1) two (reply.Answer (Actions 4) (range 0 1)) 1) ≡ bytes "0 0 0 0 0 0 0 0 1 | 2 1 1 0 9 4294967308\n"
unfolding text two reply_pieces onward each answer_text cells cell_text listed spell spell_in
an_entry_since = refl
