-- What an append answers, and the buffer.
use Rattle.std.specs.Prelude.{Result, Ok, Err}
use Rattle.kit.specs.Names.{ℕ}
use Rattle.rules.specs.Rules.{DONE, code_of}
use Rattle.rules.specs.declared.refusal.Refusal.{Refusal}
use Rattle.journal.specs.Entry.{Bytes}
use Rattle.journal.specs.Append as rule

-- The journal's length afterwards, or why it stays as long as it was.
abbrev pub appended_to : ℕ → Result ℕ Refusal → Bytes → rule.Appended
appended_to used (Ok after) buffer = record { no = DONE; used = after; buffer = buffer }
appended_to used (Err why) buffer = record { no = code_of why; used = used; buffer = buffer }
