-- What is printed, as CALLS.md has it.
use Rattle.std.specs.Prelude.{◌∷◌, ◌++◌, Option, None, Some}
use Rattle.kit.specs.Names.{List, [], ℕ}
use Rattle.rules.specs.Rules.{answer_numbers, Answer, Mark, State}
use Rattle.words.specs.Bytes.{bytes}
use Rattle.digits.specs.Printed.{listed, spell}

-- "separated by one blank": one between two
abbrev pub spaced : List ℕ → List ℕ
spaced [] = []
spaced (n ∷ ns) = spell n ++ listed ns

-- "NO KEY TOKEN OWNER AMOUNT STEPS YES FROM TO"
unfoldable pub answer_text : Answer → List ℕ
answer_text a = spaced (answer_numbers a)

-- a lent number, or that there is none at this place
abbrev pub Cell : Type 0
Cell = Option ℕ

-- a lent number, and "`-` for what is missing"
unfoldable pub cell_text : Cell → List ℕ
cell_text None = bytes " -"
cell_text (Some n) = listed (n ∷ [])

unfoldable pub cells : List Cell → List ℕ
cells [] = []
cells (x ∷ xs) = cell_text x ++ cells xs

-- "PARENT RANK OWNER AMOUNT"
abbrev pub row_text : Cell → Cell → Cell → Cell → List ℕ
row_text parent rank owner amount = cells (parent ∷ rank ∷ owner ∷ amount ∷ [])

-- " | KIND KEY", before an entry's row
abbrev pub kind_text : Cell → Cell → List ℕ
kind_text kind key = bytes " |" ++ cells (kind ∷ key ∷ [])

-- " | SERIAL LOGLEN KEYS"
abbrev pub mark_text : Mark → List ℕ
mark_text m = bytes " |" ++ listed (m.serial ∷ m.log_len ∷ m.keys ∷ [])

-- " state COUNT USED OPEN LAST marks"
abbrev pub state_text : State → List ℕ
state_text s = bytes " state" ++ listed (s.count ∷ s.used ∷ s.«open» ∷ s.last ∷ []) ++ bytes " marks"

-- "error LINE", with a line feed
abbrev pub error_text : ℕ → List ℕ
error_text line = bytes "error" ++ listed (line ∷ []) ++ (10 ∷ [])
