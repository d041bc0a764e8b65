-- Rows, entries and marks, piece by piece: CALLS.md, in its order.
use Rattle.std.specs.Prelude.{◌∷◌, ◌++◌, ◌+◌, ◌-◌, ◌*◌, None, Some}
use Rattle.kit.specs.Names.{cond, List, [], ℕ, zero, suc, length, get_or, ltb}
use Rattle.rules.specs.Rules.{State, Rows, Log, mark_at, number_of, amount_of, CROWN, ENTRY, viewed}
use Rattle.parts.specs.declared.entries.Numbers.{Numbers}
use Rattle.extract.specs.Numbers.{lent_at}
use Rattle.words.specs.Bytes.{bytes}
use Rattle.print.specs.Texts.{Cell, row_text, kind_text, mark_text}

abbrev pub Pieces : Type 0
Pieces = List (List ℕ)

-- The pieces of the first so many, in order.
unfoldable pub each : ℕ → (ℕ → Pieces) → Pieces
each zero f = []
each (suc n) f = each n f ++ f n

-- ---- "Calls"

-- " | KIND KEY PARENT RANK OWNER AMOUNT", "the numbers as they are lent"
abbrev pub numbers_pieces : Numbers → Pieces
numbers_pieces e =
    kind_text (Some e.kind) (Some e.key)
    ∷ row_text (Some e.old.parent) (Some e.old.rank) (Some (number_of e.old.owner)) (Some e.old.amount)
    ∷ []

-- the entries of the log from one to another, as the view shows them
abbrev pub since_pieces : Log → ℕ → ℕ → Pieces
since_pieces l from to = each (to - from) (λ i. numbers_pieces (lent_at (viewed l from to) i))

-- ---- "Looking", over what is lent

-- a lent number; "`-` for each number that is missing"
abbrev pub cell_at : List ℕ → ℕ → Cell
cell_at part i = cond (ltb i (length part)) (Some (get_or part i 0)) None

-- "of a log's amount, where either of its two words is"
abbrev pub both : Cell → Cell → Cell
both None high = None
both (Some low) None = None
both (Some low) (Some high) = Some (amount_of low high)

-- "PARENT RANK OWNER AMOUNT"
abbrev pub row_piece : Rows → ℕ → List ℕ
row_piece rs i =
    let b = i * CROWN in
    row_text (cell_at rs.parents i) (cell_at rs.crowns b) (cell_at rs.crowns (b + 1)) (cell_at rs.amounts i)

-- "| P R O A"
abbrev pub row_pieces : Rows → ℕ → Pieces
row_pieces rs i = bytes " |" ∷ row_piece rs i ∷ []

-- "| KIND KEY P R O A"
abbrev pub entry_pieces : Log → ℕ → Pieces
entry_pieces l i =
    let b = i * ENTRY in
    kind_text (cell_at l b) (cell_at l (b + 1))
    ∷ row_text (cell_at l (b + 2)) (cell_at l (b + 3)) (cell_at l (b + 4)) (both (cell_at l (b + 5)) (cell_at l (b + 5 + 1)))
    ∷ []

-- "| SERIAL LOGLEN KEYS"
abbrev pub mark_pieces : State → ℕ → Pieces
mark_pieces s i = mark_text (mark_at s i) ∷ []
