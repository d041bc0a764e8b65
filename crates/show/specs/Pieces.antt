-- What is printed into the program's buffer: pieces, one after the other.
use Rattle.std.specs.Prelude.{◌≡◌, ◌∷◌, ◌+◌, ◌-◌}
use Rattle.kit.specs.Names.{cond, List, [], ℕ, length, ltb, paste}
use Rattle.digits.specs.declared.put.Page as put

-- No piece is longer.
abbrev pub ROOM : ℕ
ROOM = 256

-- Where a piece begins: at the buffer's start where too little room is left, since what was printed is written out then.
abbrev pub placed : ℕ → ℕ → ℕ
placed size at = cond (ltb (size - ROOM) at) 0 at

-- A buffer, and the place after what was printed last.
pub record Page : Type 0 where
  pub bytes : List ℕ
  pub at : ℕ

abbrev pub page : List ℕ → ℕ → Page
page b at = record { bytes = b; at = at }

unfoldable pub printing : List ℕ → ℕ → List (List ℕ) → Page
printing buffer at [] = page buffer at
printing buffer at (x ∷ xs) =
    let start = placed (length buffer) at in
    printing (paste buffer start x (length x)) (start + length x) xs

-- These pieces were printed from a place on, and nothing else was changed.
pub record Said (before after : List ℕ) (at : ℕ) (pieces : List (List ℕ)) (end : ℕ) : Type 0 where
  pub said : page after end ≡ printing before at pieces

-- The same of the page that a function prints into.
abbrev pub Says : put.Page → put.Page → List (List ℕ) → Type 0
Says p p' pieces = Said p.bytes.now p'.bytes.now p.at pieces p'.at
