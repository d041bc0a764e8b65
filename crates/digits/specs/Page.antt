-- How a function's contract speaks of a page: at entry and at exit.
use Rattle.std.specs.Prelude.{◌≡◌}
use Rattle.kit.specs.Names.{List, ℕ, length}
use Rattle.digits.specs.declared.put.Page.{Page}
use Rattle.digits.specs.Printed.{Printed, Wrote}

-- The reference is the same one still, and its buffer as long: by this a caller knows that what is left behind it is left in its own buffer.
abbrev pub SamePage : Page → Page → Type 0
SamePage p p' = (p.bytes.ghost_name ≡ p'.bytes.ghost_name) × (length p'.bytes.now ≡ length p.bytes.now)

-- A text was printed, and nothing else was changed.
abbrev pub Prints : Page → Page → List ℕ → Type 0
Prints p p' text = Printed p.bytes.now p'.bytes.now p.at text p'.at

-- Something was printed, and no more than so many bytes.
abbrev pub Moves : Page → Page → ℕ → Type 0
Moves p p' most = Wrote p.at most p'.at
