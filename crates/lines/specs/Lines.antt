-- Lines of the input: how their bytes are gathered, and which command a line is.
use Rattle.std.specs.Prelude.{◌∷◌, ◌+◌}
use Rattle.kit.specs.Names.{Bool, true, false, cond, List, [], ℕ, length, get_or, set, take, eqb, ltb}
use Rattle.parser.specs.Command.{command_of}
use Rattle.commands.specs.declared.command.Command.{Command}
use Rattle.commands.specs.declared.command.Command.TheVariants.{Blank, Error}

-- ---- gathering

-- The buffer for a line, how many bytes of the line it has, and whether there were more than it can hold.
pub record Line : Type 0 where
  pub buffer : List ℕ
  pub n : ℕ
  pub overlong : Bool

abbrev pub line : List ℕ → ℕ → Bool → Line
line b n o = record { buffer = b; n = n; overlong = o }

-- A line, the place in the input after what was read, and whether the line has ended there.
pub record Reached : Type 0 where
  pub line : Line
  pub next : ℕ
  pub ended : Bool

abbrev pub reached : Line → ℕ → Bool → Reached
reached l i e = record { line = l; next = i; ended = e }

-- One more byte, where there is room for it.
abbrev pub keeping : Line → ℕ → Line
keeping l b = cond (ltb l.n (length l.buffer)) (line (set l.buffer l.n b) (l.n + 1) l.overlong) (line l.buffer l.n true)

-- "Input is one command a line": bytes from a place on, up to a line feed, which is read over.
unfoldable pub gathering : ℕ → Line → List ℕ → Reached
gathering i l [] = reached l i false
gathering i l (b ∷ bs) = cond (eqb b 10) (reached l (i + 1) true) (gathering (i + 1) (keeping l b) bs)

-- ---- a line's command

-- "lines that begin with `#` print nothing", however long they are; no command is longer than the buffer
abbrev pub cut_off : List ℕ → Command
cut_off b = cond (eqb (get_or b 0 0) 35) Blank Error

abbrev pub line_command : List ℕ → ℕ → Bool → Command
line_command b n overlong = cond overlong (cut_off b) (cond (ltb (length b) n) Error (command_of (take n b)))
