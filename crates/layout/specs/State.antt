-- A state as lent numbers. Short ones: count, used, open, then each mark's log length and keys, outermost first. Long ones: the last
-- serial, then each mark's serial.
use Rattle.std.specs.Prelude.{◌≡◌, ◌∷◌}
use Rattle.kit.specs.Names.{List, [], map, ℕ, length, get_or, set, drop}
use Rattle.rules.specs.Rules.{Head, Mark, State, mark, head}
use Rattle.undo_log.specs.Settled.{state_with}

-- How many of each there are: three and two for each of the 32 marks; one, and one for each.
abbrev pub NUMBERS : ℕ
NUMBERS = 67

abbrev pub SERIALS : ℕ
SERIALS = 33

pub record Sized (ns ss : List ℕ) : Type 0 where
  pub numbers : length ns ≡ NUMBERS
  pub serials : length ss ≡ SERIALS

unfoldable pub marks_of : List ℕ → List ℕ → List Mark
marks_of [] ss = []
marks_of (l ∷ []) ss = []
marks_of (l ∷ k ∷ ns) [] = []
marks_of (l ∷ k ∷ ns) (s ∷ ss) = mark s l k ∷ marks_of ns ss

abbrev pub head_in : List ℕ → Head
head_in ns = head (get_or ns 0 0) (get_or ns 1 0) (get_or ns 2 0)

-- The state of a head, with the last serial and the marks that stand in the numbers.
abbrev pub state_by : Head → List ℕ → List ℕ → State
state_by h ns ss = state_with h (get_or ss 0 0) (marks_of (drop 3 ns) (drop 1 ss))

abbrev pub state_of : List ℕ → List ℕ → State
state_of ns ss = state_by (head_in ns) ns ss

-- The numbers with another head.
abbrev pub headed : List ℕ → Head → List ℕ
headed ns h = set (set (set ns 0 h.count) 1 h.used) 2 h.«open»

-- ---- and back

unfoldable pub pairs_of : List Mark → List ℕ
pairs_of [] = []
pairs_of (m ∷ ms) = m.log_len ∷ m.keys ∷ pairs_of ms

abbrev pub state_numbers : State → List ℕ
state_numbers s = s.count ∷ s.used ∷ s.«open» ∷ pairs_of s.marks

abbrev pub state_serials : State → List ℕ
state_serials s = s.last ∷ map (λ (m : Mark). m.serial) s.marks
