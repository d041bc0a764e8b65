-- Document 01, "Numbers of refusal": BAD_STATE over all that is lent, and what a refusal leaves.
use Rattle.std.specs.Prelude.{◌∷◌, ◌*◌, ◌%◌, ◌/◌}
use Rattle.kit.specs.Names.{Bool, true, false, cond, not, List, [], ℕ, length, eqb, ltb}
use Rattle.rules.specs.declared.call.Answer.{Answer}
use Rattle.rules.specs.declared.table.Head.{Head}
use Rattle.rules.specs.Numbers.{LOG-FULL, MAX-ROWS, MAX-ENTRIES, MAX-OPEN, CROWN, ENTRY}
use Rattle.rules.specs.Lent.{Rows, Log, Table, head_of}
use Rattle.rules.specs.Write.{memory_of, with_memory, full, puts}
use Rattle.rules.specs.Answer.{refusal}
use Rattle.rules.specs.Plan.{Plan}

-- What a call answers, and all of the table as it leaves it.
pub record Outcome : Type 0 where
  pub answer : Answer
  pub table : Table

abbrev pub outcome : Answer → Table → Outcome
outcome a t = record { answer = a; table = t }

-- A refusal "leaves rows, log and state untouched."
abbrev pub refused : ℕ → Table → Outcome
refused n t = outcome (refusal n) t

abbrev pub refuse : Bool → ℕ → Table → Outcome → Outcome
refuse test n t rest = cond test (refused n t) rest

-- The one way to carry out a plan: LOG_FULL where what it writes can't be logged, else its writes in their order.
abbrev pub carry : Table → Plan → Outcome
carry t p = refuse (full (memory_of t) (length p.todo)) LOG-FULL t (outcome p.answer (with_memory t (puts (memory_of t) p.todo)))

-- ---- BAD_STATE

-- The lengths of the four lent parts, in numbers.
pub record Sizes : Type 0 where
  pub parents : ℕ
  pub crowns : ℕ
  pub amounts : ℕ
  pub log : ℕ

abbrev pub sizes : ℕ → ℕ → ℕ → ℕ → Sizes
sizes p c a l = record { parents = p; crowns = c; amounts = a; log = l }

abbrev pub sizes_of : Rows → Log → Sizes
sizes_of rs l = sizes (length rs.parents) (length rs.crowns) (length rs.amounts) (length l)

abbrev pub any : List Bool → Bool
any [] = false
any (b ∷ bs) = cond b true (any bs)

abbrev pub differ : ℕ → ℕ → Bool
differ a b = not (eqb a b)

-- "nothing open and used not 0"
abbrev pub stray : Head → Bool
stray h = cond (eqb h.«open» 0) (differ h.used 0) false

-- "rows or log above the limits, lent parts of unequal length, count above rows, used above log, open above 32, or nothing open
-- and used not 0". Parts are of unequal length where not every row has its parent, its crown and its amount, or the log ends inside
-- an entry (docs/DECISIONS.md, 2).
abbrev pub faults : Sizes → Head → List Bool
faults z h =
    ltb MAX-ROWS z.parents
    ∷ ltb (MAX-ENTRIES * ENTRY) z.log
    ∷ differ z.crowns (z.parents * CROWN)
    ∷ differ z.amounts z.parents
    ∷ differ (z.log % ENTRY) 0
    ∷ ltb z.parents h.count
    ∷ ltb (z.log / ENTRY) h.used
    ∷ ltb MAX-OPEN h.«open»
    ∷ stray h
    ∷ []

unfoldable pub bad : Sizes → Head → Bool
bad z h = any (faults z h)

abbrev pub bad_table : Table → Bool
bad_table t = bad (sizes_of t.rows t.log) (head_of t.state)
