-- Document 01, "The meter's table": rows, log and state, as numbers that the host lends and hands on.
use Rattle.std.specs.Prelude.{◌+◌, ◌*◌, ◌%◌, ◌/◌}
use Rattle.kit.specs.Names.{cond, List, ℕ, length, get_or, set, replicate, eqb}
use Rattle.rules.specs.declared.table.Owner.{Owner}
use Rattle.rules.specs.declared.table.Owner.TheVariants.{Nobody, Tenant}
use Rattle.rules.specs.declared.table.Value.{Value}
use Rattle.rules.specs.declared.table.Row.{Row}
use Rattle.rules.specs.declared.table.UndoLog.{UndoLog}
use Rattle.rules.specs.declared.table.UndoLog.TheVariants.{NewElem, SetElem, Unknown}
use Rattle.rules.specs.declared.table.Mark.{Mark}
use Rattle.rules.specs.declared.table.Head.{Head}
use Rattle.rules.specs.declared.table.State.{State}
use Rattle.rules.specs.Numbers.{CROWN, ENTRY, WORD, MAX-OPEN, KIND-UNKNOWN, KIND-NEW, KIND-SET}

-- ---- what is lent

-- "A row is parent, rank (32 bits), owner .. and byte-seconds (64 bits)": a parent to a row; its crown, rank and owner, which mean
-- something at a root only; and its amount.
pub record Rows : Type 0 where
  pub parents : List ℕ
  pub crowns : List ℕ
  pub amounts : List ℕ

-- "The log itself is lent numbers, not enums": to an entry kind, key, and the old row's parent, rank, owner, and amount as a low and
-- a high word.
abbrev pub Log : Type 0
Log = List ℕ

-- How many entries a log has room for.
abbrev pub entries : Log → ℕ
entries l = length l / ENTRY

-- All of a table: what is lent, and the state that is handed in and back.
pub record Table : Type 0 where
  pub rows : Rows
  pub log : Log
  pub state : State

-- ---- a row

-- "Owner 0, in lent numbers or in a call, means none."
abbrev pub owner_of : ℕ → Owner
owner_of n = cond (eqb n 0) Nobody (Tenant n)

abbrev pub number_of : Owner → ℕ
number_of Nobody = 0
number_of (Tenant n) = n

abbrev pub value : Owner → ℕ → Value
value o a = record { owner = o; amount = a }

abbrev pub none : Value
none = value Nobody 0

abbrev pub row : ℕ → ℕ → Value → Row
row p r v = record { parent = p; rank = r; owner = v.owner; amount = v.amount }

abbrev pub value_of : Row → Value
value_of r = value r.owner r.amount

abbrev pub row_at : Rows → ℕ → Row
row_at rs i =
    let b = i * CROWN in
    row (get_or rs.parents i 0) (get_or rs.crowns b 0) (value (owner_of (get_or rs.crowns (b + 1) 0)) (get_or rs.amounts i 0))

abbrev pub put_crown : List ℕ → ℕ → ℕ → Owner → List ℕ
put_crown crowns i rank owner = let b = i * CROWN in set (set crowns b rank) (b + 1) (number_of owner)

abbrev pub put_row : Rows → ℕ → Row → Rows
put_row rs i r =
    record {
      parents = set rs.parents i r.parent;
      crowns = put_crown rs.crowns i r.rank r.owner;
      amounts = set rs.amounts i r.amount;
    }

-- ---- an entry of the log

abbrev pub amount_of : ℕ → ℕ → ℕ
amount_of low high = low + high * WORD

abbrev pub low_of : ℕ → ℕ
low_of a = a % WORD

abbrev pub high_of : ℕ → ℕ
high_of a = a / WORD

-- The old row of the entry that starts at b.
abbrev pub old_at : Log → ℕ → Row
old_at l b =
    row (get_or l (b + 2) 0) (get_or l (b + 3) 0) (value (owner_of (get_or l (b + 4) 0)) (amount_of (get_or l (b + 5) 0) (get_or l (b + 6) 0)))

abbrev pub put_old : Log → ℕ → Row → Log
put_old l b r =
    set (set (set (set (set l (b + 2) r.parent) (b + 3) r.rank) (b + 4) (number_of r.owner)) (b + 5) (low_of r.amount))
    (b + 6) (high_of r.amount)

abbrev pub kind_of : UndoLog → ℕ
kind_of (NewElem key) = KIND-NEW
kind_of (SetElem key old) = KIND-SET
kind_of Unknown = KIND-UNKNOWN

abbrev pub key_of : UndoLog → ℕ
key_of (NewElem key) = key
key_of (SetElem key old) = key
key_of Unknown = 0

-- "a new key logs its index, the entry's row fields being 0"
abbrev pub old_of : UndoLog → Row
old_of (NewElem key) = row 0 0 none
old_of (SetElem key old) = old
old_of Unknown = row 0 0 none

abbrev pub entry_at : Log → ℕ → UndoLog
entry_at l i =
    let b = i * ENTRY in
    let kind = get_or l b KIND-UNKNOWN in
    let key = get_or l (b + 1) 0 in
    cond (eqb kind KIND-NEW) (NewElem key) (cond (eqb kind KIND-SET) (SetElem key (old_at l b)) Unknown)

abbrev pub put_entry : Log → ℕ → UndoLog → Log
put_entry l i e = let b = i * ENTRY in put_old (set (set l b (kind_of e)) (b + 1) (key_of e)) b (old_of e)

-- ---- the state

abbrev pub mark : ℕ → ℕ → ℕ → Mark
mark s l k = record { serial = s; log_len = l; keys = k }

abbrev pub mark_at : State → ℕ → Mark
mark_at s i = get_or s.marks i (mark 0 0 0)

-- "A fresh table has count, used log, open snapshots and last serial 0, and all marks 0."
abbrev pub fresh : State
fresh = record { count = 0; used = 0; «open» = 0; last = 0; marks = replicate MAX-OPEN (mark 0 0 0) }

-- The state without serials and marks: its head; and the state with another head, its serials and marks as they were.
abbrev pub head : ℕ → ℕ → ℕ → Head
head c u o = record { count = c; used = u; «open» = o }

abbrev pub head_of : State → Head
head_of s = head s.count s.used s.«open»

abbrev pub with_head : State → Head → State
with_head s h = record { count = h.count; used = h.used; «open» = h.«open»; last = s.last; marks = s.marks }

abbrev pub table : Rows → Log → State → Table
table rs l s = record { rows = rs; log = l; state = s }
