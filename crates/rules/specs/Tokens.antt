-- Document 01, "Rules of the log and the tokens": marks, what is undone, and what lies since a snapshot.
use Rattle.std.specs.Prelude.{◌&&◌, ◌||◌, ◌∷◌, ◌+◌, ◌-◌, ◌*◌, Option, None, Some}
use Rattle.kit.specs.Names.{Bool, true, false, cond, List, [], ℕ, zero, suc, set, take, drop, eqb, ltb}
use Rattle.rules.specs.declared.table.UndoLog.{UndoLog}
use Rattle.rules.specs.declared.table.UndoLog.TheVariants.{NewElem, SetElem, Unknown}
use Rattle.rules.specs.declared.table.Mark.{Mark}
use Rattle.rules.specs.declared.table.Head.{Head}
use Rattle.rules.specs.declared.table.State.{State}
use Rattle.rules.specs.declared.call.Answer.{Answer}
use Rattle.rules.specs.declared.call.Answered.{Answered}
use Rattle.rules.specs.Numbers.{DONE, NOT-INNERMOST, TOO-DEEP, BROKEN-TABLE, SERIALS-SPENT, NOT-OPEN, MAX-OPEN, MAX-U64, ENTRY}
use Rattle.rules.specs.Lent.{Rows, Log, entry_at, put_row, mark, mark_at, head, head_of, with_head}
use Rattle.rules.specs.Answer.{refusal, said, range, opened, answered, refuse_state}

-- "A snapshot's mark holds a serial, log length and key count. The token is the serial: first 1, then one more each time, never
-- taken back by rollback or commit."
abbrev pub marked : State → State
marked s =
    record {
      count = s.count;
      used = s.used;
      «open» = s.«open» + 1;
      last = s.last + 1;
      marks = set s.marks s.«open» (mark (s.last + 1) s.used s.count);
    }

-- ---- the innermost mark, and the one that a token names

abbrev pub innermost : State → Mark
innermost s = mark_at s (s.«open» - 1)

-- NOT_INNERMOST: "rollback or commit: no snapshot open, or the token isn't the innermost one's"
abbrev pub not_innermost : State → ℕ → Bool
not_innermost s token = cond (eqb s.«open» 0) true (cond (eqb (innermost s).serial token) false true)

-- NOT_OPEN: "a token not among the open ones". "If a damaged state has a serial twice, the innermost such mark counts."
unfoldable pub seek : State → ℕ → ℕ → Option Mark
seek s token zero = None
seek s token (suc n) = cond (eqb (mark_at s n).serial token) (Some (mark_at s n)) (seek s token n)

-- BROKEN_TABLE: "the mark used has a log length above used or a key count above the count"
abbrev pub unfit : Head → Mark → Bool
unfit h m = ltb h.used m.log_len || ltb h.count m.keys

-- ---- the calls that neither read nor write rows and entries

abbrev pub snapshot : State → Answered
snapshot s =
    refuse_state (eqb s.«open» MAX-OPEN) TOO-DEEP s
    (refuse_state (eqb s.last MAX-U64) SERIALS-SPENT s
    (answered (opened (s.last + 1)) (marked s)))

-- "Commit drops the mark and keeps the entries; committing the only open one empties the log."
abbrev pub committed : Head → Head
committed h = head h.count (cond (eqb h.«open» 1) 0 h.used) (h.«open» - 1)

-- BROKEN_TABLE: "the only open mark has a log length other than 0 at commit"
abbrev pub stranded : Head → Mark → Bool
stranded h m = eqb h.«open» 1 && ltb 0 m.log_len

abbrev pub commit : State → ℕ → Answered
commit s token =
    refuse_state (not_innermost s token) NOT-INNERMOST s
    (refuse_state (unfit (head_of s) (innermost s) || stranded (head_of s) (innermost s)) BROKEN-TABLE s
    (answered (refusal DONE) (with_head s (committed (head_of s)))))

-- A question about the mark that a token names.
abbrev pub asked : State → (Mark → Answer) → Option Mark → Answered
asked s reply None = answered (refusal NOT-OPEN) s
asked s reply (Some m) = refuse_state (unfit (head_of s) m) BROKEN-TABLE s (answered (reply m) s)

abbrev pub ask : State → ℕ → (Mark → Answer) → Answered
ask s token reply = asked s reply (seek s token s.«open»)

-- "Keys since a snapshot are those from the mark's key count up to the count."
abbrev pub keys_since : State → ℕ → Answered
keys_since s token = ask s token (λ m. range m.keys s.count)

-- "Actions since a snapshot are shown as a view of the log from the mark's length to its used end .. for any open token."
abbrev pub actions_since : State → ℕ → Answered
actions_since s token = ask s token (λ m. range m.log_len s.used)

-- "Has-changes is yes exactly when used is above the mark's log length."
abbrev pub has_changes : State → ℕ → Answered
has_changes s token = ask s token (λ m. said (ltb m.log_len s.used) 0)

-- "Live keys are 0 to count − 1."
abbrev pub len : State → Answered
len s = answered (range 0 s.count) s

-- ---- rollback

-- The `n` entries from `base` on, "newest first".
unfoldable pub newest_first : Log → ℕ → ℕ → List UndoLog
newest_first l base zero = []
newest_first l base (suc n) = entry_at l (base + n) ∷ newest_first l base n

-- The entries down to the mark's log length.
abbrev pub since : Log → Head → Mark → List UndoLog
since l h m = newest_first l m.log_len (h.used - m.log_len)

-- BROKEN_TABLE: "an entry to be undone, newest first, is of no known kind, names a changed row not below the count then reached,
-- or a new row other than the last, or the count left differs from the mark's". From `count` down to `keys`:
unfoldable pub undoable : ℕ → ℕ → List UndoLog → Bool
undoable keys count [] = eqb count keys
undoable keys count (NewElem key ∷ es) = eqb (key + 1) count && undoable keys key es
undoable keys count (SetElem key old ∷ es) = ltb key count && undoable keys count es
undoable keys count (Unknown ∷ es) = false

-- One entry is undone. A new key's row keeps what it holds.
abbrev pub reversed : Rows → UndoLog → Rows
reversed rs (NewElem key) = rs
reversed rs (SetElem key old) = put_row rs key old
reversed rs Unknown = rs

unfoldable pub undo : Rows → List UndoLog → Rows
undo rs [] = rs
undo rs (e ∷ es) = undo (reversed rs e) es

-- "Rollback undoes entries newest first down to the mark's log length and drops the mark."
abbrev pub rolled_back : Head → Mark → Head
rolled_back h m = head m.keys m.log_len (h.«open» - 1)

-- ---- the view

-- The view "of the log from the mark's length to its used end, entry by entry": entry i is `entry_at` of this part. Past its end,
-- that is `Unknown`.
abbrev pub viewed : Log → ℕ → ℕ → Log
viewed l from to = take (to * ENTRY - from * ENTRY) (drop (from * ENTRY) l)

-- The view that a call hands out: the range that it answers. A refusal answers "the range 0 to 0 or an empty view", and that range
-- cuts nothing.
abbrev pub actions_view : Log → Answer → Log
actions_view l a = viewed l a.from a.to
