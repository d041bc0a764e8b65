-- The lines of the several replies, piece by piece: CALLS.md, in its order.
use Rattle.std.specs.Prelude.{◌∷◌, ◌++◌}
use Rattle.kit.specs.Names.{cond, List, [], ℕ, min, ltb}
use Rattle.rules.specs.Rules.{Answer, Call, Head, State, Rows, Log, Table, head, MAX-OPEN, Sizes}
use Rattle.rules.specs.declared.call.Call.TheVariants.{New, Len, Find, Unioned, Join, Post, Probe, ProbeKey, TryProbe, Snapshot, Rollback, Commit, Keys, Actions, Changes}
use Rattle.words.specs.Bytes.{bytes}
use Rattle.print.specs.Texts.{answer_text, state_text}
use Rattle.arrays.specs.Cut.{most_rows, most_entries}
use Rattle.show.specs.Shown.{Pieces, each, since_pieces, row_piece, row_pieces, entry_pieces, mark_pieces}

-- "Every other line prints exactly one line": the line feed after a reply of several pieces.
abbrev pub FEED : List ℕ
FEED = 10 ∷ []

-- ---- "Calls"

-- "`actions` with DONE goes on, oldest entry first": a refusal's range is empty, and so is what follows every other call
unfoldable pub onward : Log → Call → Answer → Pieces
onward l (Actions token) a = since_pieces l a.from a.to
onward l (New owner amount) a = []
onward l Len a = []
onward l (Find key) a = []
onward l (Unioned x y) a = []
onward l (Join x y) a = []
onward l (Post key owner amount) a = []
onward l (Probe key) a = []
onward l (ProbeKey key) a = []
onward l (TryProbe key) a = []
onward l Snapshot a = []
onward l (Rollback token) a = []
onward l (Commit token) a = []
onward l (Keys token) a = []
onward l (Changes token) a = []

abbrev pub answer_pieces : Log → Call → Answer → Pieces
answer_pieces l call a = answer_text a ∷ (onward l call a ++ (FEED ∷ []))

-- ---- "Looking", over what is lent

-- "row PARENT RANK OWNER AMOUNT, or none past what is lent"
abbrev pub look_pieces : Rows → ℕ → ℕ → Pieces
look_pieces rs rows key = cond (ltb key rows) (bytes "row" ∷ row_piece rs key ∷ FEED ∷ []) (bytes "none\n" ∷ [])

-- ".. rows | P R O A | .. log | KIND KEY P R O A | .. state COUNT USED OPEN LAST marks | SERIAL LOGLEN KEYS | ..": so many of each
abbrev pub shown_pieces : List ℕ → Table → Head → Pieces
shown_pieces name t h =
    let s = t.state in
    name
    ∷ (each h.count (row_pieces t.rows)
    ++ (bytes " log" ∷ (each h.used (entry_pieces t.log) ++ (state_text s ∷ (each (min h.«open» MAX-OPEN) (mark_pieces s) ++ (FEED ∷ []))))))

-- ---- a line

-- "`dump` goes to the row and entry that the longest reaches", and shows "all 32 marks"
abbrev pub all_of : Sizes → Head
all_of z = head (most_rows z) (most_entries z) MAX-OPEN

-- "rows below the count, entries below used, state, open marks": as far as there are any
abbrev pub in_use : State → Head → Head
in_use s all = head (min s.count all.count) (min s.used all.used) s.«open»
