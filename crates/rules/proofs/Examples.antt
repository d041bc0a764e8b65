-- Document 01, "Examples": those marked *, 1 to 13, as one statement over a list of calls and what is expected afterwards.
use Rattle.std.specs.Prelude.{◌≡◌, ◌∷◌, ◌++◌, ◌*◌}
use Rattle.kit.specs.Names.{refl, List, [], map, ℕ, replicate}
use Rattle.rules.specs.Rules.{Call, CROWN, ENTRY, Rows, Log, table, fresh, number_of, row_at, kind_of, key_of, old_of, entry_at, merge, path, writes, puts}
use Rattle.rules.specs.Rules.{refusal, rewrites, seek, newest_first, undoable, undo, Outcome, outcome, bad, call, step}
use Rattle.rules.specs.declared.call.Call.TheVariants.{New, Find, Join, Post, Snapshot, Rollback, Commit}

-- ---- a run from a fresh table, whose lent rows and entries hold anything at all

abbrev lent_rows : ℕ → Rows
lent_rows n = record { parents = replicate n 77; crowns = replicate (n * CROWN) 77; amounts = replicate n 77 }

abbrev lent_log : ℕ → Log
lent_log n = replicate (n * ENTRY) 77

-- The last call's answer, and the table after it.
run : Outcome → List Call → Outcome
run o [] = o
run o (c ∷ cs) = run (step o.table c) cs

-- ---- what an example looks at afterwards

data Look : Type 0 where
  number key token steps used : Look
  parent rank owner amount : ℕ → Look
  entryKind entryKey entryParent : ℕ → Look

seen : Outcome → Look → ℕ
seen o number = o.answer.no
seen o key = o.answer.key
seen o token = o.answer.token
seen o steps = o.answer.steps
seen o used = o.table.state.used
seen o (parent i) = (row_at o.table.rows i).parent
seen o (rank i) = (row_at o.table.rows i).rank
seen o (owner i) = number_of (row_at o.table.rows i).owner
seen o (amount i) = (row_at o.table.rows i).amount
seen o (entryKind i) = kind_of (entry_at o.table.log i)
seen o (entryKey i) = key_of (entry_at o.table.log i)
seen o (entryParent i) = (old_of (entry_at o.table.log i)).parent

record Example : Type 0 where
  log_room : ℕ
  calls : List Call
  expected : List (Look × ℕ)

abbrev example : ℕ → List Call → List (Look × ℕ) → Example
example n cs es = record { log_room = n; calls = cs; expected = es }

abbrev after : Example → Outcome
after e = run (outcome (refusal 0) (table (lent_rows 8) (lent_log e.log_room) fresh)) e.calls

-- "T is four new keys with amounts 1, 2, 4, 8 and no owner, then join(0,1), join(2,3), join(0,2)."
abbrev T : List Call
T = New 0 1 ∷ New 0 2 ∷ New 0 4 ∷ New 0 8 ∷ Join 0 1 ∷ Join 2 3 ∷ Join 0 2 ∷ []

-- Example 10 up to its post: "New key 0, owner 9, amount 5; snapshots s1, s2; post(0, owner 9, 7)"
abbrev ten : List Call
ten = New 9 5 ∷ Snapshot ∷ Snapshot ∷ Post 0 9 7 ∷ []

examples : List Example
examples =
    -- 1
    example 8 (New 0 1 ∷ New 0 2 ∷ Join 0 1 ∷ []) ((parent 0, 1) ∷ (amount 0, 1) ∷ (rank 1, 1) ∷ (amount 1, 3) ∷ [])
    -- 2
    ∷ example 8 T ((parent 0, 1) ∷ (parent 1, 3) ∷ (parent 2, 3) ∷ (parent 3, 3) ∷ (rank 3, 2) ∷ (amount 3, 15) ∷ (steps, 2) ∷ [])
    -- 3
    ∷ example 8 (T ++ (Find 0 ∷ [])) ((number, 0) ∷ (key, 3) ∷ (steps, 2) ∷ (parent 0, 3) ∷ [])
    ∷ example 8 (T ++ (Find 0 ∷ Find 0 ∷ [])) ((number, 0) ∷ (key, 3) ∷ (steps, 1) ∷ [])
    -- 4
    ∷ example 8 (T ++ (Join 0 0 ∷ [])) ((number, 0) ∷ (steps, 3) ∷ (amount 3, 15) ∷ [])
    -- 5
    ∷ example 8 (T ++ (Snapshot ∷ Find 0 ∷ [])) ((used, 1) ∷ (entryKind 0, 2) ∷ (entryKey 0, 0) ∷ (entryParent 0, 1) ∷ [])
    ∷ example 8 (T ++ (Snapshot ∷ Find 0 ∷ Rollback 1 ∷ [])) ((number, 0) ∷ (parent 0, 1) ∷ [])
    -- 6
    ∷ example 0 (T ++ (Snapshot ∷ Find 0 ∷ [])) ((number, 3) ∷ (parent 0, 1) ∷ [])
    ∷ example 0 (T ++ (Snapshot ∷ Find 0 ∷ Find 1 ∷ [])) ((number, 0) ∷ [])
    -- 7
    ∷ example 8 (T ++ (Post 3 9 0 ∷ New 7 0 ∷ Join 0 4 ∷ [])) ((number, 4) ∷ (parent 0, 3) ∷ [])
    -- 8
    ∷ example 8 (New 0 4294967295 ∷ New 0 1 ∷ Join 0 1 ∷ []) ((number, 0) ∷ (amount 1, 4294967296) ∷ [])
    -- 9
    ∷ example 8 (New 0 18446744073709551615 ∷ New 0 1 ∷ Join 0 1 ∷ []) ((number, 5) ∷ [])
    -- 10
    ∷ example 8 ten ((number, 0) ∷ (amount 0, 12) ∷ (owner 0, 9) ∷ [])
    ∷ example 8 (ten ++ (Commit 2 ∷ [])) ((number, 0) ∷ (amount 0, 12) ∷ [])
    ∷ example 8 (ten ++ (Commit 2 ∷ Rollback 1 ∷ [])) ((number, 0) ∷ (amount 0, 5) ∷ [])
    -- 11
    ∷ example 8 (Snapshot ∷ Snapshot ∷ Rollback 1 ∷ []) ((number, 6) ∷ [])
    -- 12
    ∷ example 8 (Snapshot ∷ Rollback 1 ∷ Snapshot ∷ Rollback 1 ∷ []) ((number, 6) ∷ [])
    -- 13
    ∷ example 8 (Find 0 ∷ []) ((number, 1) ∷ [])
    ∷ []

-- Two more that 01's rules fix and its examples don't reach: a walk of three steps rewrites and logs the row nearest the root first,
-- and leaves the row just below the root; a commit takes no serial back.
abbrev eight : List Call
eight =
    New 0 1 ∷ New 0 1 ∷ New 0 1 ∷ New 0 1 ∷ New 0 1 ∷ New 0 1 ∷ New 0 1 ∷ New 0 1
    ∷ Join 0 1 ∷ Join 2 3 ∷ Join 4 5 ∷ Join 6 7 ∷ Join 1 3 ∷ Join 5 7 ∷ Join 3 7 ∷ []

corners : List Example
corners =
    example 8 (eight ++ (Snapshot ∷ Find 0 ∷ []))
    ((number, 0) ∷ (key, 7) ∷ (steps, 3) ∷ (used, 2) ∷ (entryKey 0, 1) ∷ (entryParent 0, 3) ∷ (entryKey 1, 0) ∷ (entryParent 1, 1)
    ∷ (parent 0, 7) ∷ (parent 1, 7) ∷ (parent 3, 7) ∷ [])
    ∷ example 8 (Snapshot ∷ Commit 1 ∷ Snapshot ∷ []) ((number, 0) ∷ (token, 2) ∷ [])
    ∷ []

-- After each example's calls everything looked at is as 01 says.
examples-hold
    : map (λ (e : Example). map (λ (x : Look × ℕ). seen (after e) x.0) e.expected) examples
    ≡ map (λ (e : Example). map (λ (x : Look × ℕ). x.1) e.expected) examples
unfolding examples run seen step call bad merge path writes puts rewrites seek newest_first undoable undo
examples-hold = refl

corners-hold
    : map (λ (e : Example). map (λ (x : Look × ℕ). seen (after e) x.0) e.expected) corners
    ≡ map (λ (e : Example). map (λ (x : Look × ℕ). x.1) e.expected) corners
unfolding corners run seen step call bad merge path writes puts rewrites seek newest_first undoable undo
corners-hold = refl
