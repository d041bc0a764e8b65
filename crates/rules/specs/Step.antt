-- Document 01, call by call: the order of refusals is "9, then 1 (first key, then second), 6 or 11, 7, 10, 2, 8, 3, 4, 5."
use Rattle.std.specs.Prelude.{◌||◌, ◌+◌}
use Rattle.kit.specs.Names.{Bool, not, ℕ, length, eqb, leb}
use Rattle.rules.specs.declared.call.Call.{Call}
use Rattle.rules.specs.declared.call.Call.TheVariants.{New, Len, Find, Unioned, Join, Post, Probe, ProbeKey, TryProbe, Snapshot, Rollback, Commit, Keys, Actions, Changes}
use Rattle.rules.specs.declared.call.Answered.{Answered}
use Rattle.rules.specs.declared.table.Value.{Value}
use Rattle.rules.specs.Numbers.{DONE, NO-KEY, KEYS-FULL, LOG-FULL, NOT-INNERMOST, BROKEN-TABLE, BAD-STATE}
use Rattle.rules.specs.Lent.{Table, table, owner_of, value, row, head, head_of, with_head}
use Rattle.rules.specs.Answer.{refusal, found}
use Rattle.rules.specs.Write.{memory_of, push, full}
use Rattle.rules.specs.Plan.{Plan, Walked, walk, walk_both, find_on, unioned_on, join_on, post_on, probe_on, probe_key_on, try_probe}
use Rattle.rules.specs.Tokens.{len, snapshot, commit, keys_since, actions_since, has_changes, innermost, not_innermost, unfit, since, undoable, undo, rolled_back}
use Rattle.rules.specs.Refusal.{Outcome, outcome, refuse, carry, bad_table}

-- NO_KEY: "a named key is not below the count"
abbrev pub not_live : Table → ℕ → Bool
not_live t key = leb t.state.count key

-- The table with one key more, a root of rank 0.
abbrev pub grown : Table → Value → Table
grown t v =
    let key = t.state.count in
    let m = push (memory_of t) key (row key 0 v) in
    table m.rows m.log (with_head t.state (head (key + 1) m.used t.state.«open»))

abbrev pub new : Table → Value → Outcome
new t v =
    refuse (eqb t.state.count (length t.rows.parents)) KEYS-FULL t
    (refuse (full (memory_of t) 1) LOG-FULL t
    (outcome (found t.state.count 0) (grown t v)))

-- A call on rows that names one key, or two: what is made of the walks is carried out.
abbrev pub live : Table → ℕ → Plan → Outcome
live t key p = refuse (not_live t key) NO-KEY t (carry t p)

abbrev pub one : Table → ℕ → (Walked → Plan) → Outcome
one t key next = live t key (walk t.rows t.state.count key next)

abbrev pub two : Table → ℕ → ℕ → (Walked → Walked → Plan) → Outcome
two t a b next = refuse (not_live t a || not_live t b) NO-KEY t (carry t (walk_both t.rows t.state.count a b next))

-- A call that leaves rows and log alone.
abbrev pub resting : Table → Answered → Outcome
resting t r = outcome r.answer (table t.rows t.log r.state)

abbrev pub rollback : Table → ℕ → Outcome
rollback t token =
    let s = t.state in
    let m = innermost s in
    let es = since t.log (head_of s) m in
    refuse (not_innermost s token) NOT-INNERMOST t
    (refuse (unfit (head_of s) m || not (undoable m.keys s.count es)) BROKEN-TABLE t
    (outcome (refusal DONE) (table (undo t.rows es) t.log (with_head s (rolled_back (head_of s) m)))))

-- A call on a table whose state and lent parts are not bad.
unfoldable pub call : Table → Call → Outcome
call t (New owner amount) = new t (value (owner_of owner) amount)
call t Len = resting t (len t.state)
call t (Find key) = one t key find_on
call t (Unioned a b) = two t a b unioned_on
call t (Join a b) = two t a b join_on
call t (Post key owner amount) = one t key (post_on (value (owner_of owner) amount))
call t (Probe key) = one t key probe_on
call t (ProbeKey key) = one t key probe_key_on
call t (TryProbe key) = live t key (try_probe t.rows key)
call t Snapshot = resting t (snapshot t.state)
call t (Rollback token) = rollback t token
call t (Commit token) = resting t (commit t.state token)
call t (Keys token) = resting t (keys_since t.state token)
call t (Actions token) = resting t (actions_since t.state token)
call t (Changes token) = resting t (has_changes t.state token)

-- Any call on any table whatever: BAD_STATE comes before all else.
unfoldable pub step : Table → Call → Outcome
step t c = refuse (bad_table t) BAD-STATE t (call t c)
