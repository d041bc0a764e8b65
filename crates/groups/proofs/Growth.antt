-- What a call takes up, in any table whatever: at most 32 entries of the log and one serial. What is lent keeps its lengths.
use Rattle.std.specs.Prelude.{◌≡◌, ◌||◌, ◌∷◌, ◌++◌, ◌+◌, ◌-◌, ◌≤◌, Ok, Err, None, Some}
use Rattle.kit.specs.Names.{refl, ◌∙◌, Bool, true, false, not, List, [], ℕ, zero, suc, length, length-set}
use Rattle.kit.specs.Names.{length-append, get_or, eqb, ltb, arith, le_refl, ltb-false}
use Rattle.rules.specs.Rules.{Call, UndoLog, Mark, Answer, Value, Merged, Sought, Head, MAX-REDIRECTS, MAX-OPEN, MAX-U64, Rows, Table, value_of, row_at}
use Rattle.rules.specs.Rules.{put_row, head_of, value, owner_of, range, said, Path, broken, to, from, path, Write, Memory, put, puts, memory_of}
use Rattle.rules.specs.Rules.{full, merge, Plan, plan, Walked, go_on, walk, walk_both, settle, unite, too_high, find_on, unioned_on, join_on}
use Rattle.rules.specs.Rules.{post_on, probe_on, probe_key_on, try_probe, innermost, unfit, stranded, not_innermost, seek, asked, snapshot, commit, since}
use Rattle.rules.specs.Rules.{undoable, undo, Outcome, outcome, carry, resting, rollback, new, live, one, two, bad_table, not_live, call, step}
use Rattle.rules.specs.declared.call.Call.TheVariants.{New, Len, Find, Unioned, Join, Post, Probe, ProbeKey, TryProbe, Snapshot, Rollback, Commit}
use Rattle.rules.specs.declared.call.Call.TheVariants.{Keys, Actions, Changes}
use Rattle.rules.specs.declared.table.UndoLog.TheVariants.{NewElem, SetElem, Unknown}
use Rattle.rules.specs.declared.table.MergeError.TheVariants.{Clash, TooMuch}
use Rattle.rules.proofs.PlanLaws.{rewrites_length}
use Rattle.groups.specs.Acceptance.{MOST-LOGGED}
use Rattle.groups.proofs.Tools.{on_cond}

-- ---- a walk is short

abbrev Short : ℕ → Path → Type 0
Short n broken = Unit {0}
Short n (to root passed) = length passed ≤ n

from_short : (n key : ℕ) (p : Path) → Short n p → Short (suc n) (from key p)
from_short n key broken s = tt
from_short n key (to root passed) s = omega arith

path_short : (parents : List ℕ) (count left key : ℕ) → Short left (path parents count left key)
unfolding path
path_short parents count zero key =
    on_cond (Short 0) (ltb key count)
    (λ _. on_cond (Short 0) (eqb (get_or parents key 0) key) (λ _. le_refl 0) (λ _. tt)) (λ _. tt)
path_short parents count (suc left) key =
    let next : ℕ = get_or parents key 0 in
    on_cond (Short (suc left)) (ltb key count)
    (λ _. on_cond (Short (suc left)) (eqb next key) (λ _. omega arith)
    (λ _. from_short left key (path parents count left next) (path_short parents count left next))) (λ _. tt)

-- ---- a plan writes few rows

abbrev pub Few : ℕ → Plan → Type 0
Few n p = length p.todo ≤ n

goes_few : (n : ℕ) (rs : Rows) (next : Walked → Plan) (p : Path) → Short MAX-REDIRECTS p
    → ((w : Walked) → length w.todo ≤ 15 → Few n (next w)) → Few n (go_on rs next p)
goes_few n rs next broken s f = omega arith
goes_few n rs next (to root passed) s f = f _ (omega (arith, rewrites_length root passed))

walk_few : (n : ℕ) (rs : Rows) (count key : ℕ) (next : Walked → Plan) → ((w : Walked) → length w.todo ≤ 15 → Few n (next w))
    → Few n (walk rs count key next)
walk_few n rs count key next f =
    goes_few n rs next (path rs.parents count MAX-REDIRECTS key) (path_short rs.parents count MAX-REDIRECTS key) f

settle_few : (n : ℕ) (walked : List Write) (s : ℕ) (more : Value → List Write) (m : Merged)
    → ((v : Value) → length walked + length (more v) ≤ n) → length walked ≤ n → Few n (settle walked s more m)
settle_few n walked s more (Err Clash) f h = h
settle_few n walked s more (Err TooMuch) f h = h
settle_few n walked s more (Ok v) f h = omega (arith, length-append walked (more v), f v)

pub post_few : (rs : Rows) (count key : ℕ) (v : Value) → Few MOST-LOGGED (walk rs count key (post_on v))
post_few rs count key v = walk_few MOST-LOGGED rs count key (post_on v) (λ w h.
    settle_few MOST-LOGGED w.todo w.steps _ (merge (value_of (row_at w.rows w.root)) v) (λ _. omega arith) (omega arith))

unite_length : (rs : Rows) (a b : ℕ) (v : Value) → length (unite rs a b v) ≡ 2
unite_length rs a b v =
    let ra : ℕ = (row_at rs a).rank in
    let rb : ℕ = (row_at rs b).rank in
    on_cond (λ (ws : List Write). length ws ≡ 2) (ltb rb ra) (λ _. refl)
    (λ _. on_cond (λ (ws : List Write). length ws ≡ 2) (ltb ra rb) (λ _. refl) (λ _. refl))

two_few : (n : ℕ) (rs : Rows) (count a b : ℕ) (next : Walked → Walked → Plan)
    → ((v w : Walked) → length (v.todo ++ w.todo) ≤ 30 → Few n (next v w)) → Few n (walk_both rs count a b next)
two_few n rs count a b next f =
    walk_few n rs count a (λ v. walk v.rows count b (next v)) (λ v h.
    walk_few n v.rows count b (next v) (λ w h'. f v w (omega (arith, length-append v.todo w.todo))))

pub join_few : (rs : Rows) (count a b : ℕ) → Few MOST-LOGGED (walk_both rs count a b join_on)
join_few rs count a b = two_few MOST-LOGGED rs count a b join_on (λ v w h.
    on_cond (Few MOST-LOGGED) (eqb v.root w.root) (λ _. omega arith)
    (λ _. on_cond (Few MOST-LOGGED) (too_high w.rows v.root w.root) (λ _. omega arith)
    (λ _. settle_few MOST-LOGGED (v.todo ++ w.todo) (v.steps + w.steps) (unite w.rows v.root w.root)
    (merge (value_of (row_at w.rows v.root)) (value_of (row_at w.rows w.root)))
    (λ x. omega (arith, unite_length w.rows v.root w.root x)) (omega arith))))

-- ---- what is written and logged

-- From one memory to another, with n entries more at most.
record Longer (n : ℕ) (m m' : Memory) : Type 0 where
  used : m'.used ≤ m.used + n
  rows : length m'.rows.parents ≡ length m.rows.parents
  log : length m'.log ≡ length m.log

put_longer : (m : Memory) (w : Write) → Longer 1 m (put m w)
put_longer m w = record {
  used = on_cond (λ n. n ≤ m.used + 1) (eqb m.opened 0) (λ _. omega arith) (λ _. le_refl (m.used + 1));
  rows = simp length-set;
  log = on_cond (λ (l : List ℕ). length l ≡ length m.log) (eqb m.opened 0) (λ _. refl) (λ _. simp length-set);
}

puts_longer : (ws : List Write) (m : Memory) → Longer (length ws) m (puts m ws)
unfolding puts
puts_longer [] m = record { used = omega arith; rows = refl; log = refl }
puts_longer (w ∷ ws) m =
    let a = put_longer m w in
    let b = puts_longer ws (put m w) in
    record { used = omega (arith, a.used, b.used); rows = b.rows ∙ a.rows; log = b.log ∙ a.log }

undo_parents : (rs : Rows) (es : List UndoLog) → length (undo rs es).parents ≡ length rs.parents
unfolding undo
undo_parents rs [] = refl
undo_parents rs (NewElem key ∷ es) = undo_parents rs es
undo_parents rs (SetElem key old ∷ es) = undo_parents (put_row rs key old) es ∙ length-set rs.parents key old.parent
undo_parents rs (Unknown ∷ es) = undo_parents rs es

neither : (a b : Bool) → a || b ≡ false → a ≡ false
neither false b e = refl
neither true b e = e

-- ---- any call

pub record Grows (t : Table) (o : Outcome) : Type 0 where
  pub used : o.table.state.used ≤ t.state.used + MOST-LOGGED
  pub last : o.table.state.last ≤ t.state.last + 1
  pub rows : length o.table.rows.parents ≡ length t.rows.parents
  pub log : length o.table.log ≡ length t.log

module _ (t : Table) where
  still : (a : Answer) → Grows t (outcome a t)
  still a = record { used = omega arith; last = omega arith; rows = refl; log = refl }

  carry_grows : (p : Plan) → Few MOST-LOGGED p → Grows t (carry t p)
  carry_grows p f =
      let L = puts_longer p.todo (memory_of t) in
      on_cond (Grows t) (full (memory_of t) (length p.todo)) (λ _. still _)
      (λ _. record { used = omega (arith, L.used); last = omega arith; rows = L.rows; log = L.log })

  live_grows : (key : ℕ) (p : Plan) → Few MOST-LOGGED p → Grows t (live t key p)
  live_grows key p f = on_cond (Grows t) (not_live t key) (λ _. still _) (λ _. carry_grows p f)

  one_grows : (key : ℕ) (next : Walked → Plan) → Few MOST-LOGGED (walk t.rows t.state.count key next) → Grows t (one t key next)
  one_grows key next f = live_grows key (walk t.rows t.state.count key next) f

  -- A walk, and nothing written after it.
  looks : (key : ℕ) (reply : Walked → Answer) → Grows t (one t key (λ w. plan (reply w) w.todo))
  looks key reply =
      let next : Walked → Plan = λ w. plan (reply w) w.todo in
      one_grows key next (walk_few MOST-LOGGED t.rows t.state.count key next (λ w h. omega arith))

  two_grows : (a b : ℕ) (next : Walked → Walked → Plan) → Few MOST-LOGGED (walk_both t.rows t.state.count a b next)
      → Grows t (two t a b next)
  two_grows a b next f =
      on_cond (Grows t) (not_live t a || not_live t b) (λ _. still _) (λ _. carry_grows (walk_both t.rows t.state.count a b next) f)

  new_grows : (v : Value) → Grows t (new t v)
  new_grows v =
      on_cond (Grows t) (eqb t.state.count (length t.rows.parents)) (λ _. still _)
      (λ _. on_cond (Grows t) (full (memory_of t) 1) (λ _. still _)
      (λ _. record {
        used = on_cond (λ n. n ≤ t.state.used + MOST-LOGGED) (eqb t.state.«open» 0) (λ _. omega arith) (λ _. omega arith);
        last = omega arith;
        rows = simp length-set;
        log = on_cond (λ (l : List ℕ). length l ≡ length t.log) (eqb t.state.«open» 0) (λ _. refl) (λ _. simp length-set);
      }))

  asked_grows : (reply : Mark → Answer) (s : Sought) → Grows t (resting t (asked t.state reply s))
  asked_grows reply None = still _
  asked_grows reply (Some m) =
      on_cond (λ r. Grows t (resting t r)) (unfit (head_of t.state) m) (λ _. still _) (λ _. still _)

  snapshot_grows : Grows t (resting t (snapshot t.state))
  snapshot_grows =
      on_cond (λ r. Grows t (resting t r)) (eqb t.state.«open» MAX-OPEN) (λ _. still _)
      (λ _. on_cond (λ r. Grows t (resting t r)) (eqb t.state.last MAX-U64) (λ _. still _)
      (λ _. record { used = omega arith; last = omega arith; rows = refl; log = refl }))

  commit_grows : (token : ℕ) → Grows t (resting t (commit t.state token))
  commit_grows token =
      let h : Head = head_of t.state in
      let m : Mark = innermost t.state in
      on_cond (λ r. Grows t (resting t r)) (not_innermost t.state token) (λ _. still _)
      (λ _. on_cond (λ r. Grows t (resting t r)) (unfit h m || stranded h m) (λ _. still _)
      (λ _. record {
        used = on_cond (λ n. n ≤ t.state.used + MOST-LOGGED) (eqb t.state.«open» 1) (λ _. omega arith) (λ _. omega arith);
        last = omega arith;
        rows = refl;
        log = refl;
      }))

  rollback_grows : (token : ℕ) → Grows t (rollback t token)
  rollback_grows token =
      let h : Head = head_of t.state in
      let m : Mark = innermost t.state in
      let es : List UndoLog = since t.log h m in
      on_cond (Grows t) (not_innermost t.state token) (λ _. still _)
      (λ _. on_cond (Grows t) (unfit h m || not (undoable m.keys h.count es)) (λ _. still _)
      (λ e. record {
        used = omega (arith, ltb-false h.used m.log_len (neither (ltb h.used m.log_len) _ (neither (unfit h m) _ e)));
        last = omega arith;
        rows = undo_parents t.rows es;
        log = refl;
      }))

  call_grows : (c : Call) → Grows t (call t c)
  unfolding call
  call_grows (New owner amount) = new_grows (value (owner_of owner) amount)
  call_grows Len = still _
  call_grows (Find key) = looks key (λ w. (find_on w).answer)
  call_grows (Unioned a b) =
      two_grows a b unioned_on (two_few MOST-LOGGED t.rows t.state.count a b unioned_on (λ v w h. omega arith))
  call_grows (Join a b) = two_grows a b join_on (join_few t.rows t.state.count a b)
  call_grows (Post key owner amount) =
      let v : Value = value (owner_of owner) amount in one_grows key (post_on v) (post_few t.rows t.state.count key v)
  call_grows (Probe key) = looks key (λ w. (probe_on w).answer)
  call_grows (ProbeKey key) = looks key (λ w. (probe_key_on w).answer)
  call_grows (TryProbe key) = live_grows key (try_probe t.rows key) (omega arith)
  call_grows Snapshot = snapshot_grows
  call_grows (Rollback token) = rollback_grows token
  call_grows (Commit token) = commit_grows token
  call_grows (Keys token) = asked_grows (λ m. range m.keys t.state.count) (seek t.state token t.state.«open»)
  call_grows (Actions token) = asked_grows (λ m. range m.log_len t.state.used) (seek t.state token t.state.«open»)
  call_grows (Changes token) =
      asked_grows (λ m. said (ltb m.log_len t.state.used) 0) (seek t.state token t.state.«open»)

  pub grows : (c : Call) → Grows t (step t c)
  unfolding step
  grows c = on_cond (Grows t) (bad_table t) (λ _. still _) (λ _. call_grows c)
