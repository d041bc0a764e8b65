-- A table that is not bad stays so, whatever call is made on it, but for one thing. Assumes nothing.
use Rattle.std.specs.Prelude.{◌≡◌, ◌||◌, ◌∷◌, ◌+◌, ◌-◌, ◌≤◌}
use Rattle.kit.specs.Names.{refl, sym, ap, ◌∙◌, subst⁻¹, Bool, true, false, cond, not, List, [], ℕ, suc, zero-le}
use Rattle.kit.specs.Names.{length, length-set, eqb, ltb, arith, ℕ_discrete, eq-eqb, ne_eqb, ltb-false, eqb-false}
use Rattle.rules.specs.Rules.{Answer, Answered, Call, Mark, Row, Sought, State, UndoLog, Value, KEYS-FULL, LOG-FULL, NO-KEY, NOT-INNERMOST, TOO-DEEP, BROKEN-TABLE}
use Rattle.rules.specs.Rules.{SERIALS-SPENT, MAX-OPEN, MAX-U64, Rows, Log, Table, entries, row, row_at, put_row, put_entry, value, owner_of, head_of, range, said}
use Rattle.rules.specs.Rules.{refuse_state, Memory, Write, place, edit, logged, put, puts, memory_of, full, Plan, Walked, walk, walk_both, find_on, unioned_on, join_on}
use Rattle.rules.specs.Rules.{post_on, probe_on, probe_key_on, try_probe, innermost, not_innermost, unfit, stranded, seek, asked, ask, snapshot, commit, len, since}
use Rattle.rules.specs.Rules.{undoable, reversed, undo, Outcome, refuse, carry, Sizes, sizes_of, stray, bad_table, not_live, new, live, one, two, resting}
use Rattle.rules.specs.Rules.{rollback, call, step, outcome, refusal, BAD-STATE}
use Rattle.rules.specs.declared.call.Call.TheVariants.{New, Len, Find, Unioned, Join, Post, Probe, ProbeKey, TryProbe, Snapshot, Rollback, Commit, Keys, Actions, Changes}
use Rattle.std.specs.Prelude.{None, Some}
use Rattle.std.proofs.lemmas.Bool.{cond_both, or_parts}
use Rattle.rules.specs.declared.table.UndoLog.TheVariants.{NewElem, SetElem, Unknown}
use Rattle.rules.proofs.StateLaws.{Roomy, roomy_bad, good_roomy, bad_good}

-- ---- what is written leaves the lent parts as long as they were

row_long : (rs : Rows) (l : Log) (i : ℕ) (r : Row) → sizes_of (put_row rs i r) l ≡ sizes_of rs l
row_long rs l i r = simp length-set

entry_long : (rs : Rows) (l : Log) (b : Bool) (u : ℕ) (e : UndoLog) → sizes_of rs (cond b l (put_entry l u e)) ≡ sizes_of rs l
entry_long rs l true u e = refl
entry_long rs l false u e = simp length-set

-- A row, and what is logged of it.
logged_long : (m : Memory) (e : UndoLog) (i : ℕ) (r : Row) → sizes_of (put_row m.rows i r) (logged e m).log ≡ sizes_of m.rows m.log
logged_long m e i r = row_long m.rows (logged e m).log i r ∙ entry_long m.rows m.log (eqb m.opened 0) m.used e

pub puts_long : (m : Memory) (ws : List Write) → sizes_of (puts m ws).rows (puts m ws).log ≡ sizes_of m.rows m.log
unfolding puts
puts_long m [] = refl
puts_long m (w ∷ ws) =
    let old = row_at m.rows (place w) in
    puts_long (put m w) ws ∙ logged_long m (SetElem (place w) old) (place w) (edit w old)

reversed_long : (rs : Rows) (l : Log) (e : UndoLog) → sizes_of (reversed rs e) l ≡ sizes_of rs l
reversed_long rs l (NewElem key) = refl
reversed_long rs l (SetElem key old) = row_long rs l key old
reversed_long rs l Unknown = refl

pub undo_long : (rs : Rows) (l : Log) (es : List UndoLog) → sizes_of (undo rs es) l ≡ sizes_of rs l
unfolding undo
undo_long rs l [] = refl
undo_long rs l (e ∷ es) = undo_long (reversed rs e) l es ∙ reversed_long rs l e

-- ---- how much of the log is used then

one_more : (b : Bool) (u n : ℕ) → cond b (cond b u (u + 1)) (cond b u (u + 1) + n) ≡ cond b u (u + suc n)
one_more true u n = refl
one_more false u n = omega arith

-- An entry for each write, where a snapshot is open.
pub puts_used : (m : Memory) (ws : List Write) → (puts m ws).used ≡ cond (eqb m.opened 0) m.used (m.used + length ws)
unfolding puts
puts_used m [] = none (eqb m.opened 0) m.used
  where
    none : (b : Bool) (u : ℕ) → u ≡ cond b u (u + 0)
    none true u = refl
    none false u = omega arith
puts_used m (w ∷ ws) = puts_used (put m w) ws ∙ one_more (eqb m.opened 0) m.used (length ws)

-- What is not full has room for what is logged.
room : (o u size n : ℕ) → cond (eqb o 0) false (ltb (size - u) n) ≡ false → u ≤ size → cond (eqb o 0) u (u + n) ≤ size
room o u size n e h =
    elim (ℕ_discrete o 0) [
      | yes q ↦ rw (eq-eqb o 0 q) h
      | no d ↦ rw (ne_eqb o 0 d) (let k = ltb-false (size - u) n (rw (ne_eqb o 0 d) at e) in omega arith)
    ]

-- ---- what a call leaves

-- A state within what a table lends.
abbrev Within : Table → State → Type 0
Within t s = Roomy (sizes_of t.rows t.log) (head_of s)

-- As long, and the state within it still.
record Kept (t u : Table) : Type 0 where
  long : sizes_of u.rows u.log ≡ sizes_of t.rows t.log
  within : Within t u.state

module _ (t : Table) (R : Within t t.state) where
  kept_refuse : (b : Bool) (n : ℕ) (rest : Outcome) → (b ≡ false → Kept t rest.table) → Kept t (refuse b n t rest).table
  kept_refuse b n rest f = cond_both b _ _ (λ (o : Outcome). Kept t o.table) (λ _. record { long = refl; within = R }) f

  -- Any plan whatever: there is room for what it writes.
  kept_carry : (p : Plan) → Kept t (carry t p).table
  kept_carry p =
      let m = memory_of t in
      kept_refuse (full m (length p.todo)) LOG-FULL _ (λ e. record {
        long = puts_long m p.todo;
        within = record {
          level = R.level;
          count = R.count;
          used = rw (puts_used m p.todo) (room t.state.«open» t.state.used (entries t.log) (length p.todo) e R.used);
          opened = R.opened;
        };
      })

  -- A count other than the number of rows leaves one for the new key.
  kept_new : (v : Value) → Kept t (new t v).table
  kept_new v =
      let n : ℕ = t.state.count in
      kept_refuse (eqb n (length t.rows.parents)) KEYS-FULL _ (λ e.
      kept_refuse (full (memory_of t) 1) LOG-FULL _ (λ f.
      let d = eqb-false n (length t.rows.parents) e in
      record {
        long = logged_long (memory_of t) (NewElem n) n (row n 0 v);
        within = record {
          level = R.level;
          count = omega (arith, R.count, d);
          used = room t.state.«open» t.state.used (entries t.log) 1 f R.used;
          opened = R.opened;
        };
      }))

  -- A mark that is not unfit is within the state, whatever is undone.
  kept_rollback : (token : ℕ) → Kept t (rollback t token).table
  kept_rollback token =
      let s = t.state in
      let m = innermost s in
      let es = since t.log (head_of s) m in
      let low = ltb s.used m.log_len in
      let high = ltb s.count m.keys in
      kept_refuse (not_innermost s token) NOT-INNERMOST _ (λ _.
      kept_refuse (unfit (head_of s) m || not (undoable m.keys s.count es)) BROKEN-TABLE _ (λ e.
      let fit = or_parts low high (or_parts (unfit (head_of s) m) (not (undoable m.keys s.count es)) e).0 in
      record {
        long = undo_long t.rows t.log es;
        within = record {
          level = R.level;
          count = omega (arith, R.count, ltb-false s.count m.keys fit.1);
          used = omega (arith, R.used, ltb-false s.used m.log_len fit.0);
          opened = omega (arith, R.opened);
        };
      }))

  -- ---- a call that leaves rows and log alone

  kept_resting : (r : Answered) → Within t r.state → Kept t (resting t r).table
  kept_resting r w = record { long = refl; within = w }

  within_refuse : (b : Bool) (n : ℕ) (rest : Answered) → (b ≡ false → Within t rest.state) → Within t (refuse_state b n t.state rest).state
  within_refuse b n rest f = cond_both b _ _ (λ (r : Answered). Within t r.state) (λ _. R) f

  within_snapshot : Within t (snapshot t.state).state
  within_snapshot =
      let o : ℕ = t.state.«open» in
      within_refuse (eqb o MAX-OPEN) TOO-DEEP _ (λ e.
      within_refuse (eqb t.state.last MAX-U64) SERIALS-SPENT _ (λ _.
      record { level = R.level; count = R.count; used = R.used; opened = omega (arith, R.opened, eqb-false o MAX-OPEN e) }))

  within_commit : (token : ℕ) → Within t (commit t.state token).state
  within_commit token =
      let s = t.state in
      let h = head_of s in
      within_refuse (not_innermost s token) NOT-INNERMOST _ (λ _.
      within_refuse (unfit h (innermost s) || stranded h (innermost s)) BROKEN-TABLE _ (λ _.
      record {
        level = R.level;
        count = R.count;
        used = cond_both (eqb s.«open» 1) _ _ (λ (u : ℕ). u ≤ entries t.log) (λ _. zero-le) (λ _. R.used);
        opened = omega (arith, R.opened);
      }))

  within_asked : (reply : Mark → Answer) (found : Sought) → Within t (asked t.state reply found).state
  within_asked reply None = R
  within_asked reply (Some m) = within_refuse (unfit (head_of t.state) m) BROKEN-TABLE _ (λ _. R)

  kept_ask : (token : ℕ) (reply : Mark → Answer) → Kept t (resting t (ask t.state token reply)).table
  kept_ask token reply = kept_resting (ask t.state token reply) (within_asked reply (seek t.state token t.state.«open»))

  -- ---- any call

  kept_live : (key : ℕ) (p : Plan) → Kept t (live t key p).table
  kept_live key p = kept_refuse (not_live t key) NO-KEY _ (λ _. kept_carry p)

  kept_two : (a b : ℕ) (next : Walked → Walked → Plan) → Kept t (two t a b next).table
  kept_two a b next = kept_refuse (not_live t a || not_live t b) NO-KEY _ (λ _. kept_carry (walk_both t.rows t.state.count a b next))

  kept_one : (key : ℕ) (next : Walked → Plan) → Kept t (one t key next).table
  kept_one key next = kept_live key (walk t.rows t.state.count key next)

  kept_call : (c : Call) → Kept t (call t c).table
  unfolding call
  kept_call (New owner amount) = kept_new (value (owner_of owner) amount)
  kept_call Len = kept_resting (len t.state) R
  kept_call (Find key) = kept_one key find_on
  kept_call (Unioned a b) = kept_two a b unioned_on
  kept_call (Join a b) = kept_two a b join_on
  kept_call (Post key owner amount) = kept_one key (post_on (value (owner_of owner) amount))
  kept_call (Probe key) = kept_one key probe_on
  kept_call (ProbeKey key) = kept_one key probe_key_on
  kept_call (TryProbe key) = kept_live key (try_probe t.rows key)
  kept_call Snapshot = kept_resting (snapshot t.state) within_snapshot
  kept_call (Rollback token) = kept_rollback token
  kept_call (Commit token) = kept_resting (commit t.state token) (within_commit token)
  kept_call (Keys token) = kept_ask token (λ m. range m.keys t.state.count)
  kept_call (Actions token) = kept_ask token (λ m. range m.log_len t.state.used)
  kept_call (Changes token) = kept_ask token (λ m. said (ltb m.log_len t.state.used) 0)

kept_step : (t : Table) (c : Call) → bad_table t ≡ false → Kept t (step t c).table
unfolding step
kept_step t c g =
    let z = sizes_of t.rows t.log in
    let h = head_of t.state in
    rw g (kept_call t (good_roomy z h (bad_good z h g)) c)

-- Whatever call is made on a table that isn't bad: what it leaves is roomy still, and as long.
pub step_roomy : (t : Table) (c : Call) → bad_table t ≡ false
    → let u = (step t c).table in Roomy (sizes_of u.rows u.log) (head_of u.state)
step_roomy t c g =
    let k = kept_step t c g in
    subst⁻¹ (λ (z : Sizes). Roomy z (head_of (step t c).table.state)) k.long k.within

-- A bad table is left as it is.
left : (t : Table) (c : Call) → bad_table t ≡ true → t ≡ (step t c).table
unfolding step
left t c e = rw e

-- So whether a table is bad after a call needs no more than what was known before it and the head that it left.
pub bad_after : (t : Table) (c : Call) (b : Bool) → b ≡ bad_table t → let u = (step t c).table in (b || stray (head_of u.state)) ≡ bad_table u
bad_after t c true e = e ∙ ap bad_table (left t c (sym e))
bad_after t c false e = let u = (step t c).table in sym (roomy_bad (sizes_of u.rows u.log) (head_of u.state) (step_roomy t c (sym e)))

-- Where the table is bad, any call is refused.
pub refused_bad : (t : Table) (c : Call) → bad_table t ≡ true → outcome (refusal BAD-STATE) t ≡ step t c
unfolding step
refused_bad t c e = rw e
