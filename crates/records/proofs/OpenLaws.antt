-- A call opens and closes as many snapshots as what is written of it, on any table whatever. Assumes nothing.
use Rattle.std.specs.Prelude.{◌≡◌, ◌||◌, ◌∷◌, ◌≤◌, ◌<◌, None, Some}
use Rattle.kit.specs.Names.{refl, sym, ◌∙◌, Bool, true, false, cond, not, List, [], ℕ, length, eqb, ltb, add-one}
use Rattle.kit.specs.Names.{arith}
use Rattle.kit.specs.Names.{lt-ltb, eqb-false}
use Rattle.std.proofs.lemmas.Bool.{cond_both}
use Rattle.rules.specs.Rules.{Answer, Answered, Call, Mark, Sought, Value, DONE, KEYS-FULL, LOG-FULL, NO-KEY, NOT-INNERMOST, TOO-DEEP, BROKEN-TABLE}
use Rattle.rules.specs.Rules.{BAD-STATE, SERIALS-SPENT, MAX-OPEN, MAX-U64, Table, value, owner_of, head_of, range, said, memory_of, full, Plan, Walked}
use Rattle.rules.specs.Rules.{walk, walk_both, find_on, unioned_on, join_on, post_on, probe_on, probe_key_on, try_probe, innermost, not_innermost, unfit}
use Rattle.rules.specs.Rules.{stranded, seek, asked, ask}
use Rattle.rules.specs.Rules.{snapshot, commit, since, undoable, Outcome, refuse, carry, sizes_of, bad_table, not_live, new, live, one, two}
use Rattle.rules.specs.Rules.{resting, rollback, call, step}
use Rattle.rules.specs.declared.call.Call.TheVariants.{New, Len, Find, Unioned, Join, Post, Probe, ProbeKey, TryProbe, Snapshot, Rollback, Commit}
use Rattle.rules.specs.declared.call.Call.TheVariants.{Keys, Actions, Changes}
use Rattle.rules.proofs.StateLaws.{bad_good}
use Rattle.journal.specs.declared.entry.Entry.{Entry}
use Rattle.journal.specs.declared.entry.Entry.TheVariants.{EntrySnapshot, EntryRollback, EntryCommit}
use Rattle.journal.specs.Journal.{orderly, open_in}
use Rattle.journal.specs.Written.{entry_for}

-- ---- an outcome of a call with so many open before it, of which these entries would be written

abbrev done : List Entry → ℕ → List Entry
done es n = cond (eqb n DONE) es []

pub record Counted (before : ℕ) (es : List Entry) (n after : ℕ) : Type 0 where
  pub opened : after ≡ open_in before (done es n)
  pub ordered : orderly before (done es n) ≡ true

refused : (before : ℕ) (es : List Entry) (n : ℕ) → eqb n DONE ≡ false → Counted before es n before
unfolding open_in orderly
refused before es n e = record { opened = rw e; ordered = rw e }

-- Entries that open and close nothing.
abbrev Still : ℕ → List Entry → Type 0
Still n es = (open_in n es ≡ n) × (orderly n es ≡ true)

steady : (before : ℕ) (es : List Entry) (n after : ℕ) → Still before es → after ≡ before → Counted before es n after
unfolding open_in orderly
steady before es n after s e = let g = go (eqb n DONE) in record { opened = g.0; ordered = g.1 }
  where
    go : (b : Bool) → (after ≡ open_in before (cond b es [])) × (orderly before (cond b es []) ≡ true)
    go true = (e ∙ sym s.0, s.1)
    go false = (e, refl)

module _ (t : Table) where
  abbrev n : ℕ
  n = t.state.«open»

  -- ---- calls that open and close nothing

  abbrev Same : Outcome → Type 0
  Same o = o.table.state.«open» ≡ n

  same_refuse : (b : Bool) (k : ℕ) (rest : Outcome) → Same rest → Same (refuse b k t rest)
  same_refuse b k rest s = cond_both b _ _ Same (λ _. refl) (λ _. s)

  same_carry : (p : Plan) → Same (carry t p)
  same_carry p = same_refuse (full (memory_of t) (length p.todo)) LOG-FULL _ refl

  same_new : (v : Value) → Same (new t v)
  same_new v = same_refuse (eqb t.state.count (length t.rows.parents)) KEYS-FULL _ (same_refuse (full (memory_of t) 1) LOG-FULL _ refl)

  same_live : (key : ℕ) (p : Plan) → Same (live t key p)
  same_live key p = same_refuse (not_live t key) NO-KEY _ (same_carry p)

  same_one : (key : ℕ) (next : Walked → Plan) → Same (one t key next)
  same_one key next = same_live key (walk t.rows t.state.count key next)

  same_two : (a b : ℕ) (next : Walked → Walked → Plan) → Same (two t a b next)
  same_two a b next = same_refuse (not_live t a || not_live t b) NO-KEY _ (same_carry (walk_both t.rows t.state.count a b next))

  same_asked : (reply : Mark → Answer) (found : Sought) → (asked t.state reply found).state.«open» ≡ n
  same_asked reply None = refl
  same_asked reply (Some m) = cond_both (unfit (head_of t.state) m) _ _ (λ (r : Answered). r.state.«open» ≡ n) (λ _. refl) (λ _. refl)

  same_ask : (token : ℕ) (reply : Mark → Answer) → Same (resting t (ask t.state token reply))
  same_ask token reply = same_asked reply (seek t.state token n)

  -- ---- the three that do

  abbrev As : Entry → ℕ → ℕ → Type 0
  As e k after = Counted n (e ∷ []) k after

  some_open : (token : ℕ) → not_innermost t.state token ≡ false → 0 < n
  some_open token e = let d = eqb-false n 0 (go (eqb n 0) (cond (eqb (innermost t.state).serial token) false true) e) in omega arith
    where
      go : (b x : Bool) → cond b true x ≡ false → b ≡ false
      go true x q = q
      go false x q = refl

  counted_snapshot : n ≤ MAX-OPEN → Counted n (EntrySnapshot ∷ []) (snapshot t.state).answer.no (snapshot t.state).state.«open»
  unfolding open_in orderly
  counted_snapshot h =
      let P : Answered → Type 0 = λ r. As EntrySnapshot r.answer.no r.state.«open» in
      cond_both (eqb n MAX-OPEN) _ _ P (λ _. refused n (EntrySnapshot ∷ []) TOO-DEEP refl) (λ e.
      cond_both (eqb t.state.last MAX-U64) _ _ P (λ _. refused n (EntrySnapshot ∷ []) SERIALS-SPENT refl) (λ _.
      let low : n < MAX-OPEN = omega (arith, eqb-false n MAX-OPEN e) in
      record { opened = add-one n; ordered = rw (lt-ltb n MAX-OPEN low) }))

  counted_rollback : (token : ℕ) → As EntryRollback (rollback t token).answer.no (rollback t token).table.state.«open»
  unfolding open_in orderly
  counted_rollback token =
      let s = t.state in
      let m = innermost s in
      let P : Outcome → Type 0 = λ o. As EntryRollback o.answer.no o.table.state.«open» in
      cond_both (not_innermost s token) _ _ P (λ _. refused n (EntryRollback ∷ []) NOT-INNERMOST refl) (λ e.
      cond_both (unfit (head_of s) m || not (undoable m.keys s.count (since t.log (head_of s) m))) _ _ P
      (λ _. refused n (EntryRollback ∷ []) BROKEN-TABLE refl) (λ _.
      record { opened = refl; ordered = rw (lt-ltb 0 n (some_open token e)) }))

  counted_commit : (token : ℕ) → As EntryCommit (commit t.state token).answer.no (commit t.state token).state.«open»
  unfolding open_in orderly
  counted_commit token =
      let s = t.state in
      let P : Answered → Type 0 = λ r. As EntryCommit r.answer.no r.state.«open» in
      cond_both (not_innermost s token) _ _ P (λ _. refused n (EntryCommit ∷ []) NOT-INNERMOST refl) (λ e.
      cond_both (unfit (head_of s) (innermost s) || stranded (head_of s) (innermost s)) _ _ P (λ _. refused n (EntryCommit ∷ []) BROKEN-TABLE refl) (λ _.
      record { opened = refl; ordered = rw (lt-ltb 0 n (some_open token e)) }))

  -- ---- any call

  abbrev AsWritten : Call → Outcome → Type 0
  AsWritten c o = Counted n (entry_for c) o.answer.no o.table.state.«open»

  counted_call : n ≤ MAX-OPEN → (c : Call) → AsWritten c (call t c)
  unfolding call open_in orderly
  counted_call h (New owner amount) = steady n (entry_for (New owner amount)) _ _ (refl, refl) (same_new (value (owner_of owner) amount))
  counted_call h Len = steady n [] _ _ (refl, refl) refl
  counted_call h (Find key) = steady n [] _ _ (refl, refl) (same_one key find_on)
  counted_call h (Unioned a b) = steady n [] _ _ (refl, refl) (same_two a b unioned_on)
  counted_call h (Join a b) = steady n (entry_for (Join a b)) _ _ (refl, refl) (same_two a b join_on)
  counted_call h (Post key owner amount) =
      steady n (entry_for (Post key owner amount)) _ _ (refl, refl) (same_one key (post_on (value (owner_of owner) amount)))
  counted_call h (Probe key) = steady n [] _ _ (refl, refl) (same_one key probe_on)
  counted_call h (ProbeKey key) = steady n [] _ _ (refl, refl) (same_one key probe_key_on)
  counted_call h (TryProbe key) = steady n [] _ _ (refl, refl) (same_live key (try_probe t.rows key))
  counted_call h Snapshot = counted_snapshot h
  counted_call h (Rollback token) = counted_rollback token
  counted_call h (Commit token) = counted_commit token
  counted_call h (Keys token) = steady n [] _ _ (refl, refl) (same_ask token (λ m. range m.keys t.state.count))
  counted_call h (Actions token) = steady n [] _ _ (refl, refl) (same_ask token (λ m. range m.log_len t.state.used))
  counted_call h (Changes token) = steady n [] _ _ (refl, refl) (same_ask token (λ m. said (ltb m.log_len t.state.used) 0))

  pub counted : (c : Call) → AsWritten c (step t c)
  unfolding step
  counted c =
      cond_both (bad_table t) _ _ (AsWritten c) (λ _. refused n (entry_for c) BAD-STATE refl) (λ g.
      counted_call (bad_good (sizes_of t.rows t.log) (head_of t.state) g).opened c)
