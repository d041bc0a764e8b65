-- What a view shows: as many entries as its range has places, each the log's own, `Unknown` past them, and nothing where a call is
-- refused. Assumes nothing.
use Rattle.std.specs.Prelude.{◌≡◌, ◌∷◌, ◌+◌, ◌-◌, ◌*◌, ◌<◌, ◌≤◌, None, Some}
use Rattle.kit.specs.Names.{refl, ap, ◌∙◌, Bool, true, false, List, [], ℕ, zero, suc, length, get_or, take, drop, length-drop, arith}
use Rattle.rules.specs.Rules.{Answer, Sought, State, UndoLog, BROKEN-TABLE, ENTRY, Log, Table, entries, entry_at, head_of, range, answered, refuse_state, seek}
use Rattle.rules.specs.Rules.{unfit, asked, viewed, actions_view, outcome, sizes_of, bad_table, call, step}
use Rattle.rules.specs.declared.call.Call.TheVariants.{Actions}
use Rattle.rules.specs.declared.table.UndoLog.TheVariants.{Unknown}
use Rattle.rules.proofs.StateLaws.{bad_good}
use Rattle.extract.specs.Numbers.{lent_at, action_of}
use Rattle.actions.specs.View.{seen}

-- ---- a number of a part

taken : (l : List ℕ) (n i : ℕ) → i < n → get_or (take n l) i 0 ≡ get_or l i 0
taken l zero i h = absurd (omega arith)
taken [] (suc n) i h = refl
taken (x ∷ xs) (suc n) zero h = refl
taken (x ∷ xs) (suc n) (suc i) h = taken xs n i (omega arith)

dropped : (l : List ℕ) (a i : ℕ) → get_or (drop a l) i 0 ≡ get_or l (a + i) 0
dropped l zero i = let q : i ≡ 0 + i = omega arith in ap (λ (k : ℕ). get_or l k 0) q
dropped [] (suc a) i = refl
dropped (x ∷ xs) (suc a) i = let q : suc (a + i) ≡ suc a + i = omega arith in dropped xs a i ∙ ap (λ (k : ℕ). get_or (x ∷ xs) k 0) q

past : (l : List ℕ) (n i : ℕ) → n ≤ i → get_or (take n l) i 0 ≡ 0
past l zero i h = refl
past [] (suc n) i h = refl
past (x ∷ xs) (suc n) zero h = absurd (omega arith)
past (x ∷ xs) (suc n) (suc i) h = past xs n i (omega arith)

whole : (l : List ℕ) (n : ℕ) → n ≤ length l → length (take n l) ≡ n
whole l zero h = refl
whole [] (suc n) h = absurd (omega arith)
whole (x ∷ xs) (suc n) h = let k = whole xs n (omega arith) in omega (arith, k)

-- ---- an entry of a view

module _ (l : Log) (a e : ℕ) where
  number : (i j k : ℕ) → i < e - a → j < ENTRY → (a + i) * ENTRY + j ≡ k → get_or (viewed l a e) (i * ENTRY + j) 0 ≡ get_or l k 0
  number i j k h b q =
      let p : a * ENTRY + (i * ENTRY + j) ≡ k = omega (arith, q) in
      taken (drop (a * ENTRY) l) (e * ENTRY - a * ENTRY) (i * ENTRY + j) (omega (arith, h, b)) ∙ dropped l (a * ENTRY) (i * ENTRY + j) ∙ ap (λ (m : ℕ). get_or l m 0) p

  first : (i : ℕ) → i < e - a → get_or (viewed l a e) (i * ENTRY) 0 ≡ get_or l ((a + i) * ENTRY) 0
  first i h =
      let p : i * ENTRY ≡ i * ENTRY + 0 = omega arith in
      ap (λ (m : ℕ). get_or (viewed l a e) m 0) p ∙ number i 0 ((a + i) * ENTRY) h (omega arith) (omega arith)

  pub view_lent : (i : ℕ) → i < e - a → lent_at (viewed l a e) i ≡ lent_at l (a + i)
  view_lent i h =
      let b = (a + i) * ENTRY in
      rw (
        first i h,
        number i 1 (b + 1) h (omega arith) refl,
        number i 2 (b + 2) h (omega arith) refl,
        number i 3 (b + 3) h (omega arith) refl,
        number i 4 (b + 4) h (omega arith) refl,
        number i 5 (b + 5) h (omega arith) refl,
        number i 6 (b + 6) h (omega arith) refl,
      )

  pub view_entry : (i : ℕ) → i < e - a → entry_at (viewed l a e) i ≡ entry_at l (a + i)
  view_entry i h = ap {B = UndoLog} action_of (view_lent i h)

  pub view_past : (i : ℕ) → e - a ≤ i → entry_at (viewed l a e) i ≡ Unknown
  view_past i h = rw (past (drop (a * ENTRY) l) (e * ENTRY - a * ENTRY) (i * ENTRY) (omega (arith, h)))

  pub view_length : e ≤ entries l → entries (viewed l a e) ≡ e - a
  view_length h =
      let k = length-drop (a * ENTRY) l in
      let n = whole (drop (a * ENTRY) l) (e * ENTRY - a * ENTRY) (omega (arith, k, h)) in
      omega (arith, n)

-- ---- the view of what is answered

-- The answer's range gives the entries since the snapshot.
pub answer_seen : (before after : Table) (token : ℕ) (a : Answer) → outcome a after ≡ step before (Actions token) → actions_view before.log a ≡ seen before token
answer_seen before after token a e = ap {B = Log} (λ o. actions_view before.log o.answer) e

below : (s : State) (a : Answer) (n : ℕ) (b : Bool) → a.to ≤ n → (refuse_state b BROKEN-TABLE s (answered a s)).answer.to ≤ n
below s a n true h = omega arith
below s a n false h = h

asked_below : (s : State) (n : ℕ) → s.used ≤ n → (w : Sought) → (asked s (λ m. range m.log_len s.used) w).answer.to ≤ n
asked_below s n h None = omega arith
asked_below s n h (Some m) = below s (range m.log_len s.used) n (unfit (head_of s) m) h

judged_below : (t : Table) (token : ℕ) (b : Bool) → bad_table t ≡ b → (step t (Actions token)).answer.to ≤ entries t.log
unfolding step call
judged_below t token true q = rw q (let z : 0 ≤ entries t.log = omega arith in z)
judged_below t token false q =
    rw q (asked_below t.state (entries t.log) (bad_good (sizes_of t.rows t.log) (head_of t.state) q).used (seek t.state token t.state.«open»))

-- Of any table, the view is as long as the range that is answered.
pub seen_length : (t : Table) (token : ℕ) → entries (seen t token) ≡ (step t (Actions token)).answer.to - (step t (Actions token)).answer.from
seen_length t token =
    let a = (step t (Actions token)).answer in
    view_length t.log a.from a.to (judged_below t token (bad_table t) refl)
