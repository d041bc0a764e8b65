-- The undo log: undoing down to a mark gives back the very rows below the count that the mark was taken over, and what is logged
-- keeps it so.
use Rattle.std.specs.Prelude.{◌≡◌, ◌∷◌, ◌++◌, ◌≢◌, ◌+◌, ◌-◌, ◌*◌, ◌≤◌, ◌<◌}
use Rattle.kit.specs.Names.{refl, sym, ap, ◌∙◌, true, true≢false, and-eq-true_iff, List, [], ℕ, zero, suc, length, eqb, ltb, arith, le_refl, eqb-true}
use Rattle.kit.specs.Names.{ltb-true, eq-eqb, ne_eqb, lt-ltb}
use Rattle.rules.specs.Rules.{UndoLog, Mark, Row, ENTRY, Rows, Log, row_at, put_row, entry_at, put_entry, WideRows, WideLog, Write, place, write, Memory, logged, put}
use Rattle.rules.specs.Rules.{puts, newest_first, undoable, reversed, undo}
use Rattle.rules.specs.declared.table.UndoLog.TheVariants.{NewElem, SetElem, Unknown}
use Rattle.rules.proofs.RowLaws.{undone}
use Rattle.rules.proofs.EntryLaws.{changed_back}
use Rattle.rules.proofs.ReadLaws.{row_read, row_miss, wide_put, entry_miss, wide_entry}
use Rattle.groups.specs.Groups.{Deed}
use Rattle.groups.specs.Track.{Saved}
use Rattle.groups.specs.Stands.{Made, Alike, since_mark, Returns, LeadsBack}
use Rattle.groups.proofs.Tools.{by_same}
use Rattle.groups.proofs.Forest.{shows_alike}
use Rattle.groups.proofs.Walks.{Inside}

-- ---- rows that are the same below a count

alike_put : (n room : ℕ) (rs rs' : Rows) (i : ℕ) (r : Row) → WideRows rs room → WideRows rs' room → i < room → Alike n rs rs'
    → Alike n (put_row rs i r) (put_row rs' i r)
alike_put n room rs rs' i r w w' h a j q =
    by_same j i
    (λ e. rw e (row_read rs i r room w h ∙ sym (row_read rs' i r room w' h)))
    (λ d. row_miss rs i r j d ∙ a j q ∙ sym (row_miss rs' i r j d))

-- ---- entries undone

pub undo_append : (rs : Rows) (es fs : List UndoLog) → undo rs (es ++ fs) ≡ undo (undo rs es) fs
unfolding undo
undo_append rs [] fs = refl
undo_append rs (e ∷ es) fs = undo_append (reversed rs e) es fs

pub undoable_append : (keys mid count : ℕ) (es fs : List UndoLog) → undoable mid count es ≡ true → undoable keys mid fs ≡ true
    → undoable keys count (es ++ fs) ≡ true
unfolding undoable
undoable_append keys mid count [] fs p q = rw (eqb-true count mid p) q
undoable_append keys mid count (NewElem key ∷ es) fs p q =
    let (a, b) = (and-eq-true_iff (eqb (key + 1) count) (undoable mid key es)).0 p in rw a (undoable_append keys mid key es fs b q)
undoable_append keys mid count (SetElem key old ∷ es) fs p q =
    let (a, b) = (and-eq-true_iff (ltb key count) (undoable mid count es)).0 p in rw a (undoable_append keys mid count es fs b q)
undoable_append keys mid count (Unknown ∷ es) fs p q = absurd (true≢false (sym p))

pub undoable_le : (keys count : ℕ) (es : List UndoLog) → undoable keys count es ≡ true → keys ≤ count
unfolding undoable
undoable_le keys count [] p = omega (arith, eqb-true count keys p)
undoable_le keys count (NewElem key ∷ es) p =
    let (a, b) = (and-eq-true_iff (eqb (key + 1) count) (undoable keys key es)).0 p in
    omega (arith, eqb-true (key + 1) count a, undoable_le keys key es b)
undoable_le keys count (SetElem key old ∷ es) p =
    undoable_le keys count es ((and-eq-true_iff (ltb key count) (undoable keys count es)).0 p).1
undoable_le keys count (Unknown ∷ es) p = absurd (true≢false (sym p))

wide_reversed : (rs : Rows) (room : ℕ) (e : UndoLog) → WideRows rs room → WideRows (reversed rs e) room
wide_reversed rs room (NewElem key) w = w
wide_reversed rs room (SetElem key old) w = wide_put rs key old room w
wide_reversed rs room Unknown w = w

pub wide_undo : (rs : Rows) (room : ℕ) (es : List UndoLog) → WideRows rs room → WideRows (undo rs es) room
unfolding undo
wide_undo rs room [] w = w
wide_undo rs room (e ∷ es) w = wide_undo (reversed rs e) room es (wide_reversed rs room e w)

-- Rows that are the same below the count are so after undoing.
pub undo_alike : (room keys count : ℕ) (es : List UndoLog) (rs rs' : Rows) → count ≤ room → WideRows rs room → WideRows rs' room
    → undoable keys count es ≡ true
    → Alike count rs rs' → Alike keys (undo rs es) (undo rs' es)
unfolding undo undoable
undo_alike room keys count [] rs rs' f w w' p a = λ i h. a i (omega (arith, eqb-true count keys p))
undo_alike room keys count (NewElem key ∷ es) rs rs' f w w' p a =
    let (b, c) = (and-eq-true_iff (eqb (key + 1) count) (undoable keys key es)).0 p in
    let q : key + 1 ≡ count = eqb-true (key + 1) count b in
    undo_alike room keys key es rs rs' (omega arith) w w' c (λ i h. a i (omega arith))
undo_alike room keys count (SetElem key old ∷ es) rs rs' f w w' p a =
    let (b, c) = (and-eq-true_iff (ltb key count) (undoable keys count es)).0 p in
    let q : key < count = ltb-true key count b in
    undo_alike room keys count es (put_row rs key old) (put_row rs' key old) f
    (wide_put rs key old room w) (wide_put rs' key old room w') c
    (alike_put count room rs rs' key old w w' (omega arith) a)
undo_alike room keys count (Unknown ∷ es) rs rs' f w w' p a = absurd (true≢false (sym p))

-- ---- which entries they are

pub newest_same : (l l' : Log) (base n used : ℕ) → base + n ≤ used → ((j : ℕ) → j < used → entry_at l' j ≡ entry_at l j)
    → newest_first l' base n ≡ newest_first l base n
unfolding newest_first
newest_same l l' base zero used h same = refl
newest_same l l' base (suc n) used h same =
    rw (same (base + n) (omega arith)) (ap (λ (z : List UndoLog). entry_at l (base + n) ∷ z)
    (newest_same l l' base n used (omega arith) same))

pub newest_more : (l l' : Log) (base used used' : ℕ) (e : UndoLog) → used' ≡ used + 1 → base ≤ used
    → ((j : ℕ) → j < used → entry_at l' j ≡ entry_at l j) → entry_at l' used ≡ e
    → newest_first l' base (used' - base) ≡ e ∷ newest_first l base (used - base)
unfolding newest_first
newest_more l l' base used used' e u h same hit =
    let q : used' - base ≡ suc (used - base) = omega arith in
    let z : base + (used - base) ≡ used = omega arith in
    rw (q, z, hit) (ap (λ (y : List UndoLog). e ∷ y) (newest_same l l' base (used - base) used (omega arith) same))

pub newest_split : (l : Log) (base m n k : ℕ) → k ≡ m + n → newest_first l base k ≡ newest_first l (base + m) n ++ newest_first l base m
unfolding newest_first
newest_split l base m zero k e = let q : k ≡ m = omega arith in rw q
newest_split l base m (suc n) zero e = absurd (omega arith)
newest_split l base m (suc n) (suc k) e =
    let q : base + k ≡ base + m + n = omega arith in
    rw q (ap (λ (z : List UndoLog). entry_at l (base + m + n) ∷ z) (newest_split l base m n k (omega arith)))

-- ---- the log leads back still

pub made_alike : {rs : Rows} (rs' : Rows) {count : ℕ} {ds : List Deed} → Alike count rs rs' → Made rs count ds → Made rs' count ds
made_alike {rs} rs' {count} {ds} a M =
    record { accepted = M.accepted; counted = M.counted; shows = shows_alike M.shows rs' (λ i h. a i (rw M.counted at h)) }

-- Back to the same mark, over the same rows, by another way.
returns_on : {room : ℕ} {m : Mark} {x : Saved} {taken : Rows} {used used' count count' : ℕ} {es es' : List UndoLog} {rs rs' : Rows} {O O' : Type 0}
    → Returns room m x taken used count es rs O → m.log_len ≤ used' → undoable m.keys count' es' ≡ true
    → Alike m.keys (undo rs' es') taken → O' → Returns room m x taken used' count' es' rs' O'
returns_on b past able very outwards =
    record { token = b.token; past = past; able = able; very = very; wide = b.wide; made = b.made; outwards = outwards }

module _ (room : ℕ) where
  -- In a log that is the same up to its used length.
  pub back_log : (l l' : Log) (marks : ℕ → Mark) (over : ℕ → Rows) (used count : ℕ) (rs : Rows) (xs : List Saved)
      → ((j : ℕ) → j < used → entry_at l' j ≡ entry_at l j) → LeadsBack room l marks over used count rs xs
      → LeadsBack room l' marks over used count rs xs
  back_log l l' marks over used count rs [] same b = b
  back_log l l' marks over used count rs (x ∷ xs) same b =
      let m : Mark = marks (length xs) in
      let p : m.log_len ≤ used = b.past in
      rw (newest_same l l' m.log_len (used - m.log_len) used (omega arith) same) (returns_on b p b.able b.very
      (back_log l l' marks over m.log_len m.keys (over (length xs)) xs (λ j h. same j (omega arith)) b.outwards))

  -- Under marks, and over rows, that are the same for the snapshots that are open.
  pub back_marks : (l : Log) (marks marks' : ℕ → Mark) (over over' : ℕ → Rows) (used count : ℕ) (rs : Rows) (xs : List Saved)
      → ((k : ℕ) → k < length xs → (marks' k ≡ marks k) × (over' k ≡ over k))
      → LeadsBack room l marks over used count rs xs → LeadsBack room l marks' over' used count rs xs
  back_marks l marks marks' over over' used count rs [] same b = b
  back_marks l marks marks' over over' used count rs (x ∷ xs) same b =
      let m : Mark = marks (length xs) in
      let (s, s') = same (length xs) (le_refl (suc (length xs))) in
      rw (s, s') (returns_on b b.past b.able b.very
      (back_marks l marks marks' over over' m.log_len m.keys (over (length xs)) xs (λ k h. same k (omega arith)) b.outwards))

  -- From rows that are the same below the count.
  pub back_alike : (l : Log) (marks : ℕ → Mark) (over : ℕ → Rows) (used count : ℕ) (rs rs' : Rows) (xs : List Saved) → count ≤ room
      → WideRows rs room → WideRows rs' room → Alike count rs rs'
      → LeadsBack room l marks over used count rs xs → LeadsBack room l marks over used count rs' xs
  back_alike l marks over used count rs rs' [] f w w' a b = b
  back_alike l marks over used count rs rs' (x ∷ xs) f w w' a b =
      let m : Mark = marks (length xs) in
      let es : List UndoLog = since_mark l m used in
      returns_on b b.past b.able (λ i h. sym (undo_alike room m.keys count es rs rs' f w w' b.able a i h) ∙ b.very i h)
      b.outwards

  -- With one entry more, whose undoing gives back what it was before.
  pub back_entry : (l l' : Log) (marks : ℕ → Mark) (over : ℕ → Rows) (used used' count count' : ℕ) (rs rs' : Rows) (x : Saved) (xs : List Saved)
      → (e : UndoLog) → used' ≡ used + 1 → ((j : ℕ) → j < used → entry_at l' j ≡ entry_at l j) → entry_at l' used ≡ e → reversed rs' e ≡ rs
      → ((keys : ℕ) (es : List UndoLog) → undoable keys count es ≡ true → undoable keys count' (e ∷ es) ≡ true)
      → LeadsBack room l marks over used count rs (x ∷ xs) → LeadsBack room l' marks over used' count' rs' (x ∷ xs)
  unfolding undo
  back_entry l l' marks over used used' count count' rs rs' x xs e u same hit un able b =
      let m : Mark = marks (length xs) in
      let p : m.log_len ≤ used = b.past in
      let es : List UndoLog = since_mark l m used in
      let q : since_mark l' m used' ≡ e ∷ es =
      newest_more l l' m.log_len used used' e u p same hit in
      let r : undo rs' (e ∷ es) ≡ undo rs es = ap (λ (z : Rows). undo z es) un in
      rw q (returns_on b (omega arith) (able m.keys es b.able) (rw r b.very)
      (back_log l l' marks over m.log_len m.keys (over (length xs)) xs (λ j h. same j (omega arith)) b.outwards))

  -- The innermost mark but one leads back over the entries of both.
  pub back_commit : (l : Log) (marks : ℕ → Mark) (over : ℕ → Rows) (used count : ℕ) (rs : Rows) (x y : Saved) (zs : List Saved)
      → count ≤ room
      → WideRows rs room → LeadsBack room l marks over used count rs (x ∷ y ∷ zs) → LeadsBack room l marks over used count rs (y ∷ zs)
  back_commit l marks over used count rs x y zs f w b =
      let b' = b.outwards in
      let m : Mark = marks (length (y ∷ zs)) in
      let m' : Mark = marks (length zs) in
      let p : m.log_len ≤ used = b.past in
      let p' : m'.log_len ≤ m.log_len = b'.past in
      let young : List UndoLog = since_mark l m used in
      let old : List UndoLog = since_mark l m' m.log_len in
      let z : m'.log_len + (m.log_len - m'.log_len) ≡ m.log_len = omega arith in
      let q : since_mark l m' used ≡ young ++ old =
      newest_split l m'.log_len (m.log_len - m'.log_len) (used - m.log_len) (used - m'.log_len) (omega arith)
      ∙ ap (λ (n : ℕ). newest_first l n (used - m.log_len) ++ old) z in
      let fits : m.keys ≤ room = omega (arith, undoable_le m.keys count young b.able) in
      rw q (returns_on b' (omega arith) (undoable_append m'.keys m.keys count young old b.able b'.able)
      (rw (undo_append rs young old) (λ i h.
      undo_alike room m'.keys m.keys old (undo rs young) (over (length (y ∷ zs))) fits (wide_undo rs room young w) b.wide b'.able b.very
      i h ∙ b'.very i h)) b'.outwards)

  -- No open mark is past the used log or the count.
  pub back_fits : (l : Log) (marks : ℕ → Mark) (over : ℕ → Rows) (used count : ℕ) (rs : Rows) (xs : List Saved)
      → LeadsBack room l marks over used count rs xs
      → (k : ℕ) → k < length xs → ((marks k).log_len ≤ used) × ((marks k).keys ≤ count)
  back_fits l marks over used count rs [] b k h = absurd (omega arith)
  back_fits l marks over used count rs (x ∷ xs) b k h =
      let m : Mark = marks (length xs) in
      let p : m.log_len ≤ used = b.past in
      let below : m.keys ≤ count = undoable_le m.keys count (since_mark l m used) b.able in
      by_same k (length xs)
      (λ e. rw e (p, below))
      (λ d. let (q, q') = back_fits l marks over m.log_len m.keys (over (length xs)) xs b.outwards k
      (omega arith) in (omega arith, omega arith))

-- ---- what is logged leads back over what is written

-- A log of `entries` that leads back from these rows.
pub record Logged (room : ℕ) (marks : ℕ → Mark) (over : ℕ → Rows) (entries : ℕ) (l : Log) (used count : ℕ) (rs : Rows)
    (xs : List Saved) : Type 0 where
  pub wide : WideLog l entries
  pub fits : used ≤ entries
  pub back : LeadsBack room l marks over used count rs xs

module _ (room : ℕ) (marks : ℕ → Mark) (over : ℕ → Rows) (entries : ℕ) where
  -- One entry is logged, if a snapshot is open.
  pub log_one : (m : Memory) (count count' : ℕ) (rs rs' : Rows) (xs : List Saved) (e : UndoLog) → m.opened ≡ length xs
      → (m.opened ≢ 0 → m.used + 1 ≤ entries)
      → (m.used * ENTRY + ENTRY ≤ length m.log → entry_at (put_entry m.log m.used e) m.used ≡ e)
      → reversed rs' e ≡ rs → ((keys : ℕ) (es : List UndoLog) → undoable keys count es ≡ true → undoable keys count' (e ∷ es) ≡ true)
      → Logged room marks over entries m.log m.used count rs xs
      → Logged room marks over entries (logged e m).log (logged e m).used count' rs' xs
  log_one m count count' rs rs' [] e o free hit un able L =
      rw (eq-eqb m.opened 0 o) (record { wide = L.wide; fits = L.fits; back = L.back })
  log_one m count count' rs rs' (x ∷ xs) e o free hit un able L =
      let busy : m.opened ≢ 0 = λ z. omega arith in
      let left : m.used + 1 ≤ entries = free busy in
      rw (ne_eqb m.opened 0 busy) (record {
        wide = wide_entry m.log m.used e entries L.wide;
        fits = left;
        back =
            back_entry room m.log (put_entry m.log m.used e) marks over m.used (m.used + 1) count count' rs rs' x xs e refl
            (λ j h. entry_miss m.log m.used e j (λ z. omega arith)) (hit (omega (arith, L.wide))) un able L.back;
      })

  -- A row is written, its old row logged.
  log_put : (m : Memory) (count : ℕ) (xs : List Saved) (w : Write) → m.opened ≡ length xs → (m.opened ≢ 0 → m.used + 1 ≤ entries)
      → place w < count
      → Logged room marks over entries m.log m.used count m.rows xs
      → Logged room marks over entries (put m w).log (put m w).used count (put m w).rows xs
  unfolding undoable
  log_put m count xs w o free h L =
      let rs : Rows = m.rows in
      let i : ℕ = place w in
      log_one m count count rs (write rs w) xs (SetElem i (row_at rs i)) o free (λ f. changed_back m.log m.used i f rs i) (undone rs w)
      (λ keys es p. rw (lt-ltb i count h) p) L

  pub log_puts : (ws : List Write) (m : Memory) (count : ℕ) (xs : List Saved) → m.opened ≡ length xs
      → (m.opened ≢ 0 → m.used + length ws ≤ entries) → Inside count ws
      → Logged room marks over entries m.log m.used count m.rows xs
      → Logged room marks over entries (puts m ws).log (puts m ws).used count (puts m ws).rows xs
  unfolding puts
  log_puts [] m count xs o free i L = L
  log_puts (w ∷ ws) m count xs o free i L =
      log_puts ws (put m w) count xs o
      (λ b. let f : m.used + suc (length ws) ≤ entries = free b in rw (ne_eqb m.opened 0 b) (omega arith)) i.1
      (log_put m count xs w o (λ b. let f : m.used + suc (length ws) ≤ entries = free b in omega arith) i.0 L)
