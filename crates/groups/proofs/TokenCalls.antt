-- Snapshots, rollbacks, commits and questions: a table that stands for a history stands for it with the call.
use Rattle.std.specs.Prelude.{◌≡◌, ◌∷◌, ◌≢◌, ◌+◌, ◌-◌, ◌≤◌, ◌<◌}
use Rattle.kit.specs.Names.{refl, sym, ap, ◌∙◌, subst, false, List, [], ℕ, zero, suc, zero-le, length, length-set, eqb, get_or-set_same, get_or-set_other, arith}
use Rattle.kit.specs.Names.{le_refl, eqb-true, eqb-false, eq-eqb, ne_eqb, le-ltb}
use Rattle.rules.specs.Rules.{Call, Answer, Mark, State, UndoLog, DONE, MAX-OPEN, MAX-U64, Table, table, mark, mark_at, head, head_of, with_head, Rows, row_at, WideRows}
use Rattle.rules.specs.Rules.{refusal, marked, innermost, seek, unfit, stranded, snapshot, committed, commit, asked, ask, newest_first, since, undoable, undo}
use Rattle.rules.specs.Rules.{rolled_back, Outcome, resting, rollback}
use Rattle.rules.specs.declared.call.Call.TheVariants.{Snapshot, Rollback, Commit}
use Rattle.groups.specs.Groups.{Deed, at}
use Rattle.groups.specs.Track.{Calm, event, History, idle, act, Saved, restored, track, last_token, Orderly, Event, dropped, noted, newer, Innermost, Follows, undoes}
use Rattle.groups.specs.Stands.{Made, LeadsBack, Alike, over_after, StandsOver}
use Rattle.groups.proofs.Tools.{on_cond, cases}
use Rattle.groups.proofs.SumLaws.{at_hit, at_miss}
use Rattle.groups.proofs.Undoing.{undoable_le, wide_undo, made_alike, back_marks, back_alike, back_commit, back_fits}
use Rattle.groups.proofs.Plans.{calm}
use Rattle.groups.proofs.Kept.{Keeps, stands_with, keeps_idle, keeps_refused}

-- A rollback answered DONE gives back the very rows below the count that the innermost snapshot was taken over.
pub record Restores (over : ℕ → Rows) (t : Table) (o : Outcome) : Type 0 where
  pub rows : o.answer.no ≡ DONE → Alike o.table.state.count o.table.rows (over (t.state.«open» - 1))

module _ {over : ℕ → Rows} {t : Table} {h : History} (S : StandsOver over t h) where
  -- ---- calls that leave rows and log alone

  -- The mark that is set leads back to the rows as they are.
  back_marked : length (track h).saved < MAX-OPEN
      → LeadsBack S.room t.log (mark_at (marked t.state)) (at t.state.«open» t.rows over) t.state.used t.state.count t.rows
      (record { token = t.state.last + 1; deeds = (track h).now } ∷ (track h).saved)
  unfolding newest_first undoable undo
  back_marked f =
      let s : State = t.state in
      let xs : List Saved = (track h).saved in
      let new-mark : Mark = mark (s.last + 1) s.used s.count in
      let here : mark_at (marked s) (length xs) ≡ new-mark =
      subst (λ (k : ℕ). mark_at (marked s) k ≡ new-mark) S.opened
      (get_or-set_same s.marks s.«open» new-mark (mark 0 0 0) (omega (arith, S.opened, S.marks_kept))) in
      let these : at s.«open» t.rows over (length xs) ≡ t.rows =
      at_hit s.«open» t.rows over (length xs) (sym S.opened) in
      let none : s.used - s.used ≡ 0 = omega arith in
      rw (here, none) (record {
        token = refl;
        past = le_refl s.used;
        able = eq-eqb s.count s.count refl;
        very = λ i q. ap (λ (z : Rows). row_at z i) (sym these);
        wide = rw these S.lends.row_parts;
        made = rw these S.made;
        outwards = rw these
            (back_marks S.room t.log (mark_at s) (mark_at (marked s)) over (at s.«open» t.rows over) s.used s.count
            t.rows xs
            (λ k q. let d : k ≢ s.«open» = λ z. omega (arith, S.opened) in
            (get_or-set_other s.marks s.«open» k new-mark (mark 0 0 0) d, at_miss s.«open» t.rows over k d)) S.back);
      })

  pub keeps_snapshot : Keeps over t h Snapshot (resting t (snapshot t.state))
  unfolding track last_token Orderly
  keeps_snapshot =
      let s : State = t.state in
      on_cond (λ r. Keeps over t h Snapshot (resting t r)) (eqb s.«open» MAX-OPEN)
      (λ _. keeps_refused S Snapshot 7 refl refl refl) (λ e.
      let f : length (track h).saved < MAX-OPEN = omega (arith, eqb-false s.«open» MAX-OPEN e, S.opened, S.open_fits) in
      on_cond (λ r. Keeps over t h Snapshot (resting t r)) (eqb s.last MAX-U64)
      (λ _. keeps_refused S Snapshot 10 refl refl refl) (λ _.
      record {
        stands = record {
          room = S.room;
          log_room = S.log_room;
          lends = S.lends;
          fits = S.fits;
          log_fits = S.log_fits;
          marks_kept = length-set s.marks s.«open» (mark (s.last + 1) s.used s.count) ∙ S.marks_kept;
          open_fits = f;
          opened = omega (arith, S.opened);
          made = S.made;
          back = back_marked f;
          orderly = (omega (arith, S.serials), S.orderly);
          serials = le_refl (s.last + 1);
        };
        peace = calm 0 refl refl;
      }))

  -- ---- rollback and commit

  -- The innermost snapshot, where one is open.
  module _ (x : Saved) (xs : List Saved) (e : (track h).saved ≡ x ∷ xs) where
    pub inner_back : LeadsBack S.room t.log (mark_at t.state) over t.state.used t.state.count t.rows (x ∷ xs)
    inner_back = rw e at S.back

    some_open : t.state.«open» ≡ suc (length xs)
    some_open = S.opened ∙ ap length e

    pub busy : t.state.«open» ≢ 0
    busy z = omega (arith, some_open)

    left_open : t.state.«open» - 1 ≡ length xs
    left_open = omega (arith, some_open)

    abbrev pub inner : Mark
    inner = mark_at t.state (length xs)

    pub inner_is : innermost t.state ≡ inner
    inner_is = ap (mark_at t.state) left_open

    pub inner_fits : unfit (head_of t.state) inner ≡ false
    inner_fits =
        let (p, q) =
        back_fits S.room t.log (mark_at t.state) over t.state.used t.state.count t.rows (x ∷ xs) inner_back
        (length xs)
        (le_refl (suc (length xs))) in
        rw (le-ltb t.state.used inner.log_len p, le-ltb t.state.count inner.keys q)

    -- The innermost snapshot is dropped, with these rows, this count and used log left.
    dropped_stands : (e' : Event) (now : List Deed) (rs : Rows) (count used : ℕ)
        → noted (track h) (act e') ≡ record { now = now; saved = xs } → over_after over t (act e') ≡ over
        → Follows (last_token h) (track h).saved (act e') → newer (last_token h) (act e') ≡ last_token h → WideRows rs S.room
        → count ≤ t.state.count → used ≤ t.state.used
        → Made rs count now → LeadsBack S.room t.log (mark_at t.state) over used count rs xs
        → StandsOver (over_after over t (act e')) (table rs t.log (with_head t.state (head count used (t.state.«open» - 1)))) (e' ∷ h)
    dropped_stands e' now rs count used n o f last w c u made back =
        let fits : suc (length xs) ≤ MAX-OPEN = rw e at S.open_fits in
        stands_with S e' now xs rs t.log count used (t.state.«open» - 1) n o f last left_open (omega arith) w (omega (arith, S.fits))
        (record { wide = S.lends.log_parts; fits = omega (arith, S.log_fits); back = back }) made

    innermost_named : (token : ℕ) → inner.serial ≡ token → Innermost token (track h).saved
    innermost_named token q = rw e (sym inner_back.token ∙ q)

    undone_stands : (token : ℕ) → inner.serial ≡ token
        → StandsOver over (table (undo t.rows (since t.log (head_of t.state) inner)) t.log (with_head t.state (rolled_back (head_of t.state) inner)))
        (event (Rollback token) (refusal DONE) ∷ h)
    undone_stands token q =
        let b = inner_back in
        let es : List UndoLog = since t.log (head_of t.state) inner in
        let taken : Rows = over (length xs) in
        let n : noted (track h) (undoes token) ≡ record { now = x.deeds; saved = xs } =
        ap (λ (ys : List Saved). record { now = restored (track h).now ys; saved = dropped ys }) e in
        let w : WideRows (undo t.rows es) S.room = wide_undo t.rows S.room es S.lends.row_parts in
        let k : inner.keys ≤ t.state.count = undoable_le inner.keys t.state.count es b.able in
        let again : Alike inner.keys taken (undo t.rows es) = λ i q. sym (b.very i q) in
        dropped_stands (event (Rollback token) (refusal DONE)) x.deeds (undo t.rows es) inner.keys inner.log_len n refl
        (innermost_named token q) refl w k b.past (made_alike (undo t.rows es) again b.made)
        (back_alike S.room t.log (mark_at t.state) over inner.log_len inner.keys taken (undo t.rows es) xs
        (omega (arith, S.fits)) b.wide w again b.outwards)

    keeps_undone : (token : ℕ) → Keeps over t h (Rollback token) (rollback t token)
    keeps_undone token =
        rw (inner_is, ne_eqb t.state.«open» 0 busy)
        (cases (eqb inner.serial token)
        (λ q. rw (q, inner_fits, inner_back.able)
        (record { stands = undone_stands token (eqb-true inner.serial token q); peace = calm 0 refl refl }))
        (λ q. rw q (keeps_refused S (Rollback token) 6 refl refl refl)))

    undone_restores : (token : ℕ) → Restores over t (rollback t token)
    undone_restores token =
        rw (inner_is, ne_eqb t.state.«open» 0 busy)
        (cases (eqb inner.serial token)
        (λ q. rw (q, inner_fits, inner_back.able) (record { rows = λ _. rw left_open inner_back.very }))
        (λ q. rw q (record { rows = λ z. absurd (omega arith) })))

  pub none_open : (track h).saved ≡ [] → t.state.«open» ≡ 0
  none_open e = S.opened ∙ ap length e

  pub keeps_rollback : (token : ℕ) (ys : List Saved) → (track h).saved ≡ ys → Keeps over t h (Rollback token) (rollback t token)
  keeps_rollback token [] e =
      rw (eq-eqb t.state.«open» 0 (none_open e)) (keeps_refused S (Rollback token) 6 refl refl refl)
  keeps_rollback token (x ∷ xs) e = keeps_undone x xs e token

  pub rollback_restores : (token : ℕ) (ys : List Saved) → (track h).saved ≡ ys → Restores over t (rollback t token)
  rollback_restores token [] e = rw (eq-eqb t.state.«open» 0 (none_open e)) (record { rows = λ z. absurd (omega arith) })
  rollback_restores token (x ∷ xs) e = undone_restores x xs e token

  -- The only open snapshot, and one of several.
  pub closing : (x : Saved) (xs : List Saved) (e : (track h).saved ≡ x ∷ xs)
      → (stranded (head_of t.state) (inner x xs e) ≡ false) × ((committed (head_of t.state)).used ≤ t.state.used)
      × LeadsBack S.room t.log (mark_at t.state) over (committed (head_of t.state)).used t.state.count t.rows xs
  closing x [] e =
      let b = inner_back x [] e in
      rw (eq-eqb t.state.«open» 1 (some_open x [] e), le-ltb 0 (inner x [] e).log_len (omega (arith, b.outwards)))
      (refl, zero-le, refl)
  closing x (y ∷ zs) e =
      rw (ne_eqb t.state.«open» 1 (λ z. omega (arith, some_open x (y ∷ zs) e))) (
        refl,
        le_refl t.state.used,
        back_commit S.room t.log (mark_at t.state) over t.state.used t.state.count t.rows x y zs S.fits
            S.lends.row_parts (inner_back x (y ∷ zs) e),
      )

  pub keeps_commit : (token : ℕ) (ys : List Saved) → (track h).saved ≡ ys
      → Keeps over t h (Commit token) (resting t (commit t.state token))
  keeps_commit token [] e = rw (eq-eqb t.state.«open» 0 (none_open e)) (keeps_refused S (Commit token) 6 refl refl refl)
  keeps_commit token (x ∷ xs) e =
      let (s, u, b) = closing x xs e in
      rw (inner_is x xs e, ne_eqb t.state.«open» 0 (busy x xs e))
      (cases (eqb (inner x xs e).serial token)
      (λ q. rw (q, inner_fits x xs e, s) (record {
        stands = dropped_stands x xs e (event (Commit token) (refusal DONE)) (track h).now t.rows t.state.count
            (committed (head_of t.state)).used (ap (λ (ys : List Saved). record { now = (track h).now; saved = dropped ys }) e) refl
            (innermost_named x xs e token (eqb-true (inner x xs e).serial token q)) refl S.lends.row_parts (le_refl t.state.count) u
            S.made b;
        peace = calm 0 refl refl;
      }))
      (λ q. rw q (keeps_refused S (Commit token) 6 refl refl refl)))

  -- ---- questions

  keeps_asked : (c : Call) (token : ℕ) (reply : Mark → Answer) → ((m : Mark) → act (event c (reply m)) ≡ idle)
      → ((m : Mark) → Calm (reply m).no) → (n : ℕ) → n ≤ length (track h).saved
      → Keeps over t h c (resting t (asked t.state reply (seek t.state token n)))
  unfolding seek
  keeps_asked c token reply i z zero f = keeps_refused S c 11 refl refl refl
  keeps_asked c token reply i z (suc n) f =
      let m : Mark = mark_at t.state n in
      let (p, q) =
      back_fits S.room t.log (mark_at t.state) over t.state.used t.state.count t.rows (track h).saved S.back n
      f in
      cases (eqb m.serial token)
      (λ e. rw (e, le-ltb t.state.used m.log_len p, le-ltb t.state.count m.keys q)
      (keeps_idle S c (reply m) (i m) (z m)))
      (λ e. rw e (keeps_asked c token reply i z n (omega arith)))

  pub keeps_ask : (c : Call) (token : ℕ) (reply : Mark → Answer) → ((m : Mark) → act (event c (reply m)) ≡ idle)
      → ((m : Mark) → Calm (reply m).no)
      → Keeps over t h c (resting t (ask t.state token reply))
  keeps_ask c token reply i z = keeps_asked c token reply i z t.state.«open» (omega (arith, S.opened))
