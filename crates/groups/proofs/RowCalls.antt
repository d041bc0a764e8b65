-- Calls on rows, and a new key: a table that stands for a history stands for it with the call.
use Rattle.std.specs.Prelude.{◌≡◌, ◌∷◌, ◌≢◌, ◌+◌, ◌-◌, ◌≤◌, ◌<◌}
use Rattle.kit.specs.Names.{refl, sym, ◌∙◌, subst, false, ℕ, length, eqb, ltb, leb, arith, eqb-false, eq-eqb, ne_eqb, ltb-false, leb-false}
use Rattle.rules.specs.Rules.{Call, Value, Rows, Table, entries, value, owner_of, row, put_row, mark_at, WideRows, found, memory_of, logged, full, puts, writes, Plan}
use Rattle.rules.specs.Rules.{Walked, walk, walk_both, undoable, refused, carry, new, live, one, two}
use Rattle.rules.specs.declared.call.Call.TheVariants.{New}
use Rattle.rules.specs.declared.table.UndoLog.TheVariants.{NewElem}
use Rattle.rules.proofs.RowLaws.{puts_rows}
use Rattle.rules.proofs.EntryLaws.{new_back}
use Rattle.rules.proofs.ReadLaws.{Real, real_owner, row_miss, wide_put}
use Rattle.groups.specs.Groups.{Groups, created, group_step, replay}
use Rattle.groups.specs.Track.{event, History, track}
use Rattle.groups.specs.Stands.{Made, StandsOver, Shows}
use Rattle.groups.proofs.Tools.{on_cond, cases}
use Rattle.groups.proofs.Whole.{whole}
use Rattle.groups.proofs.Forest.{created_shows}
use Rattle.groups.proofs.Walks.{Holds, wrote}
use Rattle.groups.proofs.Undoing.{back_alike, log_one, log_puts}
use Rattle.groups.proofs.Plans.{calm, Planned}
use Rattle.groups.proofs.Kept.{Keeps, stands_on, as_logged, keeps_refused}

module _ {over : ℕ → Rows} {t : Table} {h : History} (S : StandsOver over t h) where
  -- ---- calls on rows

  pub holds : Holds t.rows (replay (track h).now) S.room
  holds = record {
    shows = S.made.shows;
    whole = whole (track h).now S.made.accepted;
    wide = S.lends.row_parts;
    fits = rw S.made.counted S.fits;
    limit = S.lends.row_limit;
  }

  -- There is room in the log, or nothing is logged.
  free : (n : ℕ) → full (memory_of t) n ≡ false → t.state.«open» ≢ 0 → t.state.used + n ≤ S.log_room
  free n e b =
      let q : ltb (entries t.log - t.state.used) n ≡ false = rw (ne_eqb t.state.«open» 0 b) at e in
      omega (arith, ltb-false (entries t.log - t.state.used) n q, S.lends.log_parts, S.log_fits)

  keeps_carry : (c : Call) (p : Plan) → Planned t.rows S.room (track h).now c p → Keeps over t h c (carry t p)
  keeps_carry c p P =
      on_cond (Keeps over t h c) (full (memory_of t) (length p.todo)) (λ _. keeps_refused S c 3 refl refl refl) (λ e.
      let r : (puts (memory_of t) p.todo).rows ≡ writes t.rows p.todo = puts_rows (memory_of t) p.todo in
      record {
        stands =
            stands_on S (event c p.answer) (puts (memory_of t) p.todo).rows (puts (memory_of t) p.todo).log t.state.count
            (puts (memory_of t) p.todo).used P.quiet
            (rw r P.holds.wide) S.fits
            (log_puts S.room (mark_at t.state) over S.log_room p.todo (memory_of t) t.state.count (track h).saved
            S.opened
            (free (length p.todo) e) (rw S.made.counted at P.inside) (as_logged S))
            (rw r (record { accepted = P.accepted; counted = P.counted ∙ S.made.counted; shows = P.holds.shows }));
        peace = P.peace;
      })

  pub keeps_live : (c : Call) (key : ℕ) (p : Plan)
      → (key < (replay (track h).now).count → Planned t.rows S.room (track h).now c p) → Keeps over t h c (live t key p)
  keeps_live c key p f =
      on_cond (Keeps over t h c) (leb t.state.count key) (λ _. keeps_refused S c 1 refl refl refl)
      (λ e. keeps_carry c p (f (omega (arith, leb-false t.state.count key e, S.made.counted))))

  pub keeps_one : (c : Call) (key : ℕ) (next : Walked → Plan)
      → (key < (replay (track h).now).count → Planned t.rows S.room (track h).now c (walk t.rows (replay (track h).now).count key next))
      → Keeps over t h c (one t key next)
  keeps_one c key next f =
      keeps_live c key (walk t.rows t.state.count key next)
      (λ q. subst (λ (n : ℕ). Planned t.rows S.room (track h).now c (walk t.rows n key next)) S.made.counted (f q))

  pub keeps_two : (c : Call) (a b : ℕ) (next : Walked → Walked → Plan)
      → (a < (replay (track h).now).count → b < (replay (track h).now).count → Planned t.rows S.room (track h).now c (walk_both t.rows (replay (track h).now).count a b next))
      → Keeps over t h c (two t a b next)
  keeps_two c a b next f =
      let n : ℕ = t.state.count in
      let no : Keeps over t h c (refused 1 t) = keeps_refused S c 1 refl refl refl in
      cases (leb n a) (λ e. rw e no) (λ e. cases (leb n b) (λ e'. rw (e, e') no) (λ e'. rw (e, e')
      (keeps_carry c (walk_both t.rows n a b next)
      (subst (λ (m : ℕ). Planned t.rows S.room (track h).now c (walk_both t.rows m a b next)) S.made.counted
      (f (omega (arith, leb-false n a e, S.made.counted)) (omega (arith, leb-false n b e', S.made.counted)))))))

  -- ---- a new key

  grown_made : (v : Value) (n : ℕ) → (replay (track h).now).count ≡ n → n < S.room → Real v.owner
      → Made (put_row t.rows n (row n 0 v)) (n + 1) (created n v ∷ (track h).now)
  unfolding replay group_step
  grown_made v n e f real =
      let g : Groups = replay (track h).now in
      record {
        accepted = (sym e, S.made.accepted);
        counted = omega arith;
        shows = subst (λ (k : ℕ). Shows (put_row t.rows k (row k 0 v)) (group_step g (created k v))) e
            (created_shows S.made.shows holds.whole (put_row t.rows g.count (row g.count 0 v)) v
            (wrote t.rows S.room g.count (row g.count 0 v) S.lends.row_parts (omega arith) real));
      }

  pub keeps_new : (owner amount : ℕ) → Keeps over t h (New owner amount) (new t (value (owner_of owner) amount))
  unfolding undoable
  keeps_new owner amount =
      let c : Call = New owner amount in
      let n : ℕ = t.state.count in
      let v : Value = value (owner_of owner) amount in
      let rs : Rows = put_row t.rows n (row n 0 v) in
      let w : WideRows rs S.room = wide_put t.rows n (row n 0 v) S.room S.lends.row_parts in
      on_cond (Keeps over t h c) (eqb n (length t.rows.parents)) (λ _. keeps_refused S c 2 refl refl refl) (λ e.
      let f : n < S.room = omega (arith, eqb-false n (length t.rows.parents) e, S.lends.row_parts.parents, S.fits) in
      on_cond (Keeps over t h c) (full (memory_of t) 1) (λ _. keeps_refused S c 3 refl refl refl) (λ e'.
      record {
        stands =
            stands_on S (event c (found n 0)) rs (logged (NewElem n) (memory_of t)).log (n + 1) (logged (NewElem n) (memory_of t)).used
            tt w (omega arith)
            (log_one S.room (mark_at t.state) over S.log_room (memory_of t) n (n + 1) rs rs (track h).saved (NewElem n)
            S.opened (free 1 e')
            (new_back t.log t.state.used n) refl
            (λ keys es p. rw (eq-eqb (n + 1) (n + 1) refl) p)
            (record {
              wide = S.lends.log_parts;
              fits = S.log_fits;
              back =
                  back_alike S.room t.log (mark_at t.state) over t.state.used n t.rows rs (track h).saved S.fits
                  S.lends.row_parts w
                  (λ j q. sym (row_miss t.rows n (row n 0 v) j (λ z. omega arith))) S.back;
            }))
            (grown_made v n S.made.counted f (real_owner owner));
        peace = calm 0 refl refl;
      }))
