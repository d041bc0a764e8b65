-- Replay of entries that the groups accept, into any table that stands for a history and has room: each is answered DONE.
use Rattle.std.specs.Prelude.{◌≡◌, ◌∷◌, ◌≢◌, ◌+◌, ◌<◌}
use Rattle.kit.specs.Names.{refl, ap, ◌∙◌, subst⁻¹, cond, List, [], ℕ, suc, length, eqb, arith, eq-eqb}
use Rattle.rules.specs.Rules.{Call, Answer, State, DONE, Rows, Table, Outcome, step}
use Rattle.groups.specs.Track.{event, History, act, track}
use Rattle.groups.specs.Stands.{over_after, StandsOver, Stands}
use Rattle.groups.specs.Acceptance.{asks_join, asks_post, LogRoom}
use Rattle.groups.proofs.Growth.{Grows, grows}
use Rattle.groups.proofs.Calls.{keeps}
use Rattle.groups.proofs.Acceptance.{new_done, accepted_done, snapshot_done, rollback_done, commit_done}
use Rattle.journal.specs.declared.entry.Entry.{Entry}
use Rattle.journal.specs.declared.entry.Entry.TheVariants.{EntryNew, EntryPost, EntryJoin, EntrySnapshot, EntryRollback, EntryCommit, NoEntry}
use Rattle.journal.specs.Written.{entry_for, written}
use Rattle.journal.specs.Replay.{innermost_token, call_for, Replayed, replay_from}
use Rattle.replays.specs.Course.{Course, course_of, entered, Admits, course_after, AdmitsAll}
use Rattle.replays.specs.Replayed.{RoomFor}
use Rattle.replays.proofs.CourseLaws.{open_course}
use Rattle.replays.proofs.WrittenLaws.{written_leads}

-- ---- one entry

number : {a b : Answer} → a ≡ b → a.no ≡ b.no
number e = ap (λ (x : Answer). x.no) e

-- An entry that the groups accept is what is written of its call.
call_written : (rows : ℕ) (k : Course) (s : State) (e : Entry) → Admits rows k e → entry_for (call_for s e) ≡ e ∷ []
call_written rows k s (EntryNew owner amount) p = refl
call_written rows k s (EntryPost a owner amount) p = refl
call_written rows k s (EntryJoin a b) p = refl
call_written rows k s EntrySnapshot p = refl
call_written rows k s EntryRollback p = refl
call_written rows k s EntryCommit p = refl
call_written rows k s NoEntry p = absurd p

log_room : (rows n : ℕ) (t : Table) → RoomFor rows (suc n) t → LogRoom t
log_room rows n t r _ = omega (arith, r.log_room)

module _ {over : ℕ → Rows} {t : Table} {h : History} (S : StandsOver over t h) where
  some_open : 0 < length (course_of (track h)).saved → t.state.«open» ≢ 0
  some_open p z = omega (arith, open_course S)

  -- The entry is answered DONE, where there is room.
  pub entry_done : (rows n : ℕ) (e : Entry) → Admits rows (course_of (track h)) e → RoomFor rows (suc n) t
      → (step t (call_for t.state e)).answer.no ≡ DONE
  entry_done rows n (EntryNew owner amount) p r =
      number (new_done S owner amount (omega (arith, S.made.counted, r.row_room)) (log_room rows n t r))
  entry_done rows n (EntryPost a owner amount) p r = accepted_done S asks_post p tt (log_room rows n t r)
  entry_done rows n (EntryJoin a b) p r = accepted_done S asks_join p tt (log_room rows n t r)
  entry_done rows n EntrySnapshot p r = number (snapshot_done S (omega (arith, open_course S)) (omega (arith, r.serials)))
  entry_done rows n EntryRollback p r = number (rollback_done S (innermost_token t.state) refl (some_open p))
  entry_done rows n EntryCommit p r = number (commit_done S (innermost_token t.state) refl (some_open p))
  entry_done rows n NoEntry p r = absurd p

  -- And then it makes of the history what it makes of the course.
  pub entry_course : (rows : ℕ) (e : Entry) → Admits rows (course_of (track h)) e → (step t (call_for t.state e)).answer.no ≡ DONE
      → course_of (track (event (call_for t.state e) (step t (call_for t.state e)).answer ∷ h)) ≡ entered (course_of (track h)) e
  unfolding course_after
  entry_course rows e p done =
      let c : Call = call_for t.state e in
      let a : Answer = (step t c).answer in
      let w : written c a ≡ e ∷ [] = rw (eq-eqb a.no DONE done) (call_written rows (course_of (track h)) t.state e p) in
      (written_leads c a (keeps S c).stands).1 ∙ ap (course_after (course_of (track h))) w

-- ---- entries one after the other

room_left : (rows n : ℕ) (t : Table) (o : Outcome) → RoomFor rows (suc n) t → Grows t o → RoomFor rows n o.table
room_left rows n t o r g = record { row_room = omega arith; log_room = omega (arith, g.log); serials = omega arith }

-- Replay came to its end, after n entries, in a table of this course.
pub record Reached (k : Course) (n : ℕ) (r : Replayed) : Type 0 where
  pub no : r.no ≡ DONE
  pub entry : r.entry ≡ n
  pub past : History
  pub stands : Stands r.table past
  pub along : course_of (track past) ≡ k

reached_past : {k k' : Course} {n : ℕ} (answer : ℕ) (r r' : Replayed) → answer ≡ DONE → k ≡ k' → Reached k n r
    → Reached k' n (cond (eqb answer DONE) r r')
reached_past answer r r' e q R =
    rw (eq-eqb answer DONE e) (record { no = R.no; entry = R.entry; past = R.past; stands = R.stands; along = R.along ∙ q })

pub reaches : (rows : ℕ) (es : List Entry) (at n : ℕ) (t : Table) (h : History) → Stands t h → n ≡ at + length es
    → AdmitsAll rows (course_of (track h)) es → RoomFor rows (length es) t
    → Reached (course_after (course_of (track h)) es) n (replay_from at t es)
unfolding replay_from course_after AdmitsAll
reaches rows [] at n t h S z p r = record { no = refl; entry = omega arith; past = h; stands = S; along = refl }
reaches rows (e ∷ es) at n t h S z p r =
    let c : Call = call_for t.state e in
    let o : Outcome = step t c in
    let done : o.answer.no ≡ DONE = entry_done S.1 rows (length es) e p.0 r in
    let q : course_of (track (event c o.answer ∷ h)) ≡ entered (course_of (track h)) e = entry_course S.1 rows e p.0 done in
    reached_past o.answer.no (replay_from (suc at) o.table es) (record { no = o.answer.no; entry = at; table = o.table }) done
    (ap (λ (k : Course). course_after k es) q)
    (reaches rows es (suc at) n o.table (event c o.answer ∷ h)
    (over_after S.0 t (act (event c o.answer)), (keeps S.1 c).stands) (omega arith)
    (subst⁻¹ (λ (k : Course). AdmitsAll rows k es) q p.1) (room_left rows (length es) t o r (grows t c)))
