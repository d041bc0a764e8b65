-- Rollbacks, one by one, of the innermost open snapshot: each is answered DONE, and they give back the deeds of each.
use Rattle.std.specs.Prelude.{◌≡◌, ◌∷◌, ◌-◌, ◌≤◌}
use Rattle.kit.specs.Names.{refl, ap, ◌∙◌, ℕ, zero, suc, length, arith}
use Rattle.rules.specs.Rules.{Call, Answer, DONE, Table, Outcome}
use Rattle.rules.specs.declared.call.Call.TheVariants.{Rollback}
use Rattle.groups.specs.Track.{event, History, act, track}
use Rattle.groups.specs.Stands.{over_after, Stands}
use Rattle.groups.proofs.Calls.{keeps}
use Rattle.groups.proofs.Acceptance.{rollback_done}
use Rattle.journal.specs.declared.entry.Entry.TheVariants.{EntryRollback}
use Rattle.journal.specs.Replay.{innermost_token}
use Rattle.replays.specs.Course.{Course, course_of, entered}
use Rattle.replays.specs.Replayed.{rolled_back_once, unwound, Unwinds}
use Rattle.replays.proofs.CourseLaws.{open_after_lem, open_course}
use Rattle.replays.proofs.ReplayLaws.{entry_course}

unfoldable pub unwound_course : ℕ → Course → Course
unwound_course zero k = k
unwound_course (suc n) k = unwound_course n (entered k EntryRollback)

pub record Unwound (n : ℕ) (k : Course) (t : Table) : Type 0 where
  pub done : Unwinds n t
  pub past : History
  pub stands : Stands (unwound n t) past
  pub along : course_of (track past) ≡ unwound_course n k

-- One rollback, and then n.
unwound_on : {n : ℕ} {k k' : Course} {t : Table} → (rolled_back_once t).answer.no ≡ DONE → k ≡ entered k' EntryRollback
    → Unwound n k (rolled_back_once t).table → Unwound (suc n) k' t
unfolding unwound Unwinds unwound_course
unwound_on {n} done e U =
    record { done = (done, U.done); past = U.past; stands = U.stands; along = U.along ∙ ap (unwound_course n) e }

pub unwinding : (n : ℕ) (t : Table) (h : History) → Stands t h → n ≤ t.state.«open» → Unwound n (course_of (track h)) t
unfolding unwound Unwinds unwound_course
unwinding zero t h S f = record { done = tt; past = h; stands = S; along = refl }
unwinding (suc n) t h S f =
    let c : Call = Rollback (innermost_token t.state) in
    let o : Outcome = rolled_back_once t in
    let k : Course = course_of (track h) in
    let done : o.answer.no ≡ DONE =
    ap (λ (x : Answer). x.no) (rollback_done S.1 (innermost_token t.state) refl (λ z. omega arith)) in
    let q : course_of (track (event c o.answer ∷ h)) ≡ entered k EntryRollback =
    entry_course S.1 0 EntryRollback (omega (arith, open_course S.1)) done in
    let K = (keeps S.1 c).stands in
    let left : o.table.state.«open» ≡ length k.saved - 1 =
    open_course K ∙ ap (λ (z : Course). length z.saved) q ∙ open_after_lem k EntryRollback in
    unwound_on done q
    (unwinding n o.table (event c o.answer ∷ h) (over_after S.0 t (act (event c o.answer)), K) (omega (arith, open_course S.1)))
