-- Document 02, Q-1: a replayed journal gives the same, from any two tables of one course, and so from fresh ones.
use Rattle.std.specs.Prelude.{◌≡◌}
use Rattle.kit.specs.Names.{refl, sym, ap, ◌∙◌, subst⁻¹, List, [], ℕ, length, arith}
use Rattle.rules.specs.Rules.{Call, Rows, Log, Table, table, fresh}
use Rattle.groups.specs.Track.{History, track}
use Rattle.groups.specs.Stands.{Stands}
use Rattle.groups.proofs.Calls.{fresh_stands}
use Rattle.history.specs.Demand.{Peaceful, Story, tell, begin}
use Rattle.history.proofs.Theorem.{told_stands}
use Rattle.journal.specs.declared.entry.Entry.{Entry}
use Rattle.journal.specs.Replay.{Replayed, replay_from}
use Rattle.replays.specs.Course.{Course, course_of, course_after}
use Rattle.replays.specs.Replayed.{written_in_history, written_of, RoomFor, Gives, JournalReplays}
use Rattle.replays.proofs.CourseLaws.{admitted_orderly, course_same, course_open}
use Rattle.replays.proofs.WrittenLaws.{told_leads, told_entries}
use Rattle.replays.proofs.ReplayLaws.{Reached, reaches}
use Rattle.replays.proofs.Unwinding.{unwound_course, unwinding}

-- A replay that reached the course of a table gives that table.
pub reached_gives : {n : ℕ} {r : Replayed} {t : Table} {h : History} → Stands t h → Reached (course_of (track h)) n r → Gives r n t
reached_gives {n} {r} {t} {h} S R =
    let opened : r.table.state.«open» ≡ t.state.«open» = course_open S R.stands R.along in
    record {
      no = R.no;
      entry = R.entry;
      same = course_same S R.stands R.along;
      opened = opened;
      unwinds = λ k f. ((unwinding k r.table R.past R.stands (omega arith)).done, (unwinding k t h S f).done);
      same_unwound = λ k f.
          let U = unwinding k t h S f in
          let U' = unwinding k r.table R.past R.stands (omega arith) in
          course_same U.stands U'.stands (U'.along ∙ ap (unwound_course k) R.along ∙ sym U.along);
    }

-- Any two tables that stand for histories of one course: what calls on the one have written, replayed into the other, gives the one
-- after the calls.
pub replays_on : (cs : List Call) (s : Story) → Stands s.table s.past → Peaceful s.past → (t : Table) (h : History) → Stands t h
    → course_of (track h) ≡ course_of (track s.past) → RoomFor (length s.table.rows.parents) (length (written_of s.table cs)) t
    → Gives (replay_from 0 t (written_of s.table cs)) (length (written_of s.table cs)) (tell s cs).table
replays_on cs s S peace t h S' e r =
    let es : List Entry = written_of s.table cs in
    let (p, q) = told_leads cs s S in
    reached_gives (told_stands cs s S peace).0
    (subst⁻¹ (λ (k : Course). Reached k (length es) (replay_from 0 t es)) (q ∙ ap (λ (k : Course). course_after k es) (sym e))
    (reaches (length s.table.rows.parents) es 0 (length es) t h S' (omega arith) (rw (← e) at p) r))

-- ---- the promise

fresh_entries : (rs : Rows) (l : Log) (cs : List Call) → written_in_history (tell (begin rs l) cs).past ≡ written_of (table rs l fresh) cs
unfolding written_in_history
fresh_entries rs l cs = told_entries cs (begin rs l)

pub journal_replays : JournalReplays
unfolding track
journal_replays rs l rows log_room lent cs =
    let s : Story = begin rs l in
    let S : Stands s.table [] = ((λ _. rs), fresh_stands rs l rows log_room lent) in
    rw (fresh_entries rs l cs) (record {
      ordered = admitted_orderly (length rs.parents) (course_of (track [])) (written_of s.table cs) (told_leads cs s S).0;
      gives = λ rs' l' rows' log-room' lent' f r.
          replays_on cs s S tt (table rs' l' fresh) [] ((λ _. rs'), fresh_stands rs' l' rows' log-room' lent') refl
          (record {
            row_room = omega (arith, lent.row_parts.parents, lent'.row_parts.parents);
            log_room = omega (arith, lent'.log_parts);
            serials = omega (arith, lent'.log_limit);
          });
    })
