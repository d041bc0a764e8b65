-- What is written of calls makes of a course what the calls make of their history, and the groups accept it.
use Rattle.std.specs.Prelude.{◌≡◌, ◌∷◌, ◌++◌, ◌≤◌, ◌<◌}
use Rattle.kit.specs.Names.{refl, sym, ap, ap₂, ◌∙◌, List, [], append-nil, append_assoc, ℕ, length, eqb, arith}
use Rattle.rules.specs.Rules.{Call, Answer, DONE, MAX-OPEN, Rows, Table, value, owner_of, step}
use Rattle.rules.specs.declared.call.Call.TheVariants.{New, Len, Find, Unioned, Join, Post, Probe, ProbeKey, TryProbe, Snapshot, Rollback, Commit}
use Rattle.rules.specs.declared.call.Call.TheVariants.{Keys, Actions, Changes}
use Rattle.groups.specs.Groups.{Deed, created, group_step, replay, Accepted}
use Rattle.groups.specs.Track.{Event, event, History, Act, act, act_of, Saved, dropped, restored, Track, noted, track, last_token, Innermost, Follows}
use Rattle.groups.specs.Track.{Orderly}
use Rattle.groups.specs.Stands.{over_after, StandsOver, Stands}
use Rattle.groups.proofs.Tools.{cases}
use Rattle.groups.proofs.Growth.{grows}
use Rattle.groups.proofs.Calls.{keeps}
use Rattle.history.specs.Demand.{Story, turn, tell}
use Rattle.journal.specs.Written.{entry_for, written}
use Rattle.replays.specs.Course.{course, saved_deeds, course_of, outer, given_back, course_after, AdmitsAll}
use Rattle.replays.specs.Replayed.{written_in_history, written_of}
use Rattle.replays.proofs.CourseLaws.{LeadTo, lead_append, saved_length}

-- ---- one call

-- What a table that stands after an act says of the act.
record Took (rows last : ℕ) (g : Track) (a : Act) : Type 0 where
  accepted : Accepted (noted g a).now
  fits : (replay (noted g a).now).count ≤ rows
  open_fits : length (noted g a).saved ≤ MAX-OPEN
  follows : Follows last g.saved a

took : {over : ℕ → Rows} {t : Table} {h : History} (e : Event) → StandsOver over t (e ∷ h)
    → Took (length t.rows.parents) (last_token h) (track h) (act e)
unfolding track Orderly
took e S = record {
  accepted = S.made.accepted;
  fits = omega (arith, S.made.counted, S.fits, S.lends.row_parts.parents);
  open_fits = S.open_fits;
  follows = S.orderly.0;
}

some_saved : (token : ℕ) (xs : List Saved) → Innermost token xs → 0 < length (saved_deeds xs)
some_saved token [] i = absurd i
some_saved token (x ∷ xs) i = omega arith

outer_dropped : (xs : List Saved) → saved_deeds (dropped xs) ≡ outer (saved_deeds xs)
outer_dropped [] = refl
outer_dropped (x ∷ xs) = refl

given_restored : (now : List Deed) (xs : List Saved) → restored now xs ≡ given_back now (saved_deeds xs)
given_restored now [] = refl
given_restored now (x ∷ xs) = refl

done_leads : (rows last : ℕ) (g : Track) (c : Call) (a : Answer) → Took rows last g (act_of c a)
    → LeadTo rows (course_of g) (entry_for c) (course_of (noted g (act_of c a)))
unfolding course_after AdmitsAll replay group_step
done_leads rows last g (New owner amount) a T =
    ((T.fits, tt), ap (λ (n : ℕ). course (created n (value (owner_of owner) amount) ∷ g.now) (saved_deeds g.saved)) T.accepted.0)
done_leads rows last g Len a T = (tt, refl)
done_leads rows last g (Find key) a T = (tt, refl)
done_leads rows last g (Unioned x y) a T = (tt, refl)
done_leads rows last g (Join x y) a T = ((T.accepted.0, tt), refl)
done_leads rows last g (Post key owner amount) a T = ((T.accepted.0, tt), refl)
done_leads rows last g (Probe key) a T = (tt, refl)
done_leads rows last g (ProbeKey key) a T = (tt, refl)
done_leads rows last g (TryProbe key) a T = (tt, refl)
done_leads rows last g Snapshot a T = ((rw (saved_length g.saved) T.open_fits, tt), refl)
done_leads rows last g (Rollback token) a T =
    ((some_saved token g.saved T.follows, tt), ap₂ course (given_restored g.now g.saved) (outer_dropped g.saved))
done_leads rows last g (Commit token) a T =
    ((some_saved token g.saved T.follows, tt), ap (course g.now) (outer_dropped g.saved))
done_leads rows last g (Keys token) a T = (tt, refl)
done_leads rows last g (Actions token) a T = (tt, refl)
done_leads rows last g (Changes token) a T = (tt, refl)

pub written_leads : {over : ℕ → Rows} {t : Table} {h : History} (c : Call) (a : Answer) → StandsOver over t (event c a ∷ h)
    → LeadTo (length t.rows.parents) (course_of (track h)) (written c a) (course_of (track (event c a ∷ h)))
unfolding track course_after AdmitsAll
written_leads {over} {t} {h} c a S =
    cases (eqb a.no DONE)
    (λ e. rw e (done_leads (length t.rows.parents) (last_token h) (track h) c a (rw e at (took (event c a) S))))
    (λ e. rw e (tt, refl))

-- ---- calls one after the other

pub told_leads : (cs : List Call) (s : Story) → Stands s.table s.past
    → LeadTo (length s.table.rows.parents) (course_of (track s.past)) (written_of s.table cs) (course_of (track (tell s cs).past))
unfolding tell written_of course_after AdmitsAll
told_leads [] s S = (tt, refl)
told_leads (c ∷ cs) s S =
    let t : Table = s.table in
    let a : Answer = (step t c).answer in
    let K = (keeps S.1 c).stands in
    let r : length (step t c).table.rows.parents ≡ length t.rows.parents = (grows t c).rows in
    lead_append (length t.rows.parents) (course_of (track s.past)) (course_of (track (event c a ∷ s.past)))
    (course_of (track (tell (turn s c) cs).past)) (written c a) (written_of (step t c).table cs)
    (rw r at (written_leads c a K)) (rw r at (told_leads cs (turn s c) (over_after S.0 t (act (event c a)), K)))

-- What a history has had written, and then what the calls that make it longer have.
pub told_entries : (cs : List Call) (s : Story) → written_in_history (tell s cs).past ≡ written_in_history s.past ++ written_of s.table cs
unfolding tell written_in_history written_of
told_entries [] s = sym (append-nil (written_in_history s.past))
told_entries (c ∷ cs) s =
    told_entries cs (turn s c)
    ∙ append_assoc (written_in_history s.past) (written c (step s.table c).answer) (written_of (step s.table c).table cs)
