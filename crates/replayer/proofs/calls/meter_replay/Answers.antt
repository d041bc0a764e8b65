-- The lengths decide, and what has them is replayed.
use Rattle.std.proofs.Common.{◌≡◌, rules, refl, length}
use Rattle.layout.specs.State.{Sized}
use Rattle.runs.specs.Served.{host_lent}
use Rattle.replayer.proofs.ReplayLaws.{no_numbers, no_serials, no_result, replay_out, as_served}
use Rattle.replayer.proofs.calls.meter_replay.Goals as goal

pub returns-in_default : goal.returns-in_default
returns-in_default c =
    let a = c.args in
    let first = host_lent a.numbers.now a.serials.now a.parents.now a.crowns.now a.amounts.now a.log.now a.res.now in
    no_numbers first a.journal.now c.code.result c.code.ensures c.in_default.ensures.cases

pub returns-in_default-as_mut_array : goal.returns-in_default-as_mut_array
returns-in_default-as_mut_array c =
    let a = c.args in
    let first = host_lent a.numbers.now a.serials.now a.parents.now a.crowns.now a.amounts.now a.log.now a.res.now in
    let n = c.in-Some.ensures.cases in
    rw n.same (no_serials first a.journal.now c.code-in_default-as_mut_array.result n.long c.code-in_default-as_mut_array.ensures
    c.in_default-as_mut_array.ensures.cases)

pub returns-in_default-as_mut_array-2 : goal.returns-in_default-as_mut_array-2
returns-in_default-as_mut_array-2 c =
    let a = c.args in
    let first = host_lent a.numbers.now a.serials.now a.parents.now a.crowns.now a.amounts.now a.log.now a.res.now in
    let n = c.in-Some.ensures.cases in
    let s = c.in-Some-as_mut_array.ensures.cases in
    rw (n.same, s.same) (no_result first a.journal.now c.code-in_default-as_mut_array-2.result n.long s.long c.code-in_default-as_mut_array-2.ensures
    c.in_default-as_mut_array-2.ensures.cases)

pub returns : goal.returns
returns c =
    let a = c.args in
    let first = host_lent a.numbers.now a.serials.now a.parents.now a.crowns.now a.amounts.now a.log.now a.res.now in
    let n = c.in-Some.ensures.cases in
    let m = c.in-Some-as_mut_array.ensures.cases in
    let s = c.replay-ended.new.state in
    let same = c.replay-ended.ensures.same_state in
    let long : length s.numbers.now ≡ 67 = search (rules, same.2, n.long, n.same) in
    let wide : length s.serials.now ≡ 33 = search (rules, same.3, m.long, m.same) in
    let sized : Sized s.numbers.now s.serials.now = record { numbers = long; serials = wide } in
    replay_out first a.journal.now 0 n.long m.long _ refl c.in-Some-as_mut_array-2.ensures.cases.long
    (as_served first a.journal.now _ _ _ _ _ c.replay-ended.result.no c.replay-ended.result.entry (search (rules, sized)) c.put_result.ensures
    (search (rules, c.replay-ended.ensures.value)))
