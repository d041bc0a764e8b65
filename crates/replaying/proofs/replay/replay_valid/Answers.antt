-- What is left of the journal leads to the same end.
use Rattle.std.proofs.Common.{rules}
use Rattle.kit.specs.Names.{length}
use Rattle.numbered.specs.Going.{going_table}
use Rattle.journal.specs.Replay.{replay_bytes}
use Rattle.replaying.proofs.GoingLaws.{going_starts, going_on, going_stops, going_ends}
use Rattle.replaying.proofs.replay.replay_valid.Goals as goal

pub loop-entry-init : goal.loop-entry-init
loop-entry-init c =
    let a = c.args in
    record {
      can_next = search rules;
      is_finite = tt;
      same_going = search rules;
      left = going_starts a.bytes.now (going_table a.going.now) c.requires.bytes_value (search rules) (search rules);
    }

pub returns-then-answer-ne-DONE-clause-value : goal.returns-then-answer-ne-DONE-clause-value
returns-then-answer-ne-DONE-clause-value c =
    let a = c.args in
    let l = c.loop-entry in
    let s = c.replay_entry-answer in
    going_stops (replay_bytes a.bytes.now (going_table a.going.now)) (length a.bytes.now) l.place (going_table l.going) l.invariant.left
    c.in-Some.ensures.steps (going_table s.new.going) s.result s.ensures.value c.if-answer-ne-DONE.true

pub loop-entry-preserved : goal.loop-entry-preserved
loop-entry-preserved c =
    let a = c.args in
    let l = c.loop-entry in
    let s = c.replay_entry-answer in
    record {
      can_next = search rules;
      is_finite = tt;
      same_going = search rules;
      left = going_on (replay_bytes a.bytes.now (going_table a.going.now)) (length a.bytes.now) l.place (going_table l.going) l.invariant.left
          c.in-Some.ensures.steps (going_table s.new.going) s.result s.ensures.value c.if-answer-ne-DONE.false;
    }

pub returns-clause-value : goal.returns-clause-value
returns-clause-value c =
    let a = c.args in
    let l = c.loop-entry in
    going_ends (replay_bytes a.bytes.now (going_table a.going.now)) (length a.bytes.now) l.place (going_table l.going) l.invariant.left
    (search rules)
