-- The ways on from the walk's head: out of the table, at a root, at the last redirect, and where the first path is met.
use Rattle.std.proofs.Common.{◌∙◌, arith, length-set}
use Rattle.meeting.proofs.MeetingLaws.{after_out, after_root, after_spent, after_more, on_spent, on_more}
use Rattle.meeting.proofs.after.trace_after_into.Goals as goal
use Rattle.meeting.proofs.after.trace_after_into.Goals.{else-walk-test, then-walk-test+then-loop-node-test+then-node-at, then-at-count-via-then-at-count, then-at-count-via-else-at-count+then-steps-eq16-2}

pub returns-then-parent-at-clause-result_value : goal.returns-then-parent-at-clause-result_value
returns-then-parent-at-clause-result_value c =
    let a = c.args in
    let v = a.live in
    let r = c.requires in
    let w = c.walk in
    after_root v.parents.now v.count a.a a.first v.inside r.first_value a.key w.at w.steps w.trail.nodes w.invariant.0 w.invariant.1 w.invariant.2
    c.walk-test.true (λ i lt. c.loop-node.invariant i (omega (arith, lt, c.loop-node-test.false))) c.if-parent-at.true

pub returns-then-steps-eq16-clause-result_value : goal.returns-then-steps-eq16-clause-result_value
returns-then-steps-eq16-clause-result_value c =
    let a = c.args in
    let v = a.live in
    let r = c.requires in
    let w = c.walk in
    after_spent v.parents.now v.count a.a a.first v.inside r.first_value a.key w.at w.steps w.trail.nodes w.invariant.0 w.invariant.1 w.invariant.2
    c.walk-test.true (λ i lt. c.loop-node.invariant i (omega (arith, lt, c.loop-node-test.false))) c.if-parent-at.false c.if-steps-eq16.true

pub walk-preserved : goal.walk-preserved
walk-preserved c =
    let a = c.args in
    let v = a.live in
    let r = c.requires in
    let w = c.walk in (
      omega (arith, c.if-steps-eq16.false),
      length-set w.trail.nodes w.steps w.at ∙ w.invariant.1,
      after_more v.parents.now v.count a.a a.first v.inside r.first_value a.key w.at w.steps w.trail.nodes w.invariant.0 w.invariant.1 w.invariant.2
          c.walk-test.true (λ i lt. c.loop-node.invariant i (omega (arith, lt, c.loop-node-test.false))) c.if-parent-at.false
          c.if-steps-eq16.false,
    )

pub returns-then-at-count-clause-result_value : goal.returns-then-at-count-clause-result_value
returns-then-at-count-clause-result_value c =
    let a = c.args in
    let v = a.live in
    let r = c.requires in
    let w = c.walk in
    elim c.then-at-count.branch [
      | then-at-count-via-then-at-count d ↦
          after_out v.parents.now v.count a.a a.first v.inside r.first_value a.key w.at w.steps w.trail.nodes w.invariant.0 w.invariant.1 w.invariant.2
          d.if-at-count.true
      | then-at-count-via-else-at-count+then-steps-eq16-2 d ↦ elim c.walk-test.branch [
        | else-walk-test b ↦ absurd (omega (arith, b.walk-test.false, d.if-at-count.false))
        | then-walk-test+then-loop-node-test+then-node-at b ↦
            on_spent v.parents.now v.count a.a a.first v.inside r.first_value a.key w.at w.steps w.trail.nodes w.invariant.0 w.invariant.1
            w.invariant.2 d.if-at-count.false b.loop-node.node-index b.loop-node-test.true b.if-node-at.true d.if-steps-eq16-2.true
      ]
    ]

pub returns-clause-result_value : goal.returns-clause-result_value
returns-clause-result_value c =
    let a = c.args in
    let v = a.live in
    let r = c.requires in
    let w = c.walk in
    elim c.walk-test.branch [
      | else-walk-test b ↦ absurd (omega (arith, b.walk-test.false, c.if-at-count.false))
      | then-walk-test+then-loop-node-test+then-node-at b ↦
          rw b.trail-is
          (on_more v.parents.now v.count a.a a.first v.inside r.first_value a.key w.at w.steps w.trail.nodes w.invariant.0 w.invariant.1
          w.invariant.2 c.if-at-count.false b.loop-node.node-index b.loop-node-test.true b.if-node-at.true c.if-steps-eq16-2.false)
    ]
