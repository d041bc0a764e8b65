-- The ways on from the loop's head.
use Rattle.std.proofs.Common.{◌≡◌, ◌∙◌, sym, take, arith, length-set}
use Rattle.roots.proofs.PathLaws.{along_broken, trace_root, trace_out, still_ahead, ahead_more}
use Rattle.roots.proofs.path.trace_into.Goals as goal

pub returns-then-at-count-clause-result_value : goal.returns-then-at-count-clause-result_value
returns-then-at-count-clause-result_value c =
    let a = c.args.live in
    let k = c.loop-steps in
    let inv = still_ahead a.parents.now k.trail.nodes a.count c.args.key k.at k.steps c.loop-steps-test.true k.invariant.0 k.invariant.1 in
    trace_out a.parents.now k.trail.nodes a.count c.args.key k.at k.steps (omega (arith, c.loop-steps-test.true)) k.invariant.0 inv c.if-at-count.true

pub returns-then-parent-at-clause-result_value : goal.returns-then-parent-at-clause-result_value
returns-then-parent-at-clause-result_value c =
    let a = c.args.live in
    let k = c.loop-steps in
    let inv = still_ahead a.parents.now k.trail.nodes a.count c.args.key k.at k.steps c.loop-steps-test.true k.invariant.0 k.invariant.1 in
    trace_root a.parents.now k.trail.nodes a.count c.args.key k.at k.steps (omega (arith, c.loop-steps-test.true)) k.invariant.0 inv
    c.if-at-count.false c.if-parent-at.true

pub returns-then-parent-at-clause-short : goal.returns-then-parent-at-clause-short
returns-then-parent-at-clause-short c =
    let k = c.loop-steps in
    record { steps = omega (arith, c.loop-steps-test.true); size = length-set k.trail.nodes k.steps k.at ∙ k.invariant.0 }

pub loop-steps-preserved : goal.loop-steps-preserved
loop-steps-preserved c =
    let a = c.args.live in
    let k = c.loop-steps in (
      length-set k.trail.nodes k.steps k.at ∙ k.invariant.0,
      ahead_more a.parents.now k.trail.nodes a.count c.args.key k.at k.steps c.loop-steps-test.true k.invariant.0 k.invariant.1
          c.if-at-count.false c.if-parent-at.false,
    )

pub returns-clause-result_value : goal.returns-clause-result_value
returns-clause-result_value c =
    let a = c.args.live in
    let k = c.loop-steps in
    let all : k.steps ≡ 17 = omega (arith, c.loop-steps-test.false, k.auto.steps-end) in
    let inv = rw all at k.invariant.1 in
    sym (inv ∙ along_broken (take 17 k.trail.nodes))
