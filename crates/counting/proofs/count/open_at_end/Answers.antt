-- What is left of the journal leaves as many open.
use Rattle.std.proofs.Common.{rules}
use Rattle.counting.proofs.OpenLaws.{counting_starts, stands_here, counting_on, counting_ends}
use Rattle.counting.proofs.count.open_at_end.Goals as goal

pub loop-kind-init : goal.loop-kind-init
loop-kind-init c =
    let all = c.new-kind-items.ensures.all in
    rw c.into_iter-kind-iterator.ensures.into_iter_gives
    record { can_next = c.new-kind-items.ensures.left; is_finite = tt; left = counting_starts c.args.bytes.now c.requires all }

pub open_after-so_far-requires : goal.open_after-so_far-requires
open_after-so_far-requires c = stands_here c.args.bytes.now c.loop-kind.so_far c.loop-kind.invariant.left c.in-Some.ensures.steps

pub loop-kind-preserved : goal.loop-kind-preserved
loop-kind-preserved c =
    let left = counting_on c.args.bytes.now c.loop-kind.so_far c.loop-kind.invariant.left c.in-Some.ensures.steps c.open_after-so_far.ensures in
    record { can_next = search rules; is_finite = tt; left = left }

pub returns : goal.returns
returns c = counting_ends c.args.bytes.now c.loop-kind.so_far c.loop-kind.invariant.left (search rules)
