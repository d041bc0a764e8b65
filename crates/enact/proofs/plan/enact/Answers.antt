-- The walks, one after the other, and then the end. There is room after each for what is left.
use Rattle.std.proofs.Common.{◌+◌, length, arith}
use Rattle.snapshot_vec.specs.Memory.{memory_by}
use Rattle.roots.specs.Trail.{walk_of}
use Rattle.roots.proofs.TrailLaws.{walk_length}
use Rattle.plans.specs.Plans.{finish_of}
use Rattle.rewrites.proofs.ReadyLaws.{ready_less, ready_puts, puts_three, sound_after}
use Rattle.enact.proofs.plan.enact.Goals as goal

pub rewrite-requires-clause-ready : goal.rewrite-requires-clause-ready
rewrite-requires-clause-ready c =
    ready_less c.requires.ready _ (omega (arith, walk_length c.args.first c.requires.sound.short))

pub rewrite-requires-2-clause-sound : goal.rewrite-requires-2-clause-sound
rewrite-requires-2-clause-sound c =
    let a = c.args in
    let one = memory_by c.rewrite.new.values in
    sound_after (memory_by a.values.now) one a.first a.second a.count c.rewrite.ensures.value c.requires.sound_2

pub rewrite-requires-2-clause-ready : goal.rewrite-requires-2-clause-ready
rewrite-requires-2-clause-ready c =
    let a = c.args in
    let m = memory_by a.values.now in
    let one = memory_by c.rewrite.new.values in
    let left = length (walk_of a.second) + length (finish_of a.end) in
    ready_less {m = one} (ready_puts a.count left m one (walk_of a.first) c.rewrite.ensures.value c.requires.ready) _
    (omega (arith, walk_length a.second c.requires.sound_2.short))

pub finish-requires-clause-ready : goal.finish-requires-clause-ready
finish-requires-clause-ready c =
    let a = c.args in
    let m = memory_by a.values.now in
    let one = memory_by c.rewrite.new.values in
    let two = memory_by c.rewrite-2.new.values in
    let left = length (walk_of a.second) + length (finish_of a.end) in
    ready_puts a.count (length (finish_of a.end)) one two (walk_of a.second) c.rewrite-2.ensures.value
    (ready_puts a.count left m one (walk_of a.first) c.rewrite.ensures.value c.requires.ready)

pub returns-clause-value : goal.returns-clause-value
returns-clause-value c =
    let a = c.args in
    let m = memory_by a.values.now in
    let one = memory_by c.rewrite.new.values in
    let two = memory_by c.rewrite-2.new.values in
    let three = memory_by c.finish.new.values in
    puts_three m one two three (walk_of a.first) (walk_of a.second) a.end c.rewrite.ensures.value c.rewrite-2.ensures.value
    c.finish.ensures.value
