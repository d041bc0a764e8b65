-- What `inlined_get_root_key` hands on is the rest of its walk, with one redirect less at each round.
use Rattle.std.proofs.Common.{arith}
use Rattle.roots.proofs.WalkLaws.{lead_in, lead_root, lead_next, lead_below, lead_above}
use Rattle.roots.proofs.get.+inlined_get_root_key_uninlined_get_root_key.Goals as goal

pub inlined_get_root_key-bounds-parents-at : goal.inlined_get_root_key-bounds-parents-at
inlined_get_root_key-bounds-parents-at t c = omega (arith, lead_in c.requires, c.requires.inside)

pub inlined_get_root_key-returns-then-redirect-vid : goal.inlined_get_root_key-returns-then-redirect-vid
inlined_get_root_key-returns-then-redirect-vid t c = lead_root c.requires c.if-redirect-vid.true

pub inlined_get_root_key-uninlined_get_root_key-root-requires : goal.inlined_get_root_key-uninlined_get_root_key-root-requires
inlined_get_root_key-uninlined_get_root_key-root-requires t c =
    (omega (arith, c.decreases), lead_next c.requires c.if-redirect-vid.false)

pub inlined_get_root_key-returns-then-root-redirect : goal.inlined_get_root_key-returns-then-root-redirect
inlined_get_root_key-returns-then-root-redirect t c =
    lead_below c.requires c.if-redirect-vid.false _ _ c.uninlined_get_root_key-root.ensures c.if-root-redirect.true

pub inlined_get_root_key-bounds-parents-at-2 : goal.inlined_get_root_key-bounds-parents-at-2
inlined_get_root_key-bounds-parents-at-2 t c =
    omega (arith, lead_in c.requires, c.requires.inside, c.uninlined_get_root_key-root.auto.parents)

pub inlined_get_root_key-returns : goal.inlined_get_root_key-returns
inlined_get_root_key-returns t c =
    lead_above c.requires c.if-redirect-vid.false _ _ c.uninlined_get_root_key-root.ensures c.if-root-redirect.false
