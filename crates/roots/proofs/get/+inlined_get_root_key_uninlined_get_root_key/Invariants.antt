-- The measures are twice the redirects left, and one more for the first of the pair.
use Rattle.std.proofs.Common.{◌+◌, ◌*◌}
use Rattle.roots.proofs.get.+inlined_get_root_key_uninlined_get_root_key.Given as goal

abbrev pub decreases-inlined_get_root_key : goal.decreases-inlined_get_root_key
decreases-inlined_get_root_key l = 2 * l.left + 1

abbrev pub decreases-uninlined_get_root_key : goal.decreases-uninlined_get_root_key
decreases-uninlined_get_root_key l = 2 * l.left
