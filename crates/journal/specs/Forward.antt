-- A journal gone through from the front. Q-1: "Reading goes from the end to position 0", but an entry begins with its kind, 1 to 6, and a
-- trailer with a distance of at least 24, so that in a valid journal each place says which of the two begins there.
use Rattle.std.specs.Prelude.{◌∷◌, ◌+◌, ◌≤◌, ◌<◌}
use Rattle.kit.specs.Names.{cond, List, [], ℕ, zero, suc, leb, ltb}
use Rattle.journal.specs.declared.entry.Entry.{Entry}
use Rattle.journal.specs.Numbers.{ENTRY-BYTES, TRAILER-BYTES}
use Rattle.journal.specs.Entry.{Bytes, little_at, read_entry}

-- The entries from a place to an end, with trailers passed over. The place rises with each, so `left` rounds are enough where it is at
-- least what lies between the two.
unfoldable pub forward : ℕ → Bytes → ℕ → ℕ → List Entry
forward zero bs at end = []
forward (suc left) bs at end =
    cond (leb end at) []
    (cond (ltb (little_at 4 bs at) ENTRY-BYTES) (read_entry bs at ∷ forward left bs (at + ENTRY-BYTES) end)
    (forward left bs (at + TRAILER-BYTES) end))

-- The same for a loop: from this place on only these entries and trailers stand, and the last ends where the bytes do.
pub data Onward (bs : Bytes) (end : ℕ) : ℕ → List Entry → Type 0 where
  finish : Onward bs end end []
  entry : {at : ℕ} {es : List Entry} → at + ENTRY-BYTES ≤ end → little_at 4 bs at < ENTRY-BYTES → Onward bs end (at + ENTRY-BYTES) es
      → Onward bs end at (read_entry bs at ∷ es)
  trailer : {at : ℕ} {es : List Entry} → at + TRAILER-BYTES ≤ end → ENTRY-BYTES ≤ little_at 4 bs at → Onward bs end (at + TRAILER-BYTES) es
      → Onward bs end at es
