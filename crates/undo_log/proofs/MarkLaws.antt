-- The mark that a token names, and the one that a call is about. Assumes nothing.
use Rattle.std.specs.Prelude.{◌≡◌, ◌≤◌, ◌<◌}
use Rattle.kit.specs.Names.{ℕ, suc, lt-ltb, le-ltb, eq-eqb, ne_eqb}
use Rattle.rules.specs.Rules.{Call, State, MAX-OPEN, mark_at, seek}
use Rattle.std.specs.Prelude.{None, Some}
use Rattle.undo_log.specs.Settled.{mark_of, mark_for}

module _ (s : State) (token left : ℕ) where
  pub seek_hit : (mark_at s left).serial ≡ token → Some (mark_at s left) ≡ seek s token (suc left)
  unfolding seek
  seek_hit q = rw (eq-eqb (mark_at s left).serial token q)

  pub seek_miss : ((mark_at s left).serial ≡ token → ⊥) → seek s token (suc left) ≡ seek s token left
  unfolding seek
  seek_miss d = rw (ne_eqb (mark_at s left).serial token d)

-- ---- the mark that a call is about

module _ (s : State) (c : Call) where
  pub mark_for_many : MAX-OPEN < s.«open» → None ≡ mark_for s c
  unfolding mark_for
  mark_for_many h = rw (lt-ltb MAX-OPEN s.«open» h)

  pub mark_for_few : s.«open» ≤ MAX-OPEN → mark_of s c ≡ mark_for s c
  unfolding mark_for
  mark_for_few h = rw (le-ltb MAX-OPEN s.«open» h)
