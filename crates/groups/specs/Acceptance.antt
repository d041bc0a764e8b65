-- Which calls ask for which deeds, and when a table has room for what a call writes: all that a table adds to what its groups accept.
use Rattle.std.specs.Prelude.{◌≢◌, ◌+◌, ◌≤◌, ◌<◌}
use Rattle.kit.specs.Names.{ℕ, length}
use Rattle.rules.specs.Rules.{Call, Table, entries, value, owner_of}
use Rattle.rules.specs.declared.call.Call.TheVariants.{New, Join, Post}
use Rattle.groups.specs.Groups.{Deed, created, joined, posted}

-- The call that asks for a deed, of a table with so many keys.
pub data Asks (count : ℕ) : Call → Deed → Type 0 where
  asks_new : {owner amount : ℕ} → Asks count (New owner amount) (created count (value (owner_of owner) amount))
  asks_join : {a b : ℕ} → Asks count (Join a b) (joined a b)
  asks_post : {key owner amount : ℕ} → Asks count (Post key owner amount) (posted key (value (owner_of owner) amount))

-- The most entries that one call logs: two walks of at most 16 redirects rewrite at most 15 rows each, and then a join writes two.
abbrev pub MOST-LOGGED : ℕ
MOST-LOGGED = 32

-- Room in the log for any one call. "With none open nothing is logged."
abbrev pub LogRoom : Table → Type 0
LogRoom t = t.state.«open» ≢ 0 → t.state.used + MOST-LOGGED ≤ entries t.log

-- A row for the key that a creation makes.
abbrev pub RowRoom : Table → Deed → Type 0
RowRoom t (created key v) = t.state.count < length t.rows.parents
RowRoom t (joined a b) = Unit {0}
RowRoom t (posted key v) = Unit {0}
