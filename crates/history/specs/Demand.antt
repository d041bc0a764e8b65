-- Demand 3, sentence by sentence, of a table and the history that led to it; and the histories that it is promised for.
use Rattle.std.specs.Prelude.{◌≡◌, ◌∷◌, ◌↔◌, ◌^◌, ◌≤◌, ◌<◌}
use Rattle.kit.specs.Names.{List, [], ℕ}
use Rattle.rules.specs.Rules.{Call, DONE, Rows, Log, Table, table, fresh, row_at, found, to, walked_on, step}
use Rattle.rules.specs.declared.call.Call.TheVariants.{Find}
use Rattle.rules.specs.declared.table.Owner.TheVariants.{Nobody, Tenant}
use Rattle.groups.specs.Sums.{Credits, total, size}
use Rattle.groups.specs.Shown.{walk_in, passed_on, root_in, steps_in}
use Rattle.groups.specs.Track.{History, event, Calm}
use Rattle.groups.specs.Stands.{Lends}
use Rattle.history.specs.Survival.{surviving}
use Rattle.history.specs.Account.{Linked, joins, byte_seconds, namings, created_keys, down_from}

-- ---- groups: the keys of one root, which is where their walks end

abbrev pub Live : Table → ℕ → Type 0
Live t key = key < t.state.count

abbrev pub Root : Table → ℕ → Type 0
Root t r = Live t r × (root_in t r ≡ r)

-- What credits on keys come to in a root's group, and the number of its keys.
abbrev pub in_group : Table → ℕ → Credits → ℕ
in_group t r cs = total (root_in t) r cs

abbrev pub group_size : Table → ℕ → ℕ
group_size t r = size (root_in t) t.state.count r

-- The table as the walk from a key leaves it.
abbrev pub after_walk : Table → ℕ → Table
after_walk t key = table (walked_on t.rows (root_in t key) (passed_on (walk_in t key))).rows t.log t.state

-- No call was answered 8, and none 9.
abbrev pub Peaceful : History → Type 0
Peaceful [] = Unit {0}
Peaceful (e ∷ h) = Calm e.answer.no × Peaceful h

-- ---- the demand

pub record Demand (t : Table) (h : History) : Type 0 where
  -- Each live key's walk ends, at a root; and that is the root that `find` answers, with the walk's steps.
  pub ends : (key : ℕ) → Live t key → (walk_in t key ≡ to (root_in t key) (passed_on (walk_in t key))) × Root t (root_in t key)
  pub finds : (key : ℕ) → (step t (Find key)).answer.no ≡ DONE → (step t (Find key)).answer ≡ found (root_in t key) (steps_in t key)
  -- "two live keys share a root exactly when surviving joins link them"
  pub links : (a b : ℕ) → Live t a → Live t b → (root_in t a ≡ root_in t b) ↔ Linked (joins (surviving h)) a b
  -- "each root's byte-seconds are the exact sum of the surviving creations and posts on its group's keys"
  pub sums : (r : ℕ) → Root t r → (row_at t.rows r).amount ≡ in_group t r (byte_seconds (surviving h))
  -- "each root's owner is the one named in its group's surviving creations and posts"
  pub owners : (r : ℕ) → Root t r → (n : ℕ) → ((row_at t.rows r).owner ≡ Tenant n) ↔ (0 < in_group t r (namings n (surviving h)))
  -- "or none where none is named"
  pub unowned : (r : ℕ) → Root t r → ((n : ℕ) → in_group t r (namings n (surviving h)) ≡ 0) → (row_at t.rows r).owner ≡ Nobody
  -- "for each walk, 2 to the power of its steps is at most the number of keys in its group"
  pub short : (key : ℕ) → Live t key → 2 ^ steps_in t key ≤ group_size t (root_in t key)
  -- and so for a second walk, which a join and `unioned` make in the table as the first leaves it
  pub short_second : (a b : ℕ) → Live t a → Live t b → 2 ^ steps_in (after_walk t a) b ≤ group_size t (root_in t b)
  -- "no call is answered 8, and none 9 where what is lent has equal lengths within the limits"
  pub peace : Peaceful h
  -- "the surviving creations' keys are exactly 0 to count − 1"
  pub keys : created_keys (surviving h) ≡ down_from t.state.count

-- ---- any sequence of calls, "with rows, log and state handed back unaltered from call to call"

pub record Story : Type 0 where
  pub table : Table
  pub past : History

abbrev pub turn : Story → Call → Story
turn s c = record { table = (step s.table c).table; past = event c (step s.table c).answer ∷ s.past }

unfoldable pub tell : Story → List Call → Story
tell s [] = s
tell s (c ∷ cs) = tell (turn s c) cs

-- "from a fresh table whose lent rows and log hold anything at all"
abbrev pub begin : Rows → Log → Story
begin rs l = record { table = table rs l fresh; past = [] }

-- The promise.
abbrev pub Demand3 : Type 0
Demand3 =
    (rs : Rows) (l : Log) (rows entries : ℕ) → Lends rs l rows entries → (cs : List Call)
    → Demand (tell (begin rs l) cs).table (tell (begin rs l) cs).past
