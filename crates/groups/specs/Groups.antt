-- Document 01, "The meter's table", without parents and without a log: what a creation, a join and a post make of the groups.
use Rattle.std.specs.Prelude.{◌≡◌, ◌∷◌, ◌⊎◌, ◌+◌, ◌<◌, Ok, Err}
use Rattle.kit.specs.Names.{cond, List, [], ℕ, suc, eqb, ltb}
use Rattle.rules.specs.Rules.{Value, Merged, none, merge}
use Rattle.rules.specs.declared.table.MergeError.TheVariants.{Clash, TooMuch}

-- The root of each key, each root's rank, and its owner and amount. "Live keys are 0 to count − 1"; a key that is not there yet is
-- its own root. "only a root's rank, owner and amount mean anything".
pub record Groups : Type 0 where
  pub count : ℕ
  pub root : ℕ → ℕ
  pub rank : ℕ → ℕ
  pub value : ℕ → Value

abbrev pub no_groups : Groups
no_groups = record { count = 0; root = λ i. i; rank = λ i. 0; value = λ i. none }

-- What moves the groups: a key created with a value, two keys joined, a value posted on a key.
pub data Deed : Type 0 where
  created : ℕ → Value → Deed
  joined : ℕ → ℕ → Deed
  posted : ℕ → Value → Deed

-- ---- parts of a step

-- f, but x at key.
abbrev pub at : {A : Type 0} → ℕ → A → (ℕ → A) → ℕ → A
at key x f i = cond (eqb i key) x (f i)

-- The keys of root `low` get the root `high`.
abbrev pub shift : (ℕ → ℕ) → ℕ → ℕ → ℕ → ℕ
shift root low high i = cond (eqb (root i) low) high (root i)

-- The group of the root `low` goes into that of the root `high`, which gets a rank and a value.
abbrev pub hung : Groups → ℕ → ℕ → ℕ → Value → Groups
hung g low high k v =
    record { count = g.count; root = shift g.root low high; rank = at high k g.rank; value = at high v g.value }

-- "Unequal ranks: the lower root redirects to the higher, whose rank stays. Equal ranks: a's root redirects to b's, whose rank
-- grows by 1." The rank of a root of rank `own` under which one of rank `other`, no higher, is hung:
abbrev pub raised : ℕ → ℕ → ℕ
raised other own = cond (ltb other own) own (own + 1)

abbrev pub hung_by_rank : Groups → ℕ → ℕ → Value → Groups
hung_by_rank g a b v =
    cond (ltb (g.rank b) (g.rank a)) (hung g b a (g.rank a) v) (hung g a b (raised (g.rank a) (g.rank b)) v)

-- A merge that fails moves nothing.
abbrev pub if_both : Groups → (Value → Groups) → Merged → Groups
if_both g move (Err Clash) = g
if_both g move (Err TooMuch) = g
if_both g move (Ok v) = move v

-- ---- the step of each deed, and of a list of them, the newest first

-- "Equal roots: done, values not merged. Else merge a's root with b's." "walk, merge the root's value with the given one, write owner
-- and amount."
unfoldable pub group_step : Groups → Deed → Groups
group_step g (created key v) = record { count = suc g.count; root = g.root; rank = at key 0 g.rank; value = at key v g.value }
group_step g (joined a b) =
    let r = g.root a in
    let s = g.root b in
    cond (eqb r s) g (if_both g (hung_by_rank g r s) (merge (g.value r) (g.value s)))
group_step g (posted key v) =
    let r = g.root key in
    if_both g (λ w. record { count = g.count; root = g.root; rank = g.rank; value = at r w g.value }) (merge (g.value r) v)

unfoldable pub replay : List Deed → Groups
replay [] = no_groups
replay (d ∷ ds) = group_step (replay ds) d

-- ---- deeds that a table would answer with DONE

-- The merge succeeds.
abbrev pub Merges : Value → Value → Type 0
Merges v w = (x : Value) × (merge v w ≡ Ok x)

abbrev pub Accepts : Groups → Deed → Type 0
Accepts g (created key v) = key ≡ g.count
Accepts g (joined a b) =
    (a < g.count) × (b < g.count) × ((g.root a ≡ g.root b) ⊎ Merges (g.value (g.root a)) (g.value (g.root b)))
Accepts g (posted key v) = (key < g.count) × Merges (g.value (g.root key)) v

abbrev pub Accepted : List Deed → Type 0
Accepted [] = Unit {0}
Accepted (d ∷ ds) = Accepts (replay ds) d × Accepted ds
