-- What creations, joins and posts come to: which keys are linked, what was put on each key, whom it names.
use Rattle.std.specs.Prelude.{◌≡◌, ◌∷◌}
use Rattle.kit.specs.Names.{cond, List, [], Memᴰ, ℕ, zero, suc, eqb}
use Rattle.rules.specs.Rules.{Owner, Value}
use Rattle.rules.specs.declared.table.Owner.TheVariants.{Nobody, Tenant}
use Rattle.groups.specs.Sums.{Credits}
use Rattle.groups.specs.Groups.{Deed, created, joined, posted}

-- ---- links

abbrev pub Pairs : Type 0
Pairs = List (ℕ × ℕ)

-- The pairs of keys that are joined.
abbrev pub joins : List Deed → Pairs
joins [] = []
joins (created key v ∷ ds) = joins ds
joins (joined a b ∷ ds) = (a, b) ∷ joins ds
joins (posted key v ∷ ds) = joins ds

-- Joins link the keys that they name, either way round, and what is linked to the same is linked.
pub data Linked (js : Pairs) : ℕ → ℕ → Type 0 where
  same : {a b : ℕ} → a ≡ b → Linked js a b
  join : {a b : ℕ} → Memᴰ (a, b) js → Linked js a b
  flip : {a b : ℕ} → Linked js b a → Linked js a b
  chain : {a b c : ℕ} → Linked js a b → Linked js b c → Linked js a c

-- ---- sums

-- What creations and posts put on keys, in the measure of `weigh`.
abbrev pub credits : (Value → ℕ) → List Deed → Credits
credits weigh [] = []
credits weigh (created key v ∷ ds) = (key, weigh v) ∷ credits weigh ds
credits weigh (joined a b ∷ ds) = credits weigh ds
credits weigh (posted key v ∷ ds) = (key, weigh v) ∷ credits weigh ds

-- Their byte-seconds.
abbrev pub byte_seconds : List Deed → Credits
byte_seconds = credits (λ v. v.amount)

-- One for each that names the owner n.
abbrev pub named_by : ℕ → Owner → ℕ
named_by n Nobody = 0
named_by n (Tenant m) = cond (eqb m n) 1 0

abbrev pub namings : ℕ → List Deed → Credits
namings n = credits (λ v. named_by n v.owner)

-- ---- keys

abbrev pub created_keys : List Deed → List ℕ
created_keys [] = []
created_keys (created key v ∷ ds) = key ∷ created_keys ds
created_keys (joined a b ∷ ds) = created_keys ds
created_keys (posted key v ∷ ds) = created_keys ds

-- n − 1 down to 0.
abbrev pub down_from : ℕ → List ℕ
down_from zero = []
down_from (suc n) = n ∷ down_from n
