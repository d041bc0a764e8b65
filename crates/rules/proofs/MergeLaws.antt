-- The laws of the merge. All else that is proved of it cites these, so that another merge changes this file alone. Assumes nothing.
use Rattle.std.specs.Prelude.{◌≡◌, ◌≢◌, ◌↔◌, ◌⊎◌, ◌+◌, ◌≤◌, ◌<◌}
use Rattle.kit.specs.Names.{refl, sym, ap, ap₂, ◌∙◌, subst, Bool, true, false, cond, inl, inr, ℕ, ltb, arith, ℕ_discrete, eq-eqb, ne_eqb, ltb-true, ltb-false}
use Rattle.rules.specs.Rules.{Owner, Value, Merged, MAX-U64, value, summed, merge_owned, merge}
use Rattle.rules.specs.declared.table.Owner.TheVariants.{Nobody, Tenant}
use Rattle.std.specs.Prelude.{Ok, Err}
use Rattle.rules.specs.declared.table.MergeError.TheVariants.{Clash, TooMuch}
use Rattle.rules.proofs.ReadLaws.{Real}

-- ---- what a merge gives

-- "two different named owners clash"
abbrev pub Apart : Owner → Owner → Type 0
Apart Nobody p = ⊥
Apart (Tenant a) Nobody = ⊥
Apart (Tenant a) (Tenant b) = a ≢ b

-- "One named owner wins over none."
abbrev pub winner : Owner → Owner → Owner
winner Nobody p = p
winner (Tenant a) p = Tenant a

-- What two owners and the sum of their amounts come to. "Amounts add exactly"; TOO_MUCH: "owners merge, sum above 18446744073709551615".
abbrev pub Judged : Owner → Owner → ℕ → Merged → Type 0
Judged o p n (Err Clash) = Apart o p
Judged o p n (Err TooMuch) = (Apart o p → ⊥) × (MAX-U64 < n)
Judged o p n (Ok x) = (Apart o p → ⊥) × (n ≤ MAX-U64) × (x ≡ value (winner o p) n)

abbrev pub Gives : Value → Value → Merged → Type 0
Gives v w m = Judged v.owner w.owner (v.amount + w.amount) m

summed_judged : (o p : Owner) (n : ℕ) → (Apart o p → ⊥) → Judged o p n (summed (winner o p) n)
summed_judged o p n d = go (ltb MAX-U64 n) refl
  where
    go : (b : Bool) → ltb MAX-U64 n ≡ b → Judged o p n (cond b (Err TooMuch) (Ok (value (winner o p) n)))
    go true e = (d, ltb-true MAX-U64 n e)
    go false e = (d, ltb-false MAX-U64 n e, refl)

judged : (o p : Owner) (n : ℕ) → Judged o p n (merge_owned o p n)
judged Nobody p n = summed_judged Nobody p n (λ z. z)
judged (Tenant a) Nobody n = summed_judged (Tenant a) Nobody n (λ z. z)
judged (Tenant a) (Tenant b) n = elim (ℕ_discrete a b) [
  | yes q ↦ rw (eq-eqb a b q) (summed_judged (Tenant a) (Tenant b) n (λ d. d q))
  | no d ↦ rw (ne_eqb a b d) d
]

-- Two owners and a sum come to one thing alone.
judged_same : (o p : Owner) (n : ℕ) (m m' : Merged) → Judged o p n m → Judged o p n m' → m ≡ m'
judged_same o p n (Err Clash) (Err Clash) j k = refl
judged_same o p n (Err Clash) (Err TooMuch) j k = absurd (k.0 j)
judged_same o p n (Err Clash) (Ok x) j k = absurd (k.0 j)
judged_same o p n (Err TooMuch) (Err Clash) j k = absurd (j.0 k)
judged_same o p n (Err TooMuch) (Err TooMuch) j k = refl
judged_same o p n (Err TooMuch) (Ok x) j k = absurd (omega (arith, j.1, k.1))
judged_same o p n (Ok x) (Err Clash) j k = absurd (j.0 k)
judged_same o p n (Ok x) (Err TooMuch) j k = absurd (omega (arith, j.1, k.1))
judged_same o p n (Ok x) (Ok y) j k = ap Ok (j.2 ∙ sym k.2)

-- It clashes exactly when both name owners that differ, is TOO_MUCH exactly when owners merge and the sum passes, and else is the sum.
pub merge_gives : (v w : Value) (m : Merged) → (merge v w ≡ m) ↔ Gives v w m
unfolding merge
merge_gives v w m =
    let j : Gives v w (merge_owned v.owner w.owner (v.amount + w.amount)) = judged v.owner w.owner (v.amount + w.amount) in
    (λ e. subst (Gives v w) e j, judged_same v.owner w.owner (v.amount + w.amount) _ m j)

-- ---- a merge that is accepted

nobody : (k : ℕ) → Nobody ≡ Tenant k → ⊥
nobody k e = let z : ◌≡◌ {A = ℕ} 0 1 = cc in omega arith

winner_names : (o p : Owner) → (Apart o p → ⊥) → (k : ℕ) → (winner o p ≡ Tenant k) ↔ ((o ≡ Tenant k) ⊎ (p ≡ Tenant k))
winner_names Nobody p d k = (λ y. inr y, λ y. elim y [ inl z ↦ absurd (nobody k z) | inr z ↦ z ])
winner_names (Tenant a) Nobody d k = (λ y. inl y, λ y. elim y [ inl z ↦ z | inr z ↦ absurd (nobody k z) ])
winner_names (Tenant a) (Tenant b) d k = (
  λ y. inl y,
  λ y. elim y [ inl z ↦ z | inr z ↦ elim (ℕ_discrete a b) [ yes q ↦ ap Tenant q ∙ z | no n ↦ absurd (d n) ] ],
)

module _ (v w x : Value) (e : merge v w ≡ Ok x) where
  -- Its amount is the sum, and it names whom either value names: so two that succeed name the same one, if both name one.
  pub merge_adds : x.amount ≡ v.amount + w.amount
  merge_adds = ap (λ (y : Value). y.amount) ((merge_gives v w (Ok x)).0 e).2

  pub merge_names : (k : ℕ) → (x.owner ≡ Tenant k) ↔ ((v.owner ≡ Tenant k) ⊎ (w.owner ≡ Tenant k))
  merge_names k =
      let g = (merge_gives v w (Ok x)).0 e in
      rw (ap (λ (y : Value). y.owner) g.2) (winner_names v.owner w.owner g.0 k)

  -- No owner of number 0 comes of it.
  pub merge_real : Real v.owner → Real w.owner → Real x.owner
  merge_real r s z = elim ((merge_names 0).0 z) [ inl q ↦ r q | inr q ↦ s q ]

-- ---- the order does not matter

apart_flip : (o p : Owner) → Apart o p → Apart p o
apart_flip Nobody Nobody d = d
apart_flip Nobody (Tenant b) d = absurd d
apart_flip (Tenant a) Nobody d = absurd d
apart_flip (Tenant a) (Tenant b) d = λ e. d (sym e)

winner_flip : (o p : Owner) → (Apart o p → ⊥) → winner o p ≡ winner p o
winner_flip Nobody Nobody d = refl
winner_flip Nobody (Tenant b) d = refl
winner_flip (Tenant a) Nobody d = refl
winner_flip (Tenant a) (Tenant b) d = elim (ℕ_discrete a b) [ yes q ↦ ap Tenant q | no n ↦ absurd (d n) ]

judged_flip : (o p : Owner) (n : ℕ) (m : Merged) → Judged o p n m → Judged p o n m
judged_flip o p n (Err Clash) j = apart_flip o p j
judged_flip o p n (Err TooMuch) j = (λ d. j.0 (apart_flip p o d), j.1)
judged_flip o p n (Ok x) j = (λ d. j.0 (apart_flip p o d), j.1, j.2 ∙ ap (λ (q : Owner). value q n) (winner_flip o p j.0))

pub merge_commutes : (v w : Value) → merge v w ≡ merge w v
merge_commutes v w =
    let j : Gives v w (merge w v) = subst (λ (n : ℕ). Judged v.owner w.owner n (merge w v)) (omega arith)
    (judged_flip w.owner v.owner (w.amount + v.amount) (merge w v) ((merge_gives w v (merge w v)).0 refl)) in
    (merge_gives v w (merge w v)).1 j

-- The owners of three values agree, whichever two are merged first.
winner_joins : (o p q : Owner) → winner (winner o p) q ≡ winner o (winner p q)
winner_joins Nobody p q = refl
winner_joins (Tenant a) p q = refl

apart_last : (o p q : Owner) → (Apart o p → ⊥) → (Apart (winner o p) q → ⊥) → (Apart p q → ⊥) × (Apart o (winner p q) → ⊥)
apart_last Nobody p q d d' = (d', λ z. z)
apart_last (Tenant a) Nobody q d d' = (λ z. z, d')
apart_last (Tenant a) (Tenant b) Nobody d d' = (λ z. z, d)
apart_last (Tenant a) (Tenant b) (Tenant c) d d' = (λ z. d (λ e. d' (λ y. z (sym e ∙ y))), d)

-- Where two merges are accepted one after another, so are they the other way, with the same value.
pub merge_associates : (u v w x y : Value) → merge u v ≡ Ok x → merge x w ≡ Ok y
    → (z : Value) × (merge v w ≡ Ok z) × (merge u z ≡ Ok y)
merge_associates u v w x y e f =
    let g = (merge_gives u v (Ok x)).0 e in
    let a : (Apart (winner u.owner v.owner) w.owner → ⊥) × (u.amount + v.amount + w.amount ≤ MAX-U64)
    × (y ≡ value (winner (winner u.owner v.owner) w.owner) (u.amount + v.amount + w.amount)) =
    subst (λ (t : Value). Gives t w (Ok y)) g.2 ((merge_gives x w (Ok y)).0 f) in
    let d = apart_last u.owner v.owner w.owner g.0 a.0 in
    let z : Value = value (winner v.owner w.owner) (v.amount + w.amount) in
    let s : u.amount + v.amount + w.amount ≡ u.amount + (v.amount + w.amount) = omega arith in (
      z,
      (merge_gives v w (Ok z)).1 (d.0, omega (arith, a.1), refl),
      (merge_gives u z (Ok y)).1 (d.1, omega (arith, a.1), a.2 ∙ ap₂ value (winner_joins u.owner v.owner w.owner) s),
    )
