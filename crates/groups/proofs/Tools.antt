-- Cases: on a test, on whether two numbers are the same.
use Rattle.std.specs.Prelude.{◌≡◌, ◌≢◌, ◌⊎◌, ◌<◌}
use Rattle.kit.specs.Names.{refl, Bool, true, false, cond, inl, inr, ℕ, suc, eqb, arith, eqb-true, eqb-false}

pub cases : {P : Type 0} (b : Bool) → (b ≡ true → P) → (b ≡ false → P) → P
cases true f g = f refl
cases false f g = g refl

-- What holds of both is held by the one that a test picks.
pub on_cond : {A : Type 0} (P : A → Type 0) (b : Bool) {x y : A} → (b ≡ true → P x) → (b ≡ false → P y) → P (cond b x y)
on_cond P true f g = f refl
on_cond P false f g = g refl

pub by_same : {P : Type 0} (a b : ℕ) → (a ≡ b → P) → (a ≢ b → P) → P
by_same a b f g = cases (eqb a b) (λ e. f (eqb-true a b e)) (λ e. g (eqb-false a b e))

-- Below n + 1: n itself, or below it.
pub up_to : {P : Type 0} (n i : ℕ) → i < suc n → (i ≡ n → P) → (i < n → P) → P
up_to n i h f g = by_same i n f (λ d. g (omega arith))

pub either : {A B P : Type 0} → A ⊎ B → (A → P) → (B → P) → P
either (inl a) f g = f a
either (inr b) f g = g b
