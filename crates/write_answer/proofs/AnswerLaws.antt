-- Numbers stored one after the other. Assumes nothing.
use Rattle.std.specs.Prelude.{◌≡◌, ◌∷◌, ◌+◌, ◌≤◌, ◌<◌}
use Rattle.kit.specs.Names.{refl, sym, ap, ◌∙◌, List, ℕ, suc, length, get_or, set, drop, length-set, drop_of_length-le, sets, drop-cons, arith, add-one}

-- The numbers below i are stored from `at` on, and the others lead to the same list.
pub record Stored (l₀ l fs : List ℕ) (at i : ℕ) : Type 0 where
  pub kept : length l ≡ length l₀
  pub rest : sets l (at + i) (drop i fs) ≡ sets l₀ at fs

module _ (l₀ l fs : List ℕ) (at : ℕ) where
  pub none_stored : Stored l l fs at 0
  none_stored = let e : at + 0 ≡ at = omega arith in record { kept = refl; rest = rw e }

  pub one_stored : (i : ℕ) → i < length fs → Stored l₀ l fs at i → Stored l₀ (set l (at + i) (get_or fs i 0)) fs at (i + 1)
  one_stored i h s =
      let e : at + (i + 1) ≡ suc (at + i) = omega arith in
      let d : drop i fs ≡ get_or fs i 0 ∷ drop (i + 1) fs = drop-cons fs i 0 h ∙ rw (add-one i) in
      record { kept = length-set l (at + i) (get_or fs i 0) ∙ s.kept; rest = rw e (rw d at s.rest) }

  pub all_stored : (i : ℕ) (gs : List ℕ) → length fs ≤ i → fs ≡ gs → Stored l₀ l fs at i → l ≡ sets l₀ at gs
  all_stored i gs h q s =
      sym (ap (sets l (at + i)) (drop_of_length-le fs h)) ∙ s.rest ∙ ap (sets l₀ at) q
