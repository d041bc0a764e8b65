-- The rows of a path are distinct. Assumes nothing.
use Rattle.std.specs.Prelude.{◌≡◌, ◌∷◌, ◌-◌, ◌<◌}
use Rattle.kit.specs.Names.{ap, sym, ◌∙◌, List, [], ℕ, zero, suc, length, get_or, drop, length-drop, arith, ℕ_discrete}
use Rattle.rules.specs.Rules.{to, path}
use Rattle.roots.proofs.PathLaws.{path_root}
use Rattle.roots.proofs.WalkLaws.{path_in, path_back}
use Rattle.roots.proofs.AfterLaws.{Off, path_cons}

module _ (ps : List ℕ) (count : ℕ) where
  -- a path from a root passes nothing
  bare : (left key root : ℕ) (passed : List ℕ) → get_or ps key 0 ≡ key → path ps count left key ≡ to root passed → length passed ≡ 0
  bare left key root passed q e =
      let f = path_root ps count key left (path_in ps count key left root passed e) q in
      let none : passed ≡ [] = cc in
      rw none

  -- two paths from one key are as long as each other, whatever redirects they had left
  as_long : (left left' key root root' : ℕ) (passed passed' : List ℕ) → path ps count left key ≡ to root passed → path ps count left' key ≡ to root' passed'
      → length passed ≡ length passed'
  as_long zero left' key root root' passed passed' e f = elim (ℕ_discrete (get_or ps key 0) key) [
    | yes q ↦ bare zero key root passed q e ∙ sym (bare left' key root' passed' q f)
    | no n ↦ let b = path_back ps count key zero root passed e n in absurd (omega arith)
  ]
  as_long (suc left) left' key root root' passed passed' e f = elim (ℕ_discrete (get_or ps key 0) key) [
    | yes q ↦ bare (suc left) key root passed q e ∙ sym (bare left' key root' passed' q f)
    | no n ↦
        let b = path_back ps count key (suc left) root passed e n in
        let d = path_back ps count key left' root' passed' f n in
        let down : suc left - 1 ≡ left = omega arith in
        let h = as_long left (left' - 1) (get_or ps key 0) root root' b.rest d.rest (rw down at b.onward) d.onward in
        omega (arith, ap length b.first, ap length d.first)
  ]

  -- from a row that a path passes, the rest of it is a path
  pub suffix : (left key root : ℕ) (passed : List ℕ) → path ps count left key ≡ to root passed → (j : ℕ) → j < length passed
      → (left' : ℕ) × (path ps count left' (get_or passed j 0) ≡ to root (drop j passed))
  suffix left key root [] e j h = absurd (omega arith)
  suffix left key root (k ∷ passed) e zero h =
      let c = path_cons ps count key left root k passed e in
      (left, rw c.first (rw c.first at e))
  suffix left key root (k ∷ passed) e (suc j) h =
      let c = path_cons ps count key left root k passed e in
      suffix (left - 1) (get_or ps key 0) root passed c.onward j (omega arith)

  -- the first row of a path is none of the others
  pub first_off : (left key root k : ℕ) (passed : List ℕ) → path ps count left key ≡ to root (k ∷ passed) → Off k passed
  first_off left key root k passed e j h q =
      let c = path_cons ps count key left root k passed e in
      let s = suffix (left - 1) (get_or ps key 0) root passed c.onward j h in
      let same : get_or passed j 0 ≡ key = q ∙ c.first in
      let long = as_long left s.0 key root root (k ∷ passed) (drop j passed) e (rw same at s.1) in
      omega (arith, length-drop j passed)

  -- every row that a path passes is below the count
  pub passed_in : (left key root : ℕ) (passed : List ℕ) → path ps count left key ≡ to root passed → (j : ℕ) → j < length passed
      → get_or passed j 0 < count
  passed_in left key root passed e j h =
      let s = suffix left key root passed e j h in
      path_in ps count (get_or passed j 0) s.0 root (drop j passed) s.1
