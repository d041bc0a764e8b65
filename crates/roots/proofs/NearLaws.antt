-- A walk of at most one redirect leads where the rules' walk leads. Assumes nothing.
use Rattle.std.specs.Prelude.{◌≡◌, ◌∷◌, ◌≤◌, ◌<◌, Some, None}
use Rattle.kit.specs.Names.{◌∙◌, List, [], ℕ, zero, suc, get_or, arith, ℕ_discrete, dec_lt, le-leb, lt-leb, eq-eqb, ne_eqb}
use Rattle.rules.specs.Rules.{MAX-REDIRECTS, to, path}
use Rattle.roots.specs.declared.near.Near.{Near}
use Rattle.roots.specs.Near.{near, near_of}
use Rattle.roots.proofs.PathLaws.{path_root, path_more}

-- The rows that such a walk passed.
abbrev pub passed_near : ℕ → ℕ → List ℕ
passed_near key zero = []
passed_near key (suc n) = key ∷ []

-- It ends at that root after so many steps, 0 or 1.
pub record Found (parents : List ℕ) (count key : ℕ) (n : Near) : Type 0 where
  pub is : path parents count MAX-REDIRECTS key ≡ to n.root (passed_near key n.steps)
  pub steps : n.steps ≤ 1
  pub root : n.root < count

module _ (ps : List ℕ) (count key : ℕ) (h : key < count) where
  at_root : get_or ps key 0 ≡ key → Found ps count key (near key 0)
  at_root q = record { is = path_root ps count key MAX-REDIRECTS h q; steps = omega arith; root = h }

  module _ (d : get_or ps key 0 ≡ key → ⊥) (o : get_or ps key 0 < count) where
    below_root : get_or ps (get_or ps key 0) 0 ≡ get_or ps key 0 → Found ps count key (near (get_or ps key 0) 1)
    below_root q =
        let next = get_or ps key 0 in
        record { is = path_more ps count key 15 h d ∙ rw (path_root ps count next 15 o q); steps = omega arith; root = o }

  -- what the code finds is such a walk
  pub near_found : (n : Near) → near_of ps count key ≡ Some n → Found ps count key n
  near_found n e = elim (ℕ_discrete (get_or ps key 0) key) [
    | yes q ↦
        let f : Some (near key 0) ≡ Some n = rw (eq-eqb (get_or ps key 0) key q) at e in
        let z : n ≡ near key 0 = cc in
        rw z (at_root q)
    | no d ↦ elim (dec_lt (get_or ps key 0) count) [
      | yes o ↦ elim (ℕ_discrete (get_or ps (get_or ps key 0) 0) (get_or ps key 0)) [
        | yes q ↦
            let f : Some (near (get_or ps key 0) 1) ≡ Some n =
            rw (ne_eqb (get_or ps key 0) key d, lt-leb count (get_or ps key 0) o, eq-eqb (get_or ps (get_or ps key 0) 0) (get_or ps key 0) q) at e in
            let z : n ≡ near (get_or ps key 0) 1 = cc in
            rw z (below_root d o q)
        | no m ↦
            let f : None ≡ Some n =
            rw (ne_eqb (get_or ps key 0) key d, lt-leb count (get_or ps key 0) o, ne_eqb (get_or ps (get_or ps key 0) 0) (get_or ps key 0) m) at e in
            never n f
      ]
      | no m ↦
          let f : None ≡ Some n = rw (ne_eqb (get_or ps key 0) key d, le-leb count (get_or ps key 0) (omega arith)) at e in
          never n f
    ]
  ]
    where
      never : (n : Near) → None ≡ Some n → Found ps count key n
      never n f = let z : ◌≡◌ {A = ℕ} 0 1 = cc in absurd (omega arith)
