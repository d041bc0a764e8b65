-- Laws of a path's ends and of a walk along it. Assumes nothing.
use Rattle.std.specs.Prelude.{◌≡◌, ◌∷◌, ◌-◌, ◌≤◌, ◌<◌}
use Rattle.kit.specs.Names.{refl, ap, sym, ◌∙◌, List, [], ℕ, zero, suc, length, get_or, set, arith, dec_lt, ℕ_discrete}
use Rattle.rules.specs.Rules.{Path, broken, to, from, path}
use Rattle.roots.specs.Trail.{Leads, Landed, landed, land, compress}
use Rattle.roots.proofs.PathLaws.{path_out, path_root, path_spent, path_more}

never : {A : Type 0} (root : ℕ) (passed : List ℕ) → broken ≡ to root passed → A
never root passed e = let z : ◌≡◌ {A = ℕ} 0 1 = cc in absurd (omega arith)

-- a path from a that row is no root goes on from its parent
pub record Back (ps : List ℕ) (count key left root : ℕ) (passed : List ℕ) : Type 0 where
  pub rest : List ℕ
  pub some_left : 0 < left
  pub onward : path ps count (left - 1) (get_or ps key 0) ≡ to root rest
  pub first : passed ≡ key ∷ rest

module _ (ps : List ℕ) (count : ℕ) where
  pub path_in : (key left root : ℕ) (passed : List ℕ) → path ps count left key ≡ to root passed → key < count
  path_in key left root passed e = go (dec_lt key count)
    where
      go : Dec (key < count) → key < count
      go (yes h) = h
      go (no n) = never root passed (sym (path_out ps count key left (omega arith)) ∙ e)

  pub path_back : (key left root : ℕ) (passed : List ℕ) → path ps count left key ≡ to root passed → (get_or ps key 0 ≡ key → ⊥)
      → Back ps count key left root passed
  path_back key zero root passed e n = never root passed (sym (path_spent ps count key (path_in key zero root passed e) n) ∙ e)
  path_back key (suc left) root passed e n =
      go (path ps count left (get_or ps key 0)) refl (sym (path_more ps count key left (path_in key (suc left) root passed e) n) ∙ e)
    where
      go : (p : Path) → path ps count left (get_or ps key 0) ≡ p → from key p ≡ to root passed → Back ps count key (suc left) root passed
      go broken q f = never root passed f
      go (to r ns) q f =
          let down : suc left - 1 ≡ left = omega arith in
          record { rest = ns; some_left = omega arith; onward = rw (down, q) (cc); first = cc }

  root_end : (left key root : ℕ) (passed : List ℕ) → path ps count left key ≡ to root passed → get_or ps key 0 ≡ key
      → (get_or ps root 0 ≡ root) × (length passed ≤ left)
  root_end left key root passed e q =
      let f = path_root ps count key left (path_in key left root passed e) q in
      let same : root ≡ key = cc in
      let none : passed ≡ [] = cc in
      (rw same q, rw none (omega arith))

  more_end : (left key root : ℕ) (passed : List ℕ) → path ps count (suc left) key ≡ to root passed → (get_or ps key 0 ≡ key → ⊥)
      → ((k : ℕ) (ns : List ℕ) → path ps count left k ≡ to root ns → (get_or ps root 0 ≡ root) × (length ns ≤ left))
      → (get_or ps root 0 ≡ root) × (length passed ≤ suc left)
  more_end left key root passed e n ih =
      let b = path_back key (suc left) root passed e n in
      let down : suc left - 1 ≡ left = omega arith in
      let h = ih (get_or ps key 0) b.rest (rw down at b.onward) in
      (h.0, rw b.first (omega arith))

  -- a path ends at root, a and follows at most `left` redirects
  pub path_end : (left key root : ℕ) (passed : List ℕ) → path ps count left key ≡ to root passed
      → (get_or ps root 0 ≡ root) × (length passed ≤ left)
  path_end zero key root passed e = elim (ℕ_discrete (get_or ps key 0) key) [
    | yes q ↦ root_end zero key root passed e q
    | no n ↦ let b = path_back key zero root passed e n in absurd (omega arith)
  ]
  path_end (suc left) key root passed e = elim (ℕ_discrete (get_or ps key 0) key) [
    | yes q ↦ root_end (suc left) key root passed e q
    | no n ↦ more_end left key root passed e n (λ k ns. path_end left k root ns)
  ]

  -- a path whose root its is key has no row passed the root
  pub path_self : (key left : ℕ) (passed : List ℕ) → path ps count left key ≡ to key passed → passed ≡ []
  path_self key left passed e =
      let f = path_root ps count key left (path_in key left key passed e) (path_end left key key passed e).0 in
      cc

  -- a path with no passed row its root starts there
  pub path_nil : (key left root : ℕ) → path ps count left key ≡ to root [] → root ≡ key
  path_nil key left root e = elim (ℕ_discrete (get_or ps key 0) key) [
    | yes q ↦ let f = path_root ps count key left (path_in key left root [] e) q in cc
    | no n ↦ let b = path_back key left root [] e n in let f = b.first in cc
  ]

-- ---- the pair: a walk that is there goes on from the parent, and what comes back is the rest of it

module _ {ps : List ℕ} {count left key : ℕ} (w : Leads ps count left key) where
  pub lead_in : key < count
  lead_in = path_in ps count key left w.root w.passed w.there

  pub lead_root : get_or ps key 0 ≡ key → landed key ps ≡ land (path ps count left key) ps
  unfolding compress
  lead_root q = rw (path_root ps count key left lead_in q)

  module _ (n : get_or ps key 0 ≡ key → ⊥) where
    lead_back : Back ps count key left w.root w.passed
    lead_back = path_back ps count key left w.root w.passed w.there n

    pub lead_next : (0 < left) × Leads ps count (left - 1) (get_or ps key 0)
    lead_next =
        let b = lead_back in
        (b.some_left, record { root = w.root; passed = b.rest; there = b.onward; inside = w.inside })

    -- the root and the parents that came back
    module _ (root : ℕ) (ps' : List ℕ) (e : landed root ps' ≡ land (path ps count (left - 1) (get_or ps key 0)) ps) where
      next_is : landed root ps' ≡ landed w.root (compress w.root lead_back.rest ps)
      next_is = rw lead_back.onward at e

      next_root : root ≡ w.root
      next_root = ap (λ (l : Landed). l.root) next_is

      next_parents : ps' ≡ compress w.root lead_back.rest ps
      next_parents = ap (λ (l : Landed). l.parents) next_is

      -- the parent is the root: nothing is rewritten
      pub lead_below : root ≡ get_or ps key 0 → landed root ps' ≡ land (path ps count left key) ps
      unfolding compress
      lead_below q =
          let b = lead_back in
          let none : b.rest ≡ [] = path_self ps count (get_or ps key 0) (left - 1) b.rest (b.onward ∙ ap (λ (x : ℕ). to x b.rest) (sym next_root ∙ q)) in
          rw (w.there, b.first, next_root, next_parents, none)

      -- it is not: this row is rewritten
      pub lead_above : (root ≡ get_or ps key 0 → ⊥) → landed root (set ps' key root) ≡ land (path ps count left key) ps
      unfolding compress
      lead_above q = go lead_back.rest refl
        where
          go : (l : List ℕ) → lead_back.rest ≡ l → landed root (set ps' key root) ≡ land (path ps count left key) ps
          go [] f = absurd (q (next_root ∙ path_nil ps count (get_or ps key 0) (left - 1) w.root (rw f at lead_back.onward)))
          go (k ∷ ks) f = rw (w.there, lead_back.first, next_root, next_parents, f)
