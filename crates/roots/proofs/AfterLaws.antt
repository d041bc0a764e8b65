-- Laws of the parents that a walk leaves off its path, and of a path's first row and root. Assumes nothing.
use Rattle.std.specs.Prelude.{◌≡◌, ◌∷◌, ◌-◌, ◌<◌}
use Rattle.kit.specs.Names.{refl, ap, sym, ◌∙◌, List, [], ℕ, suc, length, get_or, get_or-set_other, arith}
use Rattle.rules.specs.Rules.{to, path}
use Rattle.roots.specs.Trail.{compress}
use Rattle.roots.proofs.PathLaws.{path_root}
use Rattle.roots.proofs.WalkLaws.{path_in, path_back, path_nil}

-- x is none of the keys
abbrev pub Off : ℕ → List ℕ → Type 0
Off x keys = (j : ℕ) → j < length keys → get_or keys j 0 ≡ x → ⊥

off_tail : (x key : ℕ) (keys : List ℕ) → Off x (key ∷ keys) → Off x keys
off_tail x key keys off j lt q = off (suc j) (omega arith) q

pub compress_off : (root x : ℕ) (passed ps : List ℕ) → Off x passed → get_or (compress root passed ps) x 0 ≡ get_or ps x 0
unfolding compress
compress_off root x [] ps off = refl
compress_off root x (key ∷ []) ps off = refl
compress_off root x (key ∷ next ∷ passed) ps off =
    get_or-set_other (compress root (next ∷ passed) ps) key x root 0 (λ q. off 0 (omega arith) (sym q))
    ∙ compress_off root x (next ∷ passed) ps (off_tail x key (next ∷ passed) off)

-- a path with a passed row its root: the row is the key, no root, and the path goes on its from parent
pub record Cons (ps : List ℕ) (count key left root k : ℕ) (passed : List ℕ) : Type 0 where
  pub first : k ≡ key
  pub no_root : get_or ps key 0 ≡ key → ⊥
  pub onward : path ps count (left - 1) (get_or ps key 0) ≡ to root passed

pub path_cons : (ps : List ℕ) (count key left root k : ℕ) (passed : List ℕ) → path ps count left key ≡ to root (k ∷ passed)
    → Cons ps count key left root k passed
path_cons ps count key left root k passed e =
    let n : get_or ps key 0 ≡ key → ⊥ =
    λ q. let f = path_root ps count key left (path_in ps count key left root (k ∷ passed) e) q in
    let z : ◌≡◌ {A = ℕ} 0 1 = cc in omega arith in
    let b = path_back ps count key left root (k ∷ passed) e n in
    let f = b.first in
    let same : b.rest ≡ passed = cc in
    record { first = cc; no_root = n; onward = b.onward ∙ ap (λ (l : List ℕ). to root l) same }

-- the root is a row
pub root_in_lem : (ps : List ℕ) (count key left root : ℕ) (passed : List ℕ) → path ps count left key ≡ to root passed → root < count
root_in_lem ps count key left root [] e = rw (path_nil ps count key left root e) (path_in ps count key left root [] e)
root_in_lem ps count key left root (k ∷ passed) e =
    let c = path_cons ps count key left root k passed e in
    root_in_lem ps count (get_or ps key 0) (left - 1) root passed c.onward
