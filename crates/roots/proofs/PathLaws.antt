-- Laws of `path`. Assumes nothing.
use Rattle.std.specs.Prelude.{◌≡◌, ◌∷◌, ◌++◌, ◌+◌, ◌-◌, ◌≤◌, ◌<◌}
use Rattle.kit.specs.Names.{refl, ap, cond, leb, List, [], append-nil, ℕ, zero, suc, length, get_or, take, set, take-suc-set, get_or-set_same, take-set-le, arith, add-one}
use Rattle.kit.specs.Names.{sym, ◌∙◌, false, lt-ltb, le-ltb, le-leb, eq-eqb, ne_eqb, ℕ_discrete}
use Rattle.rules.specs.Rules.{Path, broken, to, from, path}

module _ (ps : List ℕ) (count key : ℕ) where
  pub path_out : (left : ℕ) → count ≤ key → path ps count left key ≡ broken
  unfolding path
  path_out zero h = simp (le-ltb key count h)
  path_out (suc left) h = simp (le-ltb key count h)

  pub path_root : (left : ℕ) → key < count → get_or ps key 0 ≡ key → path ps count left key ≡ to key []
  unfolding path
  path_root zero h e = simp (lt-ltb key count h, eq-eqb (get_or ps key 0) key e)
  path_root (suc left) h e = simp (lt-ltb key count h, eq-eqb (get_or ps key 0) key e)

  pub path_spent : key < count → (get_or ps key 0 ≡ key → ⊥) → path ps count 0 key ≡ broken
  unfolding path
  path_spent h n = simp (lt-ltb key count h, ne_eqb (get_or ps key 0) key n)

  pub path_more : (left : ℕ) → key < count → (get_or ps key 0 ≡ key → ⊥)
      → path ps count (suc left) key ≡ from key (path ps count left (get_or ps key 0))
  unfolding path
  path_more left h n = simp (lt-ltb key count h, ne_eqb (get_or ps key 0) key n)

-- the rows passed, then the path from there
abbrev pub along : List ℕ → Path → Path
along [] p = p
along (key ∷ keys) p = from key (along keys p)

pub along_snoc : (keys : List ℕ) (key : ℕ) (p : Path) → along (keys ++ (key ∷ [])) p ≡ along keys (from key p)
along_snoc [] key p = refl
along_snoc (k ∷ keys) key p = ap (from k) (along_snoc keys key p)

pub along_broken : (keys : List ℕ) → along keys broken ≡ broken
along_broken [] = refl
along_broken (k ∷ keys) = ap (from k) (along_broken keys)

pub along_to : (keys : List ℕ) (root : ℕ) (passed : List ℕ) → along keys (to root passed) ≡ to root (keys ++ passed)
along_to [] root passed = refl
along_to (k ∷ keys) root passed = ap (from k) (along_to keys root passed)

-- the path from a row that a walk comes to after so many redirects, none after 17
abbrev pub ahead : List ℕ → ℕ → ℕ → ℕ → Path
ahead ps count steps at = cond (leb steps 16) (path ps count (16 - steps) at) broken

-- the loop of `trace`: what it has passed, and the four ways on from there
module _ (ps nodes : List ℕ) (count key at steps : ℕ) (h : steps ≤ 16) (l : length nodes ≡ 17)
    (inv : path ps count 16 key ≡ along (take steps nodes) (path ps count (16 - steps) at)) where
  pub trace_root : at < count → get_or ps at 0 ≡ at
      → to (get_or (set nodes steps at) steps 0) (take steps (set nodes steps at)) ≡ path ps count 16 key
  trace_root lt e =
      rw (get_or-set_same nodes steps at 0 (omega arith), take-set-le steps nodes steps at (omega arith), inv, path_root ps count at (16 - steps) lt e, along_to, append-nil)

  pub trace_out : count ≤ at → broken ≡ path ps count 16 key
  trace_out le = rw (inv, path_out ps count at (16 - steps) le, along_broken)

  pub trace_spent : steps ≡ 16 → at < count → (get_or ps at 0 ≡ at → ⊥) → broken ≡ path ps count 16 key
  trace_spent e lt n = rw (inv, e, path_spent ps count at lt n, along_broken)

  pub trace_more : (steps ≡ 16 → ⊥) → at < count → (get_or ps at 0 ≡ at → ⊥)
      → path ps count 16 key ≡ along (take (steps + 1) (set nodes steps at)) (path ps count (16 - (steps + 1)) (get_or ps at 0))
  trace_more e lt n =
      let less : 16 - steps ≡ suc (16 - (steps + 1)) = omega arith in
      rw (add-one, take-suc-set nodes steps at (omega arith), along_snoc, ← path_more ps count at (16 - suc steps) lt n, inv, less, add-one)

-- the same of a loop over the nodes
module _ (ps nodes : List ℕ) (count key at steps : ℕ) (h : steps < 17) (l : length nodes ≡ 17)
    (inv : path ps count 16 key ≡ along (take steps nodes) (ahead ps count steps at)) where
  pub still_ahead : path ps count 16 key ≡ along (take steps nodes) (path ps count (16 - steps) at)
  still_ahead = rw (le-leb steps 16 (omega arith)) at inv

  pub ahead_more : at < count → (get_or ps at 0 ≡ at → ⊥)
      → path ps count 16 key ≡ along (take (steps + 1) (set nodes steps at)) (ahead ps count (steps + 1) (get_or ps at 0))
  ahead_more lt n = elim (ℕ_discrete steps 16) [
    | yes e ↦
        let spent : leb (steps + 1) 16 ≡ false = rw e refl in
        sym (trace_spent ps nodes count key at steps (omega arith) l still_ahead e lt n) ∙ rw (spent, along_broken)
    | no d ↦
        rw (le-leb (steps + 1) 16 (omega arith))
        (trace_more ps nodes count key at steps (omega arith) l still_ahead d lt n)
  ]
