-- Laws of the parents that a walk leaves on its path, and of the path from another key there. Assumes nothing.
use Rattle.std.specs.Prelude.{◌≡◌, ◌∷◌, ◌+◌, ◌-◌, ◌≤◌, ◌<◌, Some}
use Rattle.kit.specs.Names.{refl, ap, sym, ◌∙◌, List, [], append-nil, ℕ, zero, suc, length, get_or, take, set, length-set, get_or-set_same}
use Rattle.kit.specs.Names.{get_or-set_other, set_out, take-set-le, arith, dec_lt, ℕ_discrete}
use Rattle.rules.specs.Rules.{broken, to, path}
use Rattle.roots.specs.declared.path.Trail.{Trail}
use Rattle.roots.specs.Trail.{root_of, passed_of, compress, compressed, traced}
use Rattle.roots.proofs.PathLaws.{path_root, along, along_to, trace_root, trace_out, trace_spent, trace_more}
use Rattle.roots.proofs.WalkLaws.{path_in, path_end, path_nil}
use Rattle.roots.proofs.AfterLaws.{Off, compress_off, path_cons, root_in_lem}

-- what is stored stays where it was
set_keeps : (l : List ℕ) (i j a : ℕ) → get_or l j 0 ≡ a → get_or (set l i a) j 0 ≡ a
set_keeps l i j a q = elim (dec_lt i (length l)) [
  | yes h ↦ elim (ℕ_discrete j i) [
    | yes e ↦ rw (e, get_or-set_same l i a 0 h)
    | no n ↦ get_or-set_other l i j a 0 n ∙ q
  ]
  | no n ↦ rw (set_out l i a (omega arith)) q
]

pub compress_root : (root : ℕ) (passed ps : List ℕ) → get_or ps root 0 ≡ root → get_or (compress root passed ps) root 0 ≡ root
unfolding compress
compress_root root [] ps q = q
compress_root root (key ∷ []) ps q = q
compress_root root (key ∷ next ∷ passed) ps q =
    set_keeps (compress root (next ∷ passed) ps) key root root (compress_root root (next ∷ passed) ps q)

pub compress_length : (root : ℕ) (passed ps : List ℕ) → length (compress root passed ps) ≡ length ps
unfolding compress
compress_length root [] ps = refl
compress_length root (key ∷ []) ps = refl
compress_length root (key ∷ next ∷ passed) ps = length-set (compress root (next ∷ passed) ps) key root ∙ compress_length root (next ∷ passed) ps

-- each row passed the root redirects to it
pub compress_on : (ps : List ℕ) (count key left root : ℕ) (passed : List ℕ) → count ≤ length ps → path ps count left key ≡ to root passed
    → (j : ℕ) → j < length passed → get_or (compress root passed ps) (get_or passed j 0) 0 ≡ root
unfolding compress
compress_on ps count key left root [] le e j lt = absurd (omega arith)
compress_on ps count key left root (k ∷ []) le e zero lt =
    let c = path_cons ps count key left root k [] e in
    ap (λ (x : ℕ). get_or ps x 0) c.first ∙ sym (path_nil ps count (get_or ps key 0) (left - 1) root c.onward)
compress_on ps count key left root (k ∷ []) le e (suc j) lt = absurd (omega arith)
compress_on ps count key left root (k ∷ next ∷ passed) le e zero lt =
    let c = path_cons ps count key left root k (next ∷ passed) e in
    get_or-set_same (compress root (next ∷ passed) ps) k root 0
    (omega (arith, c.first, path_in ps count key left root (k ∷ next ∷ passed) e, compress_length root (next ∷ passed) ps))
compress_on ps count key left root (k ∷ next ∷ passed) le e (suc j) lt =
    let c = path_cons ps count key left root k (next ∷ passed) e in
    set_keeps (compress root (next ∷ passed) ps) k (get_or (next ∷ passed) j 0) root
    (compress_on ps count (get_or ps key 0) (left - 1) root (next ∷ passed) le c.onward j (omega arith))

-- no row passed the root is a root
pub passed_no_root : (ps : List ℕ) (count key left root : ℕ) (passed : List ℕ) → path ps count left key ≡ to root passed
    → (j : ℕ) → j < length passed → get_or ps (get_or passed j 0) 0 ≡ get_or passed j 0 → ⊥
passed_no_root ps count key left root [] e j lt q = omega arith
passed_no_root ps count key left root (k ∷ passed) e zero lt q =
    let c = path_cons ps count key left root k passed e in
    c.no_root (rw c.first at q)
passed_no_root ps count key left root (k ∷ passed) e (suc j) lt q =
    let c = path_cons ps count key left root k passed e in
    passed_no_root ps count (get_or ps key 0) (left - 1) root passed c.onward j (omega arith) q

-- the loop of `trace_after`, at a row of the first path
module _ (ps : List ℕ) (count a root : ℕ) (passed : List ℕ) (le : count ≤ length ps) (e : path ps count 16 a ≡ to root passed)
    (j : ℕ) (lt : j < length passed)
    (nodes : List ℕ) (key at steps : ℕ) (h : steps ≤ 16) (l : length nodes ≡ 17)
    (inv : path (compress root passed ps) count 16 key ≡ along (take steps nodes) (path (compress root passed ps) count (16 - steps) at))
    (met : get_or passed j 0 ≡ at) (in_count : at < count) where
  met_parent : get_or (compress root passed ps) at 0 ≡ root
  met_parent = rw met at (compress_on ps count a 16 root passed le e j lt)

  met_no_root : get_or (compress root passed ps) at 0 ≡ at → ⊥
  met_no_root q =
      passed_no_root ps count a 16 root passed e j lt
      (let same : root ≡ at = sym met_parent ∙ q in rw (met, ← same) (path_end ps count 16 a root passed e).0)

  pub met_spent : steps ≡ 16 → broken ≡ path (compress root passed ps) count 16 key
  met_spent s = trace_spent (compress root passed ps) nodes count key at steps h l inv s in_count met_no_root

  pub met_more : (steps ≡ 16 → ⊥)
      → to (get_or (set (set nodes steps at) (steps + 1) root) (steps + 1) 0) (take (steps + 1) (set (set nodes steps at) (steps + 1) root))
      ≡ path (compress root passed ps) count 16 key
  met_more s =
      let size : length (set nodes steps at) ≡ length nodes = length-set nodes steps at in
      rw (
        get_or-set_same (set nodes steps at) (steps + 1) root 0 (omega arith),
        take-set-le (steps + 1) (set nodes steps at) (steps + 1) root (omega arith),
        trace_more (compress root passed ps) nodes count key at steps h l inv s in_count met_no_root,
        met_parent,
        path_root (compress root passed ps) count root (16 - (steps + 1)) (root_in_lem ps count a 16 root passed e) (compress_root root passed ps (path_end ps count 16 a root passed e).0),
        along_to,
        append-nil,
      )

-- the first walk as a trail
module _ (ps : List ℕ) (count a : ℕ) (f : Trail) (le : count ≤ length ps) (t : traced (Some f) ≡ path ps count 16 a)
    (key at steps : ℕ) (nodes : List ℕ) (h : steps ≤ 16) (l : length nodes ≡ 17)
    (inv : path (compressed f ps) count 16 key ≡ along (take steps nodes) (path (compressed f ps) count (16 - steps) at)) where
  pub after_out : count ≤ at → broken ≡ path (compressed f ps) count 16 key
  after_out o = trace_out (compressed f ps) nodes count key at steps h l inv o

  module _ (lt : at < count) where
    -- at a row that is not on the trail
    module _ (off : Off at (passed_of f)) where
      off_parent : get_or (compressed f ps) at 0 ≡ get_or ps at 0
      off_parent = compress_off (root_of f) at (passed_of f) ps off

      pub after_root : get_or ps at 0 ≡ at
          → to (get_or (set nodes steps at) steps 0) (take steps (set nodes steps at)) ≡ path (compressed f ps) count 16 key
      after_root r = trace_root (compressed f ps) nodes count key at steps h l inv lt (off_parent ∙ r)

      module _ (n : get_or ps at 0 ≡ at → ⊥) where
        pub after_spent : steps ≡ 16 → broken ≡ path (compressed f ps) count 16 key
        after_spent s = trace_spent (compressed f ps) nodes count key at steps h l inv s lt (λ e. n (sym off_parent ∙ e))

        pub after_more : (steps ≡ 16 → ⊥)
            → path (compressed f ps) count 16 key
            ≡ along (take (steps + 1) (set nodes steps at)) (path (compressed f ps) count (16 - (steps + 1)) (get_or ps at 0))
        after_more s =
            rw off_parent at (trace_more (compressed f ps) nodes count key at steps h l inv s lt (λ e. n (sym off_parent ∙ e)))

    -- at one that is
    module _ (j : ℕ) (on : j < length (passed_of f)) (met : get_or (passed_of f) j 0 ≡ at) where
      pub on_spent : steps ≡ 16 → broken ≡ path (compressed f ps) count 16 key
      on_spent s = met_spent ps count a (root_of f) (passed_of f) le (sym t) j on nodes key at steps h l inv met lt s

      pub on_more : (steps ≡ 16 → ⊥)
          → to (get_or (set (set nodes steps at) (steps + 1) (root_of f)) (steps + 1) 0) (take (steps + 1) (set (set nodes steps at) (steps + 1) (root_of f)))
          ≡ path (compressed f ps) count 16 key
      on_more s = met_more ps count a (root_of f) (passed_of f) le (sym t) j on nodes key at steps h l inv met lt s
