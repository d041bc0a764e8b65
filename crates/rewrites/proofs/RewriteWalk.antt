-- A walk's rewrites: nothing for fewer than two steps, else the logged rows and the compressed parents. Assumes nothing.
use Rattle.std.specs.Prelude.{◌≡◌, ◌∷◌, ◌≤◌, ◌<◌}
use Rattle.kit.specs.Names.{refl, ap, sym, ◌∙◌, List, [], ℕ, length, get_or, arith}
use Rattle.rules.specs.Rules.{MAX-REDIRECTS, Rows, path, Write, Memory, memory, puts}
use Rattle.roots.specs.declared.path.Trail.{Trail}
use Rattle.roots.specs.Trail.{root_of, passed_of, compress, walk_of, Sound, Leads, Landed, landed, land}
use Rattle.roots.specs.Saves.{with_parents, saves}
use Rattle.roots.proofs.RewriteLaws.{walk_puts}
use Rattle.roots.proofs.TrailLaws.{walk_length}
use Rattle.rewrites.proofs.ReadyLaws.{put_none}

none_of : (ws : List Write) → length ws ≡ 0 → ws ≡ []
none_of [] e = refl
none_of (w ∷ ws) e = absurd (omega arith)

module _ (m : Memory) (count : ℕ) (t : Trail) (S : Sound m.rows.parents count t) where
  pub short_walk : t.steps < 2 → m ≡ puts m (walk_of t)
  short_walk h =
      put_none m ∙ ap (λ (ws : List Write). puts m ws) (sym (none_of (walk_of t) (omega (arith, walk_length t S.short))))

  -- the rows stay as they are while they are logged
  module _ (m' : Memory) (q : m'.rows ≡ m.rows) where
    same : m'.rows.parents ≡ m.rows.parents
    same = ap (λ (r : Rows). r.parents) q

    pub leads : count ≤ length m.rows.parents → 2 ≤ t.steps → Leads m'.rows.parents count MAX-REDIRECTS (get_or t.nodes 0 0)
    leads le h = rw same record { root = root_of t; passed = passed_of t; there = S.there (omega arith); inside = le }

    -- what was logged, then the root and the parents that came back from the pair
    pub rewritten : 2 ≤ t.steps → m' ≡ saves (passed_of t) m → (root : ℕ) (ps : List ℕ)
        → landed root ps ≡ land (path m'.rows.parents count MAX-REDIRECTS (get_or t.nodes 0 0)) m'.rows.parents
        → memory (with_parents m'.rows ps) m'.log m'.opened m'.used ≡ puts m (walk_of t)
    rewritten h e root ps f =
        let there = S.there (omega arith) in
        let g : landed root ps ≡ landed (root_of t) (compress (root_of t) (passed_of t) m.rows.parents) = rw there at (rw same at f) in
        rw (ap (λ (l : Landed). l.parents) g, q, e)
        (sym (walk_puts m count MAX-REDIRECTS (get_or t.nodes 0 0) (root_of t) (passed_of t) there))
