-- The walk of the rules: it ends at the key's root within 16 redirects, and what it rewrites leaves the groups as they are.
use Rattle.std.specs.Prelude.{◌≡◌, ◌∷◌, ◌++◌, ◌≢◌, ◌+◌, ◌^◌, ◌≤◌, ◌<◌}
use Rattle.kit.specs.Names.{refl, sym, ap, ◌∙◌, subst, List, [], ℕ, zero, suc, length, get_or, arith, le_trans, eq-eqb, ne_eqb, lt-ltb}
use lib.Pow.{pow_mono}
use Rattle.rules.specs.Rules.{Row, MAX-ROWS, MAX-REDIRECTS, Rows, row, value_of, row_at, put_row, WideRows, to, from, path, Write, redirect, place, edit, write, writes}
use Rattle.rules.specs.Rules.{rewrites}
use Rattle.rules.proofs.ReadLaws.{Real, row_real, row_hit, row_miss, wide_put}
use Rattle.groups.specs.Sums.{size}
use Rattle.groups.specs.Groups.{Groups}
use Rattle.groups.specs.Stands.{up, high, Shows}
use Rattle.groups.proofs.Tools.{by_same}
use Rattle.groups.proofs.Whole.{Whole, rank_low}
use Rattle.groups.proofs.Forest.{Wrote, own_root, next_root, is_root, rank_up, leads_next, compressed}

-- ---- lent rows, below the limits, that show groups

pub record Holds (rs : Rows) (g : Groups) (room : ℕ) : Type 0 where
  pub shows : Shows rs g
  pub whole : Whole g
  pub wide : WideRows rs room
  pub fits : g.count ≤ room
  pub limit : room ≤ MAX-ROWS

-- ---- where a walk leads

-- Rows of the group of the root r, other than r.
abbrev pub Under : Groups → ℕ → List ℕ → Type 0
Under g r [] = Unit {0}
Under g r (x ∷ xs) = (x < g.count) × (g.root x ≡ r) × (x ≢ r) × Under g r xs

pub record Reaches (rs : Rows) (g : Groups) (left i : ℕ) : Type 0 where
  pub passed : List ℕ
  pub ends : path rs.parents g.count left i ≡ to (g.root i) passed
  pub under : Under g (g.root i) passed
  pub climbs : high rs i + length passed ≤ high rs (g.root i)

path_root : (parents : List ℕ) (count left i : ℕ) → i < count → get_or parents i 0 ≡ i → path parents count left i ≡ to i []
unfolding path
path_root parents count zero i h e = rw (lt-ltb i count h, eq-eqb (get_or parents i 0) i e)
path_root parents count (suc left) i h e = rw (lt-ltb i count h, eq-eqb (get_or parents i 0) i e)

module _ {rs : Rows} {g : Groups} (S : Shows rs g) where
  at_root : (left i : ℕ) → i < g.count → up rs i ≡ i → Reaches rs g left i
  at_root left i h e = record {
    passed = [];
    ends = path_root rs.parents g.count left i h e ∙ ap (λ (z : ℕ). to z []) (sym (own_root S i h e));
    under = tt;
    climbs = omega (arith, ap (high rs) (own_root S i h e));
  }

  pub reaches_in : (left i : ℕ) → i < g.count → high rs (g.root i) ≤ high rs i + left → Reaches rs g left i
  unfolding path
  reaches_in zero i h b =
      by_same (up rs i) i (λ e. at_root zero i h e)
      (λ d. absurd (let u = rank_up S (leads_next (S.leads i h)) (S.inside i h) in omega (arith, S.rises i h d)))
  reaches_in (suc left) i h b =
      by_same (up rs i) i (λ e. at_root (suc left) i h e)
      (λ d. let n : g.root (up rs i) ≡ g.root i = next_root S i h in
      let q : high rs (g.root (up rs i)) ≡ high rs (g.root i) = ap (high rs) n in
      let R = reaches_in left (up rs i) (S.inside i h) (omega (arith, S.rises i h d)) in
      record {
        passed = i ∷ R.passed;
        ends = rw (lt-ltb i g.count h, ne_eqb (up rs i) i d) (ap (from i) R.ends ∙ ap (λ (z : ℕ). to z (i ∷ R.passed)) n);
        under = (h, refl, (λ e. d (is_root S i h (sym e))), subst (λ (z : ℕ). Under g z R.passed) n R.under);
        climbs = omega (arith, S.rises i h d, R.climbs);
      })

module _ {rs : Rows} {g : Groups} {room : ℕ} (H : Holds rs g room) where
  pub count_limit : g.count ≤ MAX-ROWS
  count_limit = le_trans H.fits H.limit

  module _ (i : ℕ) (h : i < g.count) where
    root_rank : high rs (g.root i) ≡ g.rank (g.root i)
    root_rank =
        H.shows.ranks (g.root i) (H.whole.within i h) (is_root H.shows (g.root i) (H.whole.within i h) (H.whole.settled i))

    -- "16 redirects in a walk" are enough.
    pub reaches : Reaches rs g MAX-REDIRECTS i
    reaches = reaches_in H.shows MAX-REDIRECTS i h
        (omega (arith, root_rank, rank_low H.whole count_limit (g.root i) (H.whole.within i h) (H.whole.settled i)))

    -- 2 to the power of a walk's steps is at most the number of keys in its group.
    pub log2_bound : 2 ^ length reaches.passed ≤ size g.root g.count (g.root i)
    log2_bound =
        le_trans (pow_mono (omega (arith, reaches.climbs, root_rank)))
        (H.whole.big (g.root i) (H.whole.within i h) (H.whole.settled i))

-- ---- what is written

-- The writes stay below n.
abbrev pub Inside : ℕ → List Write → Type 0
Inside n [] = Unit {0}
Inside n (w ∷ ws) = (place w < n) × Inside n ws

pub inside_append : (n : ℕ) (ws vs : List Write) → Inside n ws → Inside n vs → Inside n (ws ++ vs)
inside_append n [] vs p q = q
inside_append n (w ∷ ws) vs p q = (p.0, inside_append n ws vs p.1 q)

pub writes_append : (rs : Rows) (ws vs : List Write) → writes rs (ws ++ vs) ≡ writes (writes rs ws) vs
unfolding writes
writes_append rs [] vs = refl
writes_append rs (x ∷ ws) vs = writes_append (write rs x) ws vs

pub wrote : (rs : Rows) (room i : ℕ) (r : Row) → WideRows rs room → i < room → Real r.owner → Wrote rs (put_row rs i r) i r
wrote rs room i r w h real = (row_hit rs i r room w h real, row_miss rs i r)

-- ---- a walk's rewrites

module _ {g : Groups} {room : ℕ} (r : ℕ) where
  redirected : {rs : Rows} → Holds rs g room → (x : ℕ) → x < g.count → g.root x ≡ r → x ≢ r → Holds (write rs (redirect x r)) g room
  redirected {rs} H x h e d =
      let to-root : Row = row (g.root x) (high rs x) (value_of (row_at rs x)) in
      let room-x : x < room = omega (arith, H.fits) in
      record {
        shows = subst (λ (z : ℕ). Shows (write rs (redirect x z)) g) e
            (compressed H.shows H.whole (put_row rs x to-root) x h (λ q. d (sym q ∙ e))
            (wrote rs room x to-root H.wide room-x (row_real rs x)));
        whole = H.whole;
        wide = wide_put rs x (edit (redirect x r) (row_at rs x)) room H.wide;
        fits = H.fits;
        limit = H.limit;
      }

  pub rewritten : {rs : Rows} → Holds rs g room → (passed : List ℕ) → Under g r passed → Holds (writes rs (rewrites r passed)) g room
  unfolding writes rewrites
  rewritten H [] u = H
  rewritten H (x ∷ []) u = H
  rewritten {rs} H (x ∷ y ∷ zs) u =
      rw (writes_append rs (rewrites r (y ∷ zs)) (redirect x r ∷ []))
      (redirected (rewritten H (y ∷ zs) u.3) x u.0 u.1 u.2)

pub rewrites_inside : (g : Groups) (r : ℕ) (passed : List ℕ) → Under g r passed → Inside g.count (rewrites r passed)
unfolding rewrites
rewrites_inside g r [] u = tt
rewrites_inside g r (x ∷ []) u = tt
rewrites_inside g r (x ∷ y ∷ zs) u =
    inside_append g.count (rewrites r (y ∷ zs)) (redirect x r ∷ []) (rewrites_inside g r (y ∷ zs) u.3) (u.0, tt)
