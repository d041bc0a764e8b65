-- Laws of logging a walk's rows before they are rewritten. Assumes nothing.
use Rattle.std.specs.Prelude.{◌≡◌, ◌∷◌, ◌+◌, ◌-◌, ◌≤◌, ◌<◌}
use Rattle.kit.specs.Names.{refl, ap, sym, ◌∙◌, List, [], ℕ, zero, suc, length, get_or, take, drop, length-take, drop-cons, get_or-take, arith, eq-eqb, ne_eqb}
use Rattle.rules.specs.declared.table.UndoLog.TheVariants.{SetElem}
use Rattle.rules.specs.Rules.{MAX-REDIRECTS, row_at, put_entry, Memory, memory, redirect}
use Rattle.parts.specs.Bounds.{InRows, InLog}
use Rattle.parts.proofs.BoundLaws.{even_row}
use Rattle.roots.specs.declared.path.Trail.{Trail}
use Rattle.roots.specs.Trail.{root_of, passed_of, Short, Sound}
use Rattle.roots.specs.Saves.{saved, saves}
use Rattle.roots.proofs.OffLaws.{passed_in}
use Rattle.roots.proofs.TrailLaws.{trail_length}
use Rattle.parts.specs.Ready.{Ready}
use Rattle.rewrites.proofs.ReadyLaws.{put_long}

-- nothing is logged with no snapshot open
pub saves_shut : (passed : List ℕ) (m : Memory) → m.opened ≡ 0 → m ≡ saves passed m
unfolding saves
saves_shut [] m q = refl
saves_shut (k ∷ []) m q = refl
saves_shut (k ∷ next ∷ passed) m q =
    let ih = saves_shut (next ∷ passed) m q in
    rw (← ih, eq-eqb m.opened 0 q)

-- with one open the row is an entry more
pub row_saved : (key : ℕ) (m : Memory) → (m.opened ≡ 0 → ⊥)
    → memory m.rows (put_entry m.log m.used (SetElem key (row_at m.rows key))) m.opened (m.used + 1) ≡ saved key m
row_saved key m o = rw (ne_eqb m.opened 0 o)

-- one row more
saves_more : (passed : List ℕ) (m : Memory) (j : ℕ) → suc j < length passed → saved (get_or passed j 0) (saves (drop (suc j) passed) m) ≡ saves (drop j passed) m
unfolding saves
saves_more passed m j h =
    let a : drop j passed ≡ get_or passed j 0 ∷ drop (suc j) passed = drop-cons passed j 0 (omega arith) in
    let b : drop (suc j) passed ≡ get_or passed (suc j) 0 ∷ drop (suc (suc j)) passed = drop-cons passed (suc j) 0 h in
    rw (a, b)

-- the last row below the root is not logged
saves_last : (passed : List ℕ) (m : Memory) (j : ℕ) → suc j ≡ length passed → m ≡ saves (drop j passed) m
unfolding saves
saves_last passed m j h =
    let a : drop j passed ≡ get_or passed j 0 ∷ drop (suc j) passed = drop-cons passed j 0 (omega arith) in
    let b : drop (suc j) passed ≡ [] = lib.ListN.drop_of_length-le passed {i = suc j} (omega arith) in
    rw (a, b)

-- a trail of no steps logs as little as one of one
saves_short : (nodes : List ℕ) (steps : ℕ) (m : Memory) → length nodes ≡ 17 → saves (take (suc (steps - 1)) nodes) m ≡ saves (take steps nodes) m
unfolding saves
saves_short [] steps m z = absurd (omega arith)
saves_short (n ∷ nodes) zero m z = refl
saves_short (n ∷ nodes) (suc k) m z = let p : suc (suc k - 1) ≡ suc k = omega arith in ap (λ (j : ℕ). saves (take j (n ∷ nodes)) m) p

-- ---- the loop of `log_walk`: the rows from `left` on are logged

pub record Logging (m₀ : Memory) (nodes : List ℕ) (left₀ : ℕ) (m : Memory) (left : ℕ) : Type 0 where
  pub least : left ≤ left₀
  pub is : m ≡ saves (drop left (take (suc left₀) nodes)) m₀
  pub rows : m.rows ≡ m₀.rows
  pub opened : m.opened ≡ m₀.opened
  pub logged : m.used + left ≡ m₀.used + left₀
  pub kept : length m.log ≡ length m₀.log

module _ (m₀ : Memory) (nodes : List ℕ) (left₀ : ℕ) (size : length nodes ≡ 17) (low : left₀ < MAX-REDIRECTS) where
  long : length (take (suc left₀) nodes) ≡ suc left₀
  long = rw length-take (omega arith)

  pub logging_starts : Logging m₀ nodes left₀ m₀ left₀
  logging_starts =
      record { least = omega arith; is = saves_last (take (suc left₀) nodes) m₀ left₀ (sym long); rows = refl; opened = refl; logged = refl; kept = refl }

  module _ (m : Memory) (left : ℕ) (L : Logging m₀ nodes left₀ m left) (h : 0 < left) where
    -- the next row is logged
    pub logging_goes_on : (m' : Memory) → m' ≡ saved (get_or nodes (left - 1) 0) m → (m.opened ≡ 0 → ⊥) → Logging m₀ nodes left₀ m' (left - 1)
    logging_goes_on m' e o =
        let key = get_or nodes (left - 1) 0 in
        let up : left ≡ suc (left - 1) = omega arith in
        let before : m ≡ saves (drop (suc (left - 1)) (take (suc left₀) nodes)) m₀ =
        L.is ∙ ap (λ (n : ℕ). saves (drop n (take (suc left₀) nodes)) m₀) up in
        let least = L.least in
        let node : get_or (take (suc left₀) nodes) (left - 1) 0 ≡ key = get_or-take (suc left₀) nodes (left - 1) 0 (omega arith) in
        let used : (saved key m).used ≡ m.used + 1 = rw (ne_eqb m.opened 0 o) refl in
        let u = ap (λ (x : Memory). x.used) e ∙ used in
        record {
          least = omega arith;
          is =
              e
              ∙ ap (saved key) before
              ∙ ap (λ (n : ℕ). saved n (saves (drop (suc (left - 1)) (take (suc left₀) nodes)) m₀)) (sym node)
              ∙ saves_more (take (suc left₀) nodes) m₀ (left - 1) (omega (arith, long));
          rows = ap (λ (x : Memory). x.rows) e ∙ L.rows;
          opened = ap (λ (x : Memory). x.opened) e ∙ L.opened;
          logged = omega (arith, L.logged, u);
          kept = ap (λ (x : Memory). length x.log) e ∙ put_long m (redirect key 0) ∙ L.kept;
        }

-- ---- what the loop asks

module _ (m₀ : Memory) (count : ℕ) (t : Trail) (S : Sound m₀.rows.parents count t) (o : m₀.opened ≡ 0 → ⊥) (R : Ready count (t.steps - 1) m₀) where
  module _ (m : Memory) (left : ℕ) (L : Logging m₀ t.nodes (t.steps - 1) m left) (h : 0 < left) where
    pub node_in : InRows (get_or t.nodes (left - 1) 0) m.rows
    node_in =
        let j = left - 1 in
        let least = L.least in
        let inside : j < t.steps = omega arith in
        let there = S.there (omega arith) in
        let node : get_or (passed_of t) j 0 ≡ get_or t.nodes j 0 = get_or-take t.steps t.nodes j 0 inside in
        rw L.rows
        (
        even_row m₀.rows count (get_or t.nodes j 0) R.rows
        (
        rw node at
        (passed_in m₀.rows.parents count MAX-REDIRECTS (get_or t.nodes 0 0) (root_of t) (passed_of t) there j (omega (arith, trail_length t S.short)))
        )
        )

    pub entry_in : InLog m.used m.log
    entry_in =
        let room = R.room o in
        let limit = R.limit in
        let kept = L.kept in
        let logged = L.logged in
        let least = L.least in
        record { words = omega arith; limit = omega arith }

-- ---- at the end

pub logged_all : (m₀ : Memory) (t : Trail) → Short t → (m : Memory) (left : ℕ) → Logging m₀ t.nodes (t.steps - 1) m left → left ≡ 0
    → m ≡ saves (passed_of t) m₀
logged_all m₀ t s m left L q =
    L.is ∙ ap (λ (n : ℕ). saves (drop n (take (suc (t.steps - 1)) t.nodes)) m₀) q ∙ saves_short t.nodes t.steps m₀ s.size
