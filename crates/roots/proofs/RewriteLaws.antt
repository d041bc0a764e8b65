-- What a walk's writes leave: of the rows, the parents; of the log, the old rows. Assumes nothing.
use Rattle.std.specs.Prelude.{◌≡◌, ◌∷◌, ◌++◌, ◌-◌}
use Rattle.kit.specs.Names.{refl, ap, sym, ◌∙◌, List, [], ℕ, get_or, set}
use Rattle.rules.specs.declared.table.UndoLog.TheVariants.{SetElem}
use Rattle.rules.specs.Rules.{Rows, row_at, to, path, Write, redirect, write, writes, Memory, memory, logged, put, puts, rewrites}
use Rattle.rules.proofs.RowLaws.{write_redirect}
use Rattle.roots.specs.Trail.{compress}
use Rattle.roots.specs.Saves.{with_parents, saves}
use Rattle.roots.proofs.AfterLaws.{compress_off, path_cons}
use Rattle.roots.proofs.OffLaws.{first_off}

pub writes_snoc : (rs : Rows) (ws : List Write) (w : Write) → writes rs (ws ++ (w ∷ [])) ≡ write (writes rs ws) w
unfolding writes
writes_snoc rs [] w = refl
writes_snoc rs (x ∷ ws) w = writes_snoc (write rs x) ws w

pub puts_append : (m : Memory) (ws vs : List Write) → puts m (ws ++ vs) ≡ puts (puts m ws) vs
unfolding puts
puts_append m [] vs = refl
puts_append m (x ∷ ws) vs = puts_append (put m x) ws vs

-- the rows after a walk: other parents, and all else as it was
pub rows_after : (rs : Rows) (root : ℕ) (passed : List ℕ) → writes rs (rewrites root passed) ≡ with_parents rs (compress root passed rs.parents)
unfolding rewrites compress writes
rows_after rs root [] = refl
rows_after rs root (k ∷ []) = refl
rows_after rs root (k ∷ next ∷ passed) =
    writes_snoc rs (rewrites root (next ∷ passed)) (redirect k root)
    ∙ ap (λ (r : Rows). write r (redirect k root)) (rows_after rs root (next ∷ passed))
    ∙ write_redirect (with_parents rs (compress root (next ∷ passed) rs.parents)) k root

-- ---- the log after a walk: the old rows, as they were before it

pub saves_rows : (passed : List ℕ) (m : Memory) → (saves passed m).rows ≡ m.rows
unfolding saves
saves_rows [] m = refl
saves_rows (k ∷ []) m = refl
saves_rows (k ∷ next ∷ passed) m = saves_rows (next ∷ passed) m

-- a row that is logged and then redirected, where another table has the same log and the same row
put_like : (m m' : Memory) (k root : ℕ) (ps : List ℕ) → m ≡ memory (with_parents m'.rows ps) m'.log m'.opened m'.used
    → get_or ps k 0 ≡ get_or m'.rows.parents k 0
    → put m (redirect k root)
    ≡ (let l = logged (SetElem k (row_at m'.rows k)) m' in memory (with_parents m'.rows (set ps k root)) l.log l.opened l.used)
put_like m m' k root ps e q = rw (e, write_redirect (with_parents m'.rows ps) k root, q)

pub walk_puts : (m : Memory) (count left key root : ℕ) (passed : List ℕ) → path m.rows.parents count left key ≡ to root passed
    → puts m (rewrites root passed)
    ≡ (let s = saves passed m in memory (with_parents m.rows (compress root passed m.rows.parents)) s.log s.opened s.used)
unfolding puts rewrites compress saves
walk_puts m count left key root [] e = refl
walk_puts m count left key root (k ∷ []) e = refl
walk_puts m count left key root (k ∷ next ∷ passed) e =
    let c = path_cons m.rows.parents count key left root k (next ∷ passed) e in
    let ih = walk_puts m count (left - 1) (get_or m.rows.parents key 0) root (next ∷ passed) c.onward in
    let s : Memory = saves (next ∷ passed) m in
    let r : s.rows ≡ m.rows = saves_rows (next ∷ passed) m in
    let ps : List ℕ = compress root (next ∷ passed) m.rows.parents in
    let off = first_off m.rows.parents count left key root k (next ∷ passed) e in
    puts_append m (rewrites root (next ∷ passed)) (redirect k root ∷ [])
    ∙ put_like (puts m (rewrites root (next ∷ passed))) s k root ps
    (ih ∙ ap (λ (x : Rows). memory (with_parents x ps) s.log s.opened s.used) (sym r))
    (compress_off root k (next ∷ passed) m.rows.parents off ∙ ap (λ (x : Rows). get_or x.parents k 0) (sym r))
    ∙ ap
    (λ (x : Rows).
    let l = logged (SetElem k (row_at s.rows k)) s in
    memory (with_parents x (set ps k root)) l.log l.opened l.used)
    r
