-- Laws of rows: what a write leaves, part by part. Assumes nothing.
use Rattle.std.specs.Prelude.{◌≡◌, ◌∷◌, ◌+◌, ◌*◌}
use Rattle.kit.specs.Names.{refl, List, [], ℕ, set, get_or, set-get_or, set-set, set_comm, arith, ℕ_discrete, ne_eqb}
use Rattle.rules.specs.Rules.{Row, Value, CROWN, Rows, amount_of, low_of, high_of, owner_of, number_of, row_at, put_crown, put_row, Memory, Write, redirect}
use Rattle.rules.specs.Rules.{crown, place, edit, write, writes, put, puts, reversed}
use Rattle.rules.specs.declared.table.UndoLog.TheVariants.{SetElem}

-- A lent number that is read as an owner is written back as it was.
pub number_owner : (n : ℕ) → number_of (owner_of n) ≡ n
number_owner n = elim (ℕ_discrete n 0) [ yes q ↦ rw q | no d ↦ rw (ne_eqb n 0 d) ]

-- An amount that is logged as two words is read back.
pub joined : (a : ℕ) → amount_of (low_of a) (high_of a) ≡ a
joined a = omega arith

module _ (rs : Rows) (key : ℕ) where
  -- A redirect changes one parent.
  pub write_redirect : (root : ℕ)
      → write rs (redirect key root) ≡ record { parents = set rs.parents key root; crowns = rs.crowns; amounts = rs.amounts }
  write_redirect root =
      let b = key * CROWN in
      rw (number_owner, set-get_or rs.crowns b 0, set-get_or rs.crowns (b + 1) 0, set-get_or rs.amounts key 0)

  -- A root's new rank and value leave the parents alone.
  pub write_crown : (rank : ℕ) (v : Value)
      → write rs (crown key rank v)
      ≡ record {
        parents = rs.parents;
        crowns = put_crown rs.crowns key rank v.owner;
        amounts = set rs.amounts key v.amount;
      }
  write_crown rank v = rw (set-get_or rs.parents key 0)

back : (l : List ℕ) (i a : ℕ) → set (set l i a) i (get_or l i 0) ≡ l
back l i a = rw (set-set l i a (get_or l i 0), set-get_or l i 0)

-- Of two words that were written the first is put back, and then the second.
both_back : (l : List ℕ) (i j a b : ℕ) → (j ≡ i → ⊥) → set (set (set (set l i a) j b) i (get_or l i 0)) j (get_or l j 0) ≡ l
both_back l i j a b n = rw (set_comm (set l i a) j i b (get_or l i 0) n, back l i a, back l j b)

-- Whatever is put at a row, the old row put back leaves the rows as they were.
pub put_back : (rs : Rows) (i : ℕ) (r : Row) → put_row (put_row rs i r) i (row_at rs i) ≡ rs
put_back rs i r =
    let b = i * CROWN in
    rw (number_owner, back rs.parents i r.parent, back rs.amounts i r.amount, both_back rs.crowns b (b + 1) r.rank (number_of r.owner) (λ e. omega arith))

-- So a write that was logged is undone.
pub undone : (rs : Rows) (w : Write) → reversed (write rs w) (SetElem (place w) (row_at rs (place w))) ≡ rs
undone rs w = put_back rs (place w) (edit w (row_at rs (place w)))

-- The rows after writes are the same whether they are logged or not.
pub puts_rows : (m : Memory) (ws : List Write) → (puts m ws).rows ≡ writes m.rows ws
unfolding puts writes
puts_rows m [] = refl
puts_rows m (w ∷ ws) = puts_rows (put m w) ws
