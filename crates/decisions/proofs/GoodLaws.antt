-- What a table that is not bad has room for. Assumes nothing.
use Rattle.std.specs.Prelude.{◌≡◌, ◌≤◌, ◌<◌, Option, Some}
use Rattle.kit.specs.Names.{sym, ◌∙◌, ℕ, length}
use Rattle.rules.specs.Rules.{MAX-REDIRECTS, rows_seen, log_seen, entries, path}
use Rattle.roots.specs.declared.live.Live.{Live}
use Rattle.roots.specs.declared.near.Near.{Near}
use Rattle.roots.specs.declared.path.Trail.{Trail}
use Rattle.roots.specs.Near.{near_of}
use Rattle.roots.specs.Trail.{compressed}
use Rattle.roots.proofs.NearLaws.{Found, near_found}
use Rattle.parts.specs.Bounds.{InRows, Even}
use Rattle.parts.proofs.BoundLaws.{even_row}
use Rattle.decisions.specs.declared.good.GoodTable.{GoodTable}
use Rattle.decisions.proofs.FitLaws.{good_even, good_used}

pub table_even : (t : GoodTable) → Even t.head.count (rows_seen t.seen)
table_even t = good_even (rows_seen t.seen) (log_seen t.seen) t.head t.good

pub table_parents : (t : GoodTable) → t.head.count ≤ length t.seen.parents.now
table_parents t = (table_even t).parents

pub table_row : (t : GoodTable) (i : ℕ) → i < t.head.count → InRows i (rows_seen t.seen)
table_row t i h = even_row (rows_seen t.seen) t.head.count i (table_even t) h

pub table_used : (t : GoodTable) → t.head.used ≤ entries (log_seen t.seen)
table_used t = good_used (rows_seen t.seen) (log_seen t.seen) t.head t.good

-- What a walk finds in its live parents is found in its rows.
module _ (t : GoodTable) (v : Live) (p : v.parents.now ≡ t.seen.parents.now) (q : v.count ≡ t.head.count) (key : ℕ) where
  pub live_near : key < t.head.count → (r : Option Near) (n : Near) → r ≡ near_of v.parents.now v.count key → r ≡ Some n
      → Found t.seen.parents.now t.head.count key n
  live_near h r n e f = near_found t.seen.parents.now t.head.count key h n (rw (p, q) at (sym e ∙ f))

  pub live_path : path v.parents.now v.count MAX-REDIRECTS key ≡ path t.seen.parents.now t.head.count MAX-REDIRECTS key
  live_path = rw (p, q)

  pub live_after : (first : Trail) → path (compressed first v.parents.now) v.count MAX-REDIRECTS key
      ≡ path (compressed first t.seen.parents.now) t.head.count MAX-REDIRECTS key
  live_after first = rw (p, q)
