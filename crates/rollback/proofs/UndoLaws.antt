-- Entries that are read and undone one at a time, newest first. Assumes nothing.
use Rattle.std.specs.Prelude.{◌≡◌, ◌∷◌, ◌+◌, ◌-◌, ◌<◌, None, Some}
use Rattle.kit.specs.Names.{refl, ap, sym, ◌∙◌, Bool, true, false, cond, List, [], ℕ, zero, suc, length, length-set, eqb, ltb, arith}
use Rattle.kit.specs.Names.{eqb-true, ltb-true}
use Rattle.std.proofs.lemmas.Bool.{and_parts}
use Rattle.rules.specs.Rules.{UndoLog, Rows, Log, entry_at, newest_first, undoable, reversed, undo}
use Rattle.rules.specs.declared.table.UndoLog.TheVariants.{NewElem, SetElem, Unknown}
use Rattle.parts.specs.Bounds.{InRows, Undoing}
use Rattle.rollback.specs.Since.{Reversible, allowed, count_before, reached_before}

-- the first of several entries decides, or leaves it to the rest
refuses : (e : UndoLog) (es : List UndoLog) (keys count : ℕ) → allowed e count ≡ false → undoable keys count (e ∷ es) ≡ false
unfolding undoable
refuses (NewElem key) es keys count q = rw q
refuses (SetElem key old) es keys count q = rw q
refuses Unknown es keys count q = refl

passes : (e : UndoLog) (es : List UndoLog) (keys count : ℕ) → allowed e count ≡ true
    → undoable keys count (e ∷ es) ≡ undoable keys (count_before e count) es
unfolding undoable
passes (NewElem key) es keys count q = rw q
passes (SetElem key old) es keys count q = rw q
passes Unknown es keys count q = let z : ◌≡◌ {A = ℕ} 0 1 = cc in absurd (omega arith)

barred : (b : Bool) (k : ℕ) → cond b (Some k) None ≡ None → b ≡ false
barred true k q = cc
barred false k q = refl

free : (b : Bool) (k n : ℕ) → cond b (Some k) None ≡ Some n → (b ≡ true) × (k ≡ n)
free true k n q = (refl, cc)
free false k n q = (cc, cc)

-- ---- what can be undone changes only rows below the count

pub undoable_rows : (rs : Rows) (keys count : ℕ) (es : List UndoLog) → ((i : ℕ) → i < count → InRows i rs) → undoable keys count es ≡ true
    → Reversible rs es
unfolding undoable Reversible
undoable_rows rs keys count [] r q = tt
undoable_rows rs keys count (NewElem key ∷ es) r q =
    let p = and_parts (eqb (key + 1) count) (undoable keys key es) q in
    let k = eqb-true (key + 1) count p.0 in
    (tt, undoable_rows rs keys key es (λ i h. r i (omega (arith, k, h))) p.1)
undoable_rows rs keys count (SetElem key old ∷ es) r q =
    let p = and_parts (ltb key count) (undoable keys count es) q in
    (r key (ltb-true key count p.0), undoable_rows rs keys count es r p.1)
undoable_rows rs keys count (Unknown ∷ es) r q = let z : ◌≡◌ {A = ℕ} 0 1 = cc in absurd (omega arith)

-- ---- the newest of the entries from `base` up to i

first_of : (l : Log) (base n : ℕ) → 0 < n → newest_first l base n ≡ entry_at l (base + (n - 1)) ∷ newest_first l base (n - 1)
unfolding newest_first
first_of l base zero h = absurd (omega arith)
first_of l base (suc n) h = let p : suc n - 1 ≡ n = omega arith in rw p

module _ (l : Log) (base i : ℕ) (h : base < i) (e : UndoLog) (q : e ≡ entry_at l (i - 1)) where
  newest : newest_first l base (i - base) ≡ e ∷ newest_first l base (i - 1 - base)
  newest =
      let at : base + (i - base - 1) ≡ i - 1 = omega (arith, h) in
      let rest : i - base - 1 ≡ i - 1 - base = omega arith in
      let f = first_of l base (i - base) (omega (arith, h)) in
      rw q (rw (at, rest) at f)

  module _ (keys count : ℕ) where
    pub refused_next : reached_before e count ≡ None → false ≡ undoable keys count (newest_first l base (i - base))
    refused_next b = rw newest (sym (refuses e (newest_first l base (i - 1 - base)) keys count (barred (allowed e count) (count_before e count) b)))

    pub passed_next : (count' : ℕ) → reached_before e count ≡ Some count'
        → undoable keys count (newest_first l base (i - base)) ≡ undoable keys count' (newest_first l base (i - 1 - base))
    passed_next count' b =
        let r = free (allowed e count) (count_before e count) count' b in
        rw (newest, ← r.1) (passes e (newest_first l base (i - 1 - base)) keys count r.0)

  reversible_next : (rs : Rows) → Reversible rs (newest_first l base (i - base)) → Undoing e rs × Reversible rs (newest_first l base (i - 1 - base))
  unfolding Reversible
  reversible_next rs b = rw newest at b

  undone_next : (rs rs' : Rows) → rs' ≡ reversed rs e → undo rs (newest_first l base (i - base)) ≡ undo rs' (newest_first l base (i - 1 - base))
  unfolding undo
  undone_next rs rs' r = rw (newest, r)

-- ---- part of the entries is undone

-- as many rows
pub record AsLong (now before : Rows) : Type 0 where
  pub parents : length now.parents ≡ length before.parents
  pub crowns : length now.crowns ≡ length before.crowns
  pub amounts : length now.amounts ≡ length before.amounts

as_long_reversed : (rs : Rows) (e : UndoLog) → AsLong (reversed rs e) rs
as_long_reversed rs (NewElem key) = record { parents = refl; crowns = refl; amounts = refl }
as_long_reversed rs (SetElem key old) = record { parents = simp length-set; crowns = simp length-set; amounts = simp length-set }
as_long_reversed rs Unknown = record { parents = refl; crowns = refl; amounts = refl }

as_long_next : (now before : Rows) (e : UndoLog) (rs : Rows) → rs ≡ reversed now e → AsLong now before → AsLong rs before
as_long_next now before e rs q a = let b = as_long_reversed now e in rw q (omega arith)

as_long_row : (now before : Rows) (e : UndoLog) → AsLong now before → Undoing e before → Undoing e now
as_long_row now before (NewElem key) a u = tt
as_long_row now before (SetElem key old) a u = omega arith
as_long_row now before Unknown a u = tt

-- of the entries from `base` up to `used`, those from i on are undone
pub record Undone (before now : Rows) (l : Log) (base used i : ℕ) : Type 0 where
  pub as_long : AsLong now before
  pub reversible : Reversible before (newest_first l base (i - base))
  pub undone : undo before (newest_first l base (used - base)) ≡ undo now (newest_first l base (i - base))

module _ (before now : Rows) (l : Log) (base used i : ℕ) (u : Undone before now l base used i) where
  pub all_undone : i - base ≡ 0 → now ≡ undo before (newest_first l base (used - base))
  unfolding undo newest_first
  all_undone q = sym (u.undone ∙ ap (λ (n : ℕ). undo now (newest_first l base n)) q)

  module _ (h : base < i) (e : UndoLog) (q : e ≡ entry_at l (i - 1)) where
    pub undone_row : Undoing e now
    undone_row = as_long_row now before e u.as_long (reversible_next l base i h e q before u.reversible).0

    pub undone_more : (rs : Rows) → rs ≡ reversed now e → Undone before rs l base used (i - 1)
    undone_more rs r =
        record {
          as_long = as_long_next now before e rs r u.as_long;
          reversible = (reversible_next l base i h e q before u.reversible).1;
          undone = u.undone ∙ undone_next l base i h e q now rs r;
        }
