-- Laws of memory that is ready for writes, and of writes one after the other. Assumes nothing.
use Rattle.std.specs.Prelude.{◌≡◌, ◌∷◌, ◌++◌, ◌+◌, ◌≤◌}
use Rattle.kit.specs.Names.{refl, ap, subst⁻¹, ◌∙◌, Bool, true, false, cond, List, [], ℕ, suc, length, length-set, eqb, arith, ne_eqb}
use Rattle.rules.specs.Rules.{UndoLog, Rows, Log, row_at, put_entry, Write, place, Memory, put, puts}
use Rattle.rules.specs.declared.table.UndoLog.TheVariants.{SetElem}
use Rattle.rules.proofs.RowLaws.{puts_rows}
use Rattle.roots.specs.declared.path.Trail.{Trail}
use Rattle.roots.specs.Trail.{root_of, passed_of, compressed, walk_of, Sound}
use Rattle.roots.proofs.RewriteLaws.{puts_append, rows_after}
use Rattle.plans.specs.declared.verdict.Finish.{Finish}
use Rattle.plans.specs.Plans.{finish_of, and_then}
use Rattle.plans.proofs.PlanLaws.{and_then_lem}
use Rattle.parts.specs.Ready.{Ready}

module _ {count n : ℕ} {m : Memory} (R : Ready count n m) where
  pub ready_less : (k : ℕ) → k ≤ n → Ready count k m
  ready_less k h = record { rows = R.rows; limit = R.limit; room = λ o. let r = R.room o in omega arith }

-- the entry that a write logs
abbrev old : Memory → Write → UndoLog
old m w = SetElem (place w) (row_at m.rows (place w))

long_put : (l : Log) (u : ℕ) (e : UndoLog) → length (put_entry l u e) ≡ length l
long_put l u e = simp length-set

long_cond : (b : Bool) (l l' : Log) → length l' ≡ length l → length (cond b l l') ≡ length l
long_cond true l l' q = refl
long_cond false l l' q = q

pub put_long : (m : Memory) (w : Write) → length (put m w).log ≡ length m.log
put_long m w =
    long_cond (eqb m.opened 0) m.log (put_entry m.log m.used (old m w)) (long_put m.log m.used (old m w))

-- a write leaves room for one entry less
put_ready : (count n : ℕ) (m : Memory) (w : Write) → Ready count (suc n) m → Ready count n (put m w)
put_ready count n m w R =
    record {
      rows = record {
        parents = simp length-set R.rows.parents;
        crowns = simp length-set R.rows.crowns;
        amounts = simp length-set R.rows.amounts;
      };
      limit = rw (put_long m w) R.limit;
      room = λ o. rw (put_long m w) (rw (ne_eqb m.opened 0 o) (let r = R.room o in omega arith));
    }

puts_ready : (count n : ℕ) (ws : List Write) (m : Memory) → Ready count (length ws + n) m → Ready count n (puts m ws)
unfolding puts
puts_ready count n [] m R = ready_less R n (omega arith)
puts_ready count n (w ∷ ws) m R =
    puts_ready count n ws (put m w) (put_ready count (length ws + n) m w (ready_less R (suc (length ws + n)) (omega arith)))

pub ready_puts : (count n : ℕ) (m m' : Memory) (ws : List Write) → m' ≡ puts m ws → Ready count (length ws + n) m → Ready count n m'
ready_puts count n m m' ws e R = subst⁻¹ (λ (x : Memory). Ready count n x) e (puts_ready count n ws m R)

-- ---- writes one after the other

pub put_none : (m : Memory) → m ≡ puts m []
unfolding puts
put_none m = refl

-- two walks and the end at the roots
pub puts_three : (m m₁ m₂ m₃ : Memory) (ws vs : List Write) (end : Finish) → m₁ ≡ puts m ws → m₂ ≡ puts m₁ vs → m₃ ≡ puts m₂ (finish_of end)
    → m₃ ≡ puts m (and_then (ws ++ vs) end)
puts_three m m₁ m₂ m₃ ws vs end e f g =
    rw (and_then_lem (ws ++ vs) end, puts_append m (ws ++ vs) (finish_of end), puts_append m ws vs, ← e, ← f) g

-- ---- the rows after a walk

pub walked_parents : (m m' : Memory) (t : Trail) → m' ≡ puts m (walk_of t) → m'.rows.parents ≡ compressed t m.rows.parents
walked_parents m m' t e =
    ap (λ (x : Memory). x.rows.parents) e
    ∙ ap (λ (r : Rows). r.parents) (puts_rows m (walk_of t) ∙ rows_after m.rows (root_of t) (passed_of t))

pub sound_after : (m m' : Memory) (t s : Trail) (count : ℕ) → m' ≡ puts m (walk_of t) → Sound (compressed t m.rows.parents) count s
    → Sound m'.rows.parents count s
sound_after m m' t s count e S = subst⁻¹ (λ (ps : List ℕ). Sound ps count s) (walked_parents m m' t e) S
