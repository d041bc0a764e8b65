-- A new key, a value without a walk and a rollback, refusal by refusal. Assumes nothing.
use Rattle.std.specs.Prelude.{◌≡◌, ◌+◌, ◌≤◌, ◌<◌}
use Rattle.kit.specs.Names.{ap, sym, ◌∙◌, true, false, cond, List, ℕ, length, eqb, arith, le-leb, lt-leb, eq-eqb, ne_eqb}
use Rattle.rules.specs.Rules.{Answer, Head, Mark, Owner, Row, Sought, State, Value, DONE, NO-KEY, KEYS-FULL, LOG-FULL, NOT-INNERMOST, BROKEN-TABLE, Rows, Log, table}
use Rattle.rules.specs.Rules.{entries, owner_of, value, row, row_at, value_of, head, refusal, found, held, said, memory, push, puts, since, undo, rolled_back, outcome}
use Rattle.rules.specs.Rules.{refused, sizes_of, bad, call, step}
use Rattle.rules.specs.declared.call.Call.TheVariants.{New, TryProbe, Rollback}
use Rattle.std.specs.Prelude.{None, Some}
use Rattle.parts.proofs.BoundLaws.{in_rows}
use Rattle.undo_log.specs.Settled.{settled, state_with, latest, mark_for}
use Rattle.undo_log.proofs.HeadLaws.{after_moved, after_kept}
use Rattle.undo_log.proofs.MarkLaws.{mark_for_few}
use Rattle.rollback.specs.Since.{broken}
use Rattle.rollback.proofs.RollbackLaws.{rollback_missing, rollback_broken, rollback_done, all_logged, in_order, reversible}
use Rattle.plans.specs.Plans.{lacks}
use Rattle.decisions.specs.declared.todo.End.TheVariants.{Push, Undo}
use Rattle.decisions.specs.End.{todo, still_todo}
use Rattle.decisions.specs.Decided.{Does}
use Rattle.decisions.proofs.FitLaws.{nothing_fits, good, room_for}
use Rattle.decisions.proofs.DoesLaws.{calls}

-- ---- a new key

module _ (rs : Rows) (l : Log) (h : Head) (last : ℕ) (m : Sought) (g : bad (sizes_of rs l) h ≡ false) (owner amount : ℕ) where
  pub new_keys_full : h.count ≡ length rs.parents → Does rs l h last m (New owner amount) (still_todo (settled (refusal KEYS-FULL) h))
  unfolding call
  new_keys_full q = calls rs l h last m (New owner amount) g (refusal KEYS-FULL) (λ ms. rw (eq-eqb h.count (length rs.parents) q))

  module _ (d : h.count ≡ length rs.parents → ⊥) where
    pub new_log_full : lacks h.«open» h.used (entries l) 1 ≡ true → Does rs l h last m (New owner amount) (still_todo (settled (refusal LOG-FULL) h))
    unfolding call
    new_log_full f =
        calls rs l h last m (New owner amount) g (refusal LOG-FULL) (λ ms. rw (ne_eqb h.count (length rs.parents) d, f))

    pub new_done : lacks h.«open» h.used (entries l) 1 ≡ false → (o : Owner) → o ≡ owner_of owner → (a : Answer) → a ≡ found h.count 0
        → Does rs l h last m (New owner amount) (todo (settled a (head (h.count + 1) h.used h.«open»)) (Push h.count (value o amount)))
    unfolding call step
    new_done f o q a e =
        let key = h.count in
        let after = push (memory rs l h.«open» h.used) key (row key 0 (value o amount)) in
        let gd = good rs l h g in (
          λ ms p.
              let s = state_with h last ms in
              ap (λ (x : State). outcome a (table after.rows after.log x))
              (after_moved s a (head (key + 1) after.used h.«open») (omega arith))
              ∙ rw (g, ne_eqb h.count (length rs.parents) d, f, e, q),
          (
            in_rows rs key gd.level.crowns gd.level.amounts (omega (arith, gd.count, d)),
            λ b. let r = room_for rs l h g 1 f b in let k = gd.level.log in record { words = omega arith; limit = omega arith },
          ),
        )

-- ---- a key's value without a walk

module _ (rs : Rows) (l : Log) (h : Head) (last : ℕ) (m : Sought) (g : bad (sizes_of rs l) h ≡ false) (key : ℕ) where
  pub try_no_key : h.count ≤ key → Does rs l h last m (TryProbe key) (still_todo (settled (refusal NO-KEY) h))
  unfolding call
  try_no_key q = calls rs l h last m (TryProbe key) g (refusal NO-KEY) (λ ms. rw (le-leb h.count key q))

  module _ (k : key < h.count) (r : Row) (e : r ≡ row_at rs key) (a : Answer) where
    tried : a ≡ cond (eqb (row_at rs key).parent key) (held (value_of (row_at rs key))) (said false 0) → Does rs l h last m (TryProbe key) (still_todo (settled a h))
    unfolding call puts
    tried q =
        calls rs l h last m (TryProbe key) g a
        (λ ms. rw (lt-leb h.count key k, nothing_fits h.«open» h.used (entries l)) (ap (λ (x : Answer). outcome x (table rs l (state_with h last ms))) q))

    pub try_nothing : (r.parent ≡ key → ⊥) → a ≡ said false 0 → Does rs l h last m (TryProbe key) (still_todo (settled a h))
    try_nothing d q = tried (rw (ne_eqb (row_at rs key).parent key (λ x. d (ap (λ (y : Row). y.parent) e ∙ x))) q)

    pub try_value : r.parent ≡ key → (v : Value) → v ≡ value_of r → a ≡ held v → Does rs l h last m (TryProbe key) (still_todo (settled a h))
    try_value d v w q =
        tried
        (rw (eq-eqb (row_at rs key).parent key (sym (ap (λ (y : Row). y.parent) e) ∙ d))
        (q ∙ ap (λ (x : Value). held x) (w ∙ ap value_of e)))

-- ---- a rollback

module _ (rs : Rows) (l : Log) (h : Head) (last token : ℕ) (g : bad (sizes_of rs l) h ≡ false) where
  named : (m : Sought) (ms : List Mark) → mark_for (state_with h last ms) (Rollback token) ≡ m → latest (state_with h last ms) token ≡ m
  named m ms q = mark_for_few (state_with h last ms) (Rollback token) (good rs l h g).opened ∙ q

  back_still : (m : Sought) (n : ℕ)
      → ((ms : List Mark) → latest (state_with h last ms) token ≡ m
      → step (table rs l (state_with h last ms)) (Rollback token) ≡ refused n (table rs l (state_with h last ms)))
      → Does rs l h last m (Rollback token) (still_todo (settled (refusal n) h))
  back_still m n f = (
    λ ms q. ap (λ (s : State). outcome (refusal n) (table rs l s)) (after_kept (state_with h last ms) (refusal n)) ∙ sym (f ms (named m ms q)),
    tt,
  )

  pub back_missing : Does rs l h last None (Rollback token) (still_todo (settled (refusal NOT-INNERMOST) h))
  back_missing = back_still None NOT-INNERMOST (λ ms q. rollback_missing rs l h last ms token g q)

  module _ (m : Mark) where
    pub back_broken : broken h m l ≡ true → Does rs l h last (Some m) (Rollback token) (still_todo (settled (refusal BROKEN-TABLE) h))
    back_broken b = back_still (Some m) BROKEN-TABLE (λ ms q. rollback_broken rs l h last ms token g m q b)

    pub back_done : broken h m l ≡ false → (a : Answer) → a ≡ refusal DONE → (after : Head) → after ≡ rolled_back h m
        → Does rs l h last (Some m) (Rollback token) (todo (settled a after) (Undo h.used))
    back_done b a e after q =
        rw (e, q) (
          λ ms p.
              let s = state_with h last ms in
              ap (λ (x : State). outcome (refusal DONE) (table (undo rs (since l h m)) l x))
              (after_moved s (refusal DONE) (rolled_back h m) (omega arith))
              ∙ sym (rollback_done rs l h last ms token g m (named (Some m) ms p) b),
          (in_order rs l h g m b, all_logged rs l h g, reversible rs l h g m b),
        )
