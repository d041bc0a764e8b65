-- What a rollback is at each of its ends, and what its functions ask of their callers. Assumes nothing.
use Rattle.std.specs.Prelude.{◌≡◌, ◌≤◌, None, Some}
use Rattle.kit.specs.Names.{refl, Bool, true, false, cond, not, List, ℕ, ltb, arith, ltb-false, not-false}
use Rattle.std.proofs.lemmas.Bool.{or_parts}
use Rattle.rules.specs.declared.call.Call.TheVariants.{Rollback}
use Rattle.rules.specs.Rules.{Head, Mark, DONE, NOT-INNERMOST, BROKEN-TABLE, Rows, Log, table, entries, with_head, refusal, not_innermost, innermost, unfit, since}
use Rattle.rules.specs.Rules.{undoable, undo, rolled_back, outcome, refused, sizes_of, bad, call, step}
use Rattle.rules.proofs.StateLaws.{Good, bad_good}
use Rattle.parts.proofs.BoundLaws.{in_rows, in_log}
use Rattle.undo_log.specs.Settled.{state_with, latest}
use Rattle.rollback.specs.Since.{Logged, Reversible, broken}
use Rattle.rollback.proofs.UndoLaws.{undoable_rows}

-- ---- what is refused before anything is undone

module _ (h : Head) (m : Mark) (l : Log) where
  pub broken_unfit : unfit h m ≡ true → true ≡ broken h m l
  unfolding broken
  broken_unfit u = rw u

  pub broken_fit : unfit h m ≡ false → (b : Bool) → b ≡ undoable m.keys h.count (since l h m) → not b ≡ broken h m l
  unfolding broken
  broken_fit u b q = rw (u, q)

  pub fit : unfit h m ≡ false → m.log_len ≤ h.used
  fit u = ltb-false h.used m.log_len (or_parts (ltb h.used m.log_len) (ltb h.count m.keys) u).0

  halves : broken h m l ≡ false → (unfit h m ≡ false) × (not (undoable m.keys h.count (since l h m)) ≡ false)
  unfolding broken
  halves q = or_parts (unfit h m) (not (undoable m.keys h.count (since l h m))) q

-- ---- a table that is not bad: what `broken` and `undo` require

module _ (rs : Rows) (lg : Log) (h : Head) (g : bad (sizes_of rs lg) h ≡ false) where
  good : Good (sizes_of rs lg) h
  good = bad_good (sizes_of rs lg) h g

  pub all_logged : Logged h.used lg
  all_logged i q = in_log lg i (entries lg) (omega (arith, good)) (omega (arith, good)) (omega (arith, good, q))

  module _ (m : Mark) (q : broken h m lg ≡ false) where
    pub in_order : m.log_len ≤ h.used
    in_order = fit h m lg (halves h m lg q).0

    pub reversible : Reversible rs (since lg h m)
    reversible =
        undoable_rows rs m.keys h.count (since lg h m)
        (λ i p. in_rows rs i good.level.crowns good.level.amounts (omega (arith, good.count, p)))
        (not-false (undoable m.keys h.count (since lg h m)) (halves h m lg q).1)

-- ---- the ends

missing : (b : Bool) (i : Mark) → cond b None (Some i) ≡ None → b ≡ true
missing true i e = refl
missing false i e = cc

held : (b : Bool) (i m : Mark) → cond b None (Some i) ≡ Some m → (b ≡ false) × (i ≡ m)
held true i m e = (cc, cc)
held false i m e = (refl, cc)

module _ (rs : Rows) (lg : Log) (h : Head) (l : ℕ) (ms : List Mark) (token : ℕ) (g : bad (sizes_of rs lg) h ≡ false) where
  pub rollback_missing : latest (state_with h l ms) token ≡ None
      → step (table rs lg (state_with h l ms)) (Rollback token) ≡ refused NOT-INNERMOST (table rs lg (state_with h l ms))
  unfolding step call
  rollback_missing e = let s = state_with h l ms in rw (g, missing (not_innermost s token) (innermost s) e)

  module _ (m : Mark) (e : latest (state_with h l ms) token ≡ Some m) where
    found : (not_innermost (state_with h l ms) token ≡ false) × (innermost (state_with h l ms) ≡ m)
    found = let s = state_with h l ms in held (not_innermost s token) (innermost s) m e

    pub rollback_broken : broken h m lg ≡ true
        → step (table rs lg (state_with h l ms)) (Rollback token) ≡ refused BROKEN-TABLE (table rs lg (state_with h l ms))
    unfolding step call broken
    rollback_broken b = rw (g, found.0, found.1, b)

    pub rollback_done : broken h m lg ≡ false
        → step (table rs lg (state_with h l ms)) (Rollback token)
        ≡ outcome (refusal DONE) (table (undo rs (since lg h m)) lg (with_head (state_with h l ms) (rolled_back h m)))
    unfolding step call broken
    rollback_done b = rw (g, found.0, found.1, b)
