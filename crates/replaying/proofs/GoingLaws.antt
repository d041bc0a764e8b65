-- What is left of a valid journal leads to the same end. Assumes nothing.
use Rattle.std.specs.Prelude.{◌≡◌, ◌∷◌, ◌+◌, ◌≤◌}
use Rattle.kit.specs.Names.{refl, sym, ap, ◌∙◌, true, false, true≢false, List, [], ℕ, suc, length, arith}
use Rattle.kit.specs.Names.{eqb, eq-eqb, ne_eqb}
use Rattle.rules.specs.Rules.{Answer, DONE, Table, Outcome, outcome, step}
use Rattle.journal.specs.declared.entry.Entry.{Entry}
use Rattle.journal.specs.Entry.{Bytes}
use Rattle.journal.specs.Journal.{Journal, no_journal, journal, journal_of, is_journal, valid}
use Rattle.journal.specs.Append.{entries_of}
use Rattle.journal.specs.Replay.{call_for, Replayed, replay_from, replay_of, replay_bytes}
use Rattle.replaying.specs.Ended.{replayed_by}

-- ---- the entries that are left

pub record Going (first : Replayed) (most place : ℕ) (rest : List Entry) (t : Table) : Type 0 where
  pub same : replay_from place t rest ≡ first
  pub pace : place + length rest ≤ most

module _ (first : Replayed) (most place : ℕ) {rest : List Entry} (t : Table) (g : Going first most place rest t) where
  module _ {entry : Entry} {others : List Entry} (front : rest ≡ entry ∷ others) where
    pub counts_on : place + 1 ≤ most
    counts_on = omega (arith, g.pace, ap length front)

    module _ (t' : Table) (a : Answer) (q : outcome a t' ≡ step t (call_for t.state entry)) where
      at_first : replay_from place t (entry ∷ others) ≡ first
      at_first = ap (replay_from place t) (sym front) ∙ g.same

      pub going_stops : (a.no ≡ DONE → ⊥) → replayed_by a.no place t' ≡ first
      unfolding replay_from
      going_stops n =
          let z : eqb (step t (call_for t.state entry)).answer.no DONE ≡ false =
          ap (λ (o : Outcome). eqb o.answer.no DONE) (sym q) ∙ ne_eqb a.no DONE n in
          let w = rw z at at_first in
          ap (λ (o : Outcome). replayed_by o.answer.no place o.table) q ∙ w

      pub going_on : a.no ≡ DONE → Going first most (place + 1) others t'
      unfolding replay_from
      going_on d =
          let next_place : place + 1 ≡ suc place = omega arith in
          let z : eqb (step t (call_for t.state entry)).answer.no DONE ≡ true =
          ap (λ (o : Outcome). eqb o.answer.no DONE) (sym q) ∙ eq-eqb a.no DONE d in
          let w = rw z at at_first in
          rw next_place record {
            same = ap (λ (o : Outcome). replay_from (suc place) o.table others) q ∙ w;
            pace = omega (arith, g.pace, ap length front);
          }

  pub going_ends : rest ≡ [] → replayed_by DONE place t ≡ first
  unfolding replay_from
  going_ends none = ap (replay_from place t) (sym none) ∙ g.same

pub going_starts : (bs : Bytes) (t : Table) {rest : List Entry} → valid bs ≡ true → rest ≡ entries_of (journal_of bs) → length rest ≤ length bs
    → Going (replay_bytes bs t) (length bs) 0 rest t
going_starts bs t v all few = record { same = ap (replay_from 0 t) all ∙ go (journal_of bs) v; pace = omega (arith, few) }
  where
    go : (j : Journal) → is_journal j ≡ true → replay_from 0 t (entries_of j) ≡ replay_of j t
    go no_journal h = absurd (true≢false (sym h))
    go (journal n es) h = refl
