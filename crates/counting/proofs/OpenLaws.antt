-- A valid journal gone through from the front leaves as many snapshots open as its entries do. Assumes nothing.
use Rattle.std.proofs.lemmas.Bool.{and_parts}
use Rattle.std.specs.Prelude.{◌≡◌, ◌&&◌, ◌∷◌}
use Rattle.kit.specs.Names.{arith, refl, sym, ap, ◌∙◌, Bool, true, true≢false, List, [], map, ℕ}
use Rattle.journal.specs.declared.entry.Entry.{Entry}
use Rattle.journal.specs.declared.entry.Entry.TheVariants.{EntryNew, EntryPost, EntryJoin, EntrySnapshot, EntryRollback, EntryCommit, NoEntry}
use Rattle.journal.specs.Entry.{Bytes}
use Rattle.journal.specs.Journal.{Journal, no_journal, journal, open_then, may_stand, orderly, open_in, journal_of, is_journal, valid}
use Rattle.journal.specs.Append.{segments_of, entries_of}
use Rattle.journal.proofs.ReadLaws.{journal_chain}
use Rattle.valid.specs.Place.{segments_told}
use Rattle.valid.proofs.PlaceLaws.{told_right}
use Rattle.entry_read.specs.Left.{entry_kind}
use Rattle.counting.specs.Counted.{open_past, may_pass, open_at_end}

-- ---- by kinds

may_same : (n : ℕ) (e : Entry) → may_stand n e ≡ true → may_pass n (entry_kind e) ≡ true
may_same n (EntryNew owner amount) h = refl
may_same n (EntryPost a owner amount) h = refl
may_same n (EntryJoin a b) h = refl
may_same n EntrySnapshot h = h
may_same n EntryRollback h = h
may_same n EntryCommit h = h
may_same n NoEntry h = refl

open_same : (n : ℕ) (e : Entry) → open_then n e ≡ open_past n (entry_kind e)
open_same n (EntryNew owner amount) = omega arith
open_same n (EntryPost a owner amount) = omega arith
open_same n (EntryJoin a b) = omega arith
open_same n EntrySnapshot = omega arith
open_same n EntryRollback = omega arith
open_same n EntryCommit = omega arith
open_same n NoEntry = omega arith

unfoldable pub ordered_by : ℕ → List ℕ → Bool
ordered_by n [] = true
ordered_by n (k ∷ ks) = may_pass n k && ordered_by (open_past n k) ks

unfoldable pub open_by : ℕ → List ℕ → ℕ
open_by n [] = n
open_by n (k ∷ ks) = open_by (open_past n k) ks

ordered_same : (es : List Entry) (n : ℕ) → orderly n es ≡ true → ordered_by n (map entry_kind es) ≡ true
unfolding orderly ordered_by
ordered_same [] n h = refl
ordered_same (e ∷ es) n h =
    let p = and_parts (may_stand n e) (orderly (open_then n e) es) h in
    rw (may_same n e p.0, ← open_same n e) (ordered_same es (open_then n e) p.1)

opened_same : (es : List Entry) (n : ℕ) → open_by n (map entry_kind es) ≡ open_in n es
unfolding open_in open_by
opened_same [] n = refl
opened_same (e ∷ es) n = ap (λ (m : ℕ). open_by m (map entry_kind es)) (sym (open_same n e)) ∙ opened_same es (open_then n e)

-- ---- the kinds that are left

pub record Counting (bs : Bytes) (rest : List ℕ) (n : ℕ) : Type 0 where
  pub ordered : ordered_by n rest ≡ true
  pub same : open_by n rest ≡ open_at_end bs

pub counting_starts : (bs : Bytes) {rest : List ℕ} → valid bs ≡ true → rest ≡ map entry_kind (entries_of (journal_of bs)) → Counting bs rest 0
counting_starts bs {rest} v all =
    let es = entries_of (journal_of bs) in
    record {
      ordered = ap (ordered_by 0) all ∙ ordered_same es 0 (go (journal_of bs) refl v);
      same = ap (open_by 0) all ∙ opened_same es 0;
    }
  where
    go : (j : Journal) → journal_of bs ≡ j → is_journal j ≡ true → orderly 0 (entries_of j) ≡ true
    go no_journal e h = absurd (true≢false (sym h))
    go (journal n es) e h = (journal_chain bs n es e).1

module _ (bs : Bytes) {rest : List ℕ} (n : ℕ) (g : Counting bs rest n) where
  module _ {kind : ℕ} {others : List ℕ} (first : rest ≡ kind ∷ others) where
    parts : (may_pass n kind ≡ true) × (ordered_by (open_past n kind) others ≡ true)
    unfolding ordered_by
    parts = and_parts (may_pass n kind) (ordered_by (open_past n kind) others) (sym (ap (ordered_by n) first) ∙ g.ordered)

    pub stands_here : may_pass n kind ≡ true
    stands_here = parts.0

    pub counting_on : {m : ℕ} → m ≡ open_past n kind → Counting bs others m
    unfolding open_by
    counting_on {m} q = rw q record { ordered = parts.1; same = ap (open_by n) (sym first) ∙ g.same }

  pub counting_ends : rest ≡ [] → n ≡ open_at_end bs
  unfolding open_by
  counting_ends none = ap (open_by n) (sym none) ∙ g.same

-- ---- how many segments

pub segments_counted : (bs : Bytes) → valid bs ≡ true → segments_told bs ≡ segments_of (journal_of bs)
segments_counted bs v = go (journal_of bs) refl v
  where
    go : (j : Journal) → journal_of bs ≡ j → is_journal j ≡ true → segments_told bs ≡ segments_of (journal_of bs)
    go no_journal e h = absurd (true≢false (sym h))
    go (journal n es) e h = told_right bs n es e ∙ ap segments_of (sym e)
