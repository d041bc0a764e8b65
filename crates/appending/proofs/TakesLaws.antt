-- When a journal takes one segment more: what is appended says how many snapshots may be open before it. Assumes nothing.
use Rattle.std.specs.Prelude.{◌≡◌, ◌||◌, ◌&&◌, ◌∷◌, ◌++◌, ◌+◌, ◌*◌, ◌/◌, ◌≤◌, ◌<◌}
use Rattle.kit.specs.Names.{refl, sym, ap, ◌∙◌, Bool, true, false, not, List, [], ℕ, suc}
use Rattle.kit.specs.Names.{length, take, eqb, leb, ltb, arith, lt-ltb, le-ltb, ltb-true, ltb-false, leb-true, eqb-true}
use Rattle.std.proofs.lemmas.Bool.{and_parts}
use mathlib.Core.Bool.{and-false}
use Rattle.rules.specs.Rules.{WORD}
use Rattle.journal.specs.declared.entry.Entry.{Entry}
use Rattle.journal.specs.declared.entry.Entry.TheVariants.{EntryNew, EntryPost, EntryJoin, EntrySnapshot, EntryRollback, EntryCommit, NoEntry}
use Rattle.journal.specs.Numbers.{ENTRY-BYTES, SEGMENT}
use Rattle.journal.specs.Entry.{Bytes}
use Rattle.journal.specs.Journal.{Journal, no_journal, journal, journal_of, is_journal, valid}
use Rattle.journal.specs.Append.{segments_of, fills, entries_in, segment}
use Rattle.journal.proofs.ByteLaws.{count_entries}
use Rattle.journal.proofs.AppendLaws.{valid_with}
use Rattle.valid.specs.declared.window.Window.{Window}
use Rattle.valid.specs.Window.{Small, moved, narrow, narrowed}
use Rattle.valid.specs.Place.{between, segments_told, followed_by}
use Rattle.valid.proofs.PlaceLaws.{told_right, may_follow}
use Rattle.appending.specs.Takes.{takes, fills_by}

-- ---- the tests of lengths

module _ (long : ℕ) where
  abbrev count : ℕ
  count = long / ENTRY-BYTES

  pub record Filling : Type 0 where
    pub whole : long ≡ ENTRY-BYTES * count
    pub few : count ≤ SEGMENT

  pub filling : fills_by long ≡ true → Filling
  filling e =
      let few = and_parts (eqb long (ENTRY-BYTES * count) && leb 1 count) (leb count SEGMENT) e in
      let whole = and_parts (eqb long (ENTRY-BYTES * count)) (leb 1 count) few.0 in
      record { whole = eqb-true long (ENTRY-BYTES * count) whole.0; few = leb-true count SEGMENT few.1 }

-- ---- Bool

unless : (x y z : Bool) → y ≡ false → not (x || not y || not z) ≡ false
unless true y z e = refl
unless false y z e = rw e

without : (x y z : Bool) → z ≡ false → not (x || not y || not z) ≡ false
without true y z e = refl
without false true z e = rw e
without false false z e = refl

agrees : (x y z : Bool) → x ≡ false → y ≡ true → not (x || not y || not z) ≡ z
agrees x y true e f = rw (e, f)
agrees x y false e f = rw (e, f)

all_three : (x y z : Bool) → not (x || not y || not z) ≡ true → (x ≡ false) × (y ≡ true) × (z ≡ true)
all_three false true true e = (refl, refl, refl)
all_three false true false e = absurd (let z : ◌≡◌ {A = ℕ} 0 1 = cc in omega arith)
all_three false false z e = absurd (let z : ◌≡◌ {A = ℕ} 0 1 = cc in omega arith)
all_three true y z e = absurd (let z : ◌≡◌ {A = ℕ} 0 1 = cc in omega arith)

-- ---- the window before few entries

-- An entry moves each number by one at most, and what is none sets one to 33.
record Narrow (w : Window) (n : ℕ) : Type 0 where
  low : w.least ≤ n
  high : w.rise ≤ n + 33

moved_narrow : (w : Window) (n opens closes : ℕ) → opens ≤ 1 → closes ≤ 1 → Narrow w n → Narrow (moved opens closes w) (suc n)
moved_narrow w n opens closes o c h = record { low = omega (arith, h.low); high = omega (arith, h.high) }

entry_narrow : (e : Entry) (w : Window) (n : ℕ) → Narrow w n → Narrow (narrow e w) (suc n)
entry_narrow (EntryNew owner amount) w n = moved_narrow w n 0 0 (omega arith) (omega arith)
entry_narrow (EntryPost a owner amount) w n = moved_narrow w n 0 0 (omega arith) (omega arith)
entry_narrow (EntryJoin a b) w n = moved_narrow w n 0 0 (omega arith) (omega arith)
entry_narrow EntrySnapshot w n = moved_narrow w n 1 0 (omega arith) (omega arith)
entry_narrow EntryRollback w n = moved_narrow w n 0 1 (omega arith) (omega arith)
entry_narrow EntryCommit w n = moved_narrow w n 0 1 (omega arith) (omega arith)
entry_narrow NoEntry w n = λ h. record { low = omega arith; high = omega arith }

all_narrow : (es : List Entry) → Narrow (narrowed es (between 0 0)) (length es)
unfolding narrowed
all_narrow [] = record { low = omega arith; high = omega arith }
all_narrow (e ∷ es) = entry_narrow e (narrowed es (between 0 0)) (length es) (all_narrow es)

-- How many snapshots may be open before these bytes' entries: small numbers, where they fill a segment.
abbrev pub window : Bytes → Window
window entries = narrowed (entries_in entries) (between 0 0)

pub small : (entries : Bytes) → fills entries ≡ true → Small (window entries) 0
small entries f =
    let n = all_narrow (entries_in entries) in
    let count = count_entries (length entries / 24) entries 0 in
    let few = (filling (length entries) f).few in
    record { low = omega (arith, n.low, count, few); high = omega (arith, n.high, count, few) }

-- ---- bytes appended

module _ (buffer : Bytes) (used : ℕ) (entries : Bytes) where
  abbrev before : Bytes
  before = take used buffer

  abbrev told : ℕ
  told = segments_told before

  abbrev beyond : Bool
  beyond = ltb (length buffer) used

  abbrev with_it : Journal → Bool
  with_it j = fills entries && valid (before ++ segment (segments_of j) entries)

  pub past_end : length buffer < used → false ≡ takes buffer used entries
  past_end h = rw (lt-ltb (length buffer) used h)

  pub unfilled : fills entries ≡ false → false ≡ takes buffer used entries
  unfilled f = sym (without beyond (valid before) (with_it (journal_of before)) (rw f))

  module _ (inside : used ≤ length buffer) (f : fills entries ≡ true) where
    says : takes buffer used entries ≡ ltb told WORD && followed_by (window entries) (journal_of before)
    says = go (journal_of before) refl
      where
        go : (j : Journal) → journal_of before ≡ j → takes buffer used entries ≡ ltb told WORD && followed_by (window entries) (journal_of before)
        go no_journal e =
            unless beyond (valid before) (with_it (journal_of before)) (ap is_journal e)
            ∙ sym (ap (λ (j : Journal). ltb told WORD && followed_by (window entries) j) e ∙ and-false (ltb told WORD))
        go (journal n es) e =
            agrees beyond (valid before) (with_it (journal_of before)) (le-ltb (length buffer) used inside) (ap is_journal e)
            ∙ ap with_it e
            ∙ valid_with before entries n es e
            ∙ rw (f, may_follow before n es (entries_in entries) e, told_right before n es e)

    pub no_number : WORD ≤ told → false ≡ takes buffer used entries
    no_number h = sym (says ∙ rw (le-ltb told WORD h))

    pub judged_so : told < WORD → followed_by (window entries) (journal_of before) ≡ takes buffer used entries
    judged_so h = sym (says ∙ rw (lt-ltb told WORD h))

  -- ---- what is known once they are taken

  pub record Taken : Type 0 where
    pub inside : used ≤ length buffer
    pub filled : fills entries ≡ true
    pub numbered : told < WORD
    pub as_many : told ≡ segments_of (journal_of before)

  pub taken : takes buffer used entries ≡ true → Taken
  taken e =
      let a = all_three beyond (valid before) (with_it (journal_of before)) e in
      let inside = ltb-false (length buffer) used a.0 in
      let filled = (and_parts (fills entries) (valid (before ++ segment (segments_of (journal_of before)) entries)) a.2).0 in
      record {
        inside = inside;
        filled = filled;
        numbered = ltb-true told WORD (and_parts (ltb told WORD) (followed_by (window entries) (journal_of before)) (sym (says inside filled) ∙ e)).0;
        as_many = go (journal_of before) refl a.1;
      }
    where
      go : (j : Journal) → journal_of before ≡ j → is_journal (journal_of before) ≡ true → told ≡ segments_of (journal_of before)
      go no_journal q v = absurd (let z : false ≡ true = sym (ap is_journal q) ∙ v in let z : ◌≡◌ {A = ℕ} 0 1 = cc in omega arith)
      go (journal n es) q v = told_right before n es q ∙ sym (ap segments_of q)
