-- Laws of the window: it says how many snapshots may be open. Assumes nothing.
use Rattle.std.specs.Prelude.{◌≡◌, ◌&&◌, ◌∷◌, ◌++◌, ◌+◌, ◌*◌, ◌-◌, ◌≤◌, ◌<◌}
use Rattle.kit.specs.Names.{refl, sym, ap, ◌∙◌, Bool, true, false, List, [], ℕ, suc, length}
use Rattle.std.specs.Prelude.{◌↔◌}
use Rattle.kit.specs.Names.{leb, ltb, arith, dec_lt, dec_le, le-leb, lt-leb, lt-ltb, le-ltb, ltb-true, lt_of_not-le}
use Rattle.std.proofs.lemmas.Bool.{and_parts}
use mathlib.Core.Bool.{and-false, and_assoc}
use Rattle.rules.specs.Rules.{MAX-OPEN}
use Rattle.journal.specs.declared.entry.Entry.{Entry}
use Rattle.journal.specs.declared.entry.Entry.TheVariants.{EntryNew, EntryPost, EntryJoin, EntrySnapshot, EntryRollback, EntryCommit, NoEntry}
use Rattle.journal.specs.Entry.{Bytes, read_entry, entries_at}
use Rattle.journal.specs.Journal.{open_then, may_stand, orderly, open_in}
use Rattle.journal.proofs.ByteLaws.{entries_add}
use Rattle.valid.specs.declared.window.Window.{Window}
use Rattle.valid.specs.Window.{Small, admits, moved, narrow, narrowed}

-- ---- the window's numbers stay small: an entry adds one at most, and has 24 bytes

module _ (w : Window) (m : ℕ) (i : Small w m) where
  stays_small : (opens closes : ℕ) → opens ≤ 1 → closes ≤ 1 → Small (moved opens closes w) (m + 24)
  stays_small opens closes o c = record { low = omega (arith, i.low); high = omega (arith, i.high) }

  pub small_narrow : (e : Entry) → Small (narrow e w) (m + 24)
  small_narrow (EntryNew owner amount) = stays_small 0 0 (omega arith) (omega arith)
  small_narrow (EntryPost a owner amount) = stays_small 0 0 (omega arith) (omega arith)
  small_narrow (EntryJoin a b) = stays_small 0 0 (omega arith) (omega arith)
  small_narrow EntrySnapshot = stays_small 1 0 (omega arith) (omega arith)
  small_narrow EntryRollback = stays_small 0 1 (omega arith) (omega arith)
  small_narrow EntryCommit = stays_small 0 1 (omega arith) (omega arith)
  small_narrow NoEntry = record { low = omega arith; high = omega arith }

pub small_more : (w : Window) (m n : ℕ) → m ≤ n → Small w m → Small w n
small_more w m n h i = record { low = omega (arith, i.low); high = omega (arith, i.high) }

pub small_narrowed : (es : List Entry) (w : Window) (m : ℕ) → Small w m → Small (narrowed es w) (m + 24 * length es)
unfolding narrowed
small_narrowed [] w m i = small_more w m (m + 24 * 0) (omega arith) i
small_narrowed (e ∷ es) w m i =
    let rest = m + 24 * length es in
    small_more (narrow e (narrowed es w)) (rest + 24) (m + 24 * suc (length es)) (omega arith)
    (small_narrow (narrowed es w) rest (small_narrowed es w m i) e)

-- ---- what a window admits

admits_yes : (w : Window) (n : ℕ) → w.least ≤ n → n + w.rise ≤ MAX-OPEN → admits w n ≡ true
admits_yes w n h k = rw (le-leb w.least n h, le-leb (n + w.rise) MAX-OPEN k)

admits_low : (w : Window) (n : ℕ) → n < w.least → admits w n ≡ false
admits_low w n h = rw (lt-leb w.least n h)

admits_high : (w : Window) (n : ℕ) → MAX-OPEN < n + w.rise → admits w n ≡ false
admits_high w n h = rw (lt-leb (n + w.rise) MAX-OPEN h, and-false (leb w.least n))

-- Two windows that admit the same, at two numbers.
admits_same : (v w : Window) (n m : ℕ) → (v.least ≤ n ↔ w.least ≤ m) → (n + v.rise ≤ MAX-OPEN ↔ m + w.rise ≤ MAX-OPEN)
    → admits v n ≡ admits w m
admits_same v w n m low high =
    elim (dec_le w.least m) [
      | yes h ↦
          elim (dec_le (m + w.rise) MAX-OPEN) [
            | yes k ↦ admits_yes v n (low.1 h) (high.1 k) ∙ sym (admits_yes w m h k)
            | no k ↦ admits_high v n (lt_of_not-le (λ x. k (high.0 x))) ∙ sym (admits_high w m (lt_of_not-le k))
          ]
      | no h ↦ admits_low v n (lt_of_not-le (λ x. h (low.0 x))) ∙ sym (admits_low w m (lt_of_not-le h))
    ]

-- ---- before an entry

module _ (w : Window) where
  stays : (n : ℕ) → admits (moved 0 0 w) n ≡ admits w n
  stays n = admits_same (moved 0 0 w) w n n (omega arith) (omega arith)

  opens : (n : ℕ) → admits (moved 1 0 w) n ≡ ltb n MAX-OPEN && admits w (suc n)
  opens n =
      elim (dec_lt n MAX-OPEN) [
        | yes k ↦ rw (lt-ltb n MAX-OPEN k) (admits_same (moved 1 0 w) w n (suc n) (omega arith) (omega arith))
        | no k ↦ rw (le-ltb n MAX-OPEN (omega arith)) (admits_high (moved 1 0 w) n (omega arith))
      ]

  closes : (n : ℕ) → n ≤ MAX-OPEN → admits (moved 0 1 w) n ≡ ltb 0 n && admits w (n - 1)
  closes n h =
      elim (dec_lt 0 n) [
        | yes k ↦ rw (lt-ltb 0 n k) (admits_same (moved 0 1 w) w n (n - 1) (omega arith) (omega arith))
        | no k ↦ rw (le-ltb 0 n (omega arith)) (admits_low (moved 0 1 w) n (omega arith))
      ]

  narrow_admits : (e : Entry) (n : ℕ) → n ≤ MAX-OPEN → admits (narrow e w) n ≡ may_stand n e && admits w (open_then n e)
  narrow_admits (EntryNew owner amount) n h = stays n
  narrow_admits (EntryPost a owner amount) n h = stays n
  narrow_admits (EntryJoin a b) n h = stays n
  narrow_admits EntrySnapshot n h = opens n
  narrow_admits EntryRollback n h = closes n h
  narrow_admits EntryCommit n h = closes n h
  narrow_admits NoEntry n h = admits_high (record { least = 0; rise = 33 }) n (omega arith)

-- At most 32 stay open.
pub open_after_lem : (e : Entry) (n : ℕ) → n ≤ MAX-OPEN → may_stand n e ≡ true → open_then n e ≤ MAX-OPEN
open_after_lem (EntryNew owner amount) n h m = h
open_after_lem (EntryPost a owner amount) n h m = h
open_after_lem (EntryJoin a b) n h m = h
open_after_lem EntrySnapshot n h m = ltb-true n MAX-OPEN m
open_after_lem EntryRollback n h m = omega arith
open_after_lem EntryCommit n h m = omega arith
open_after_lem NoEntry n h m = h

pub open_in_lem : (es : List Entry) (n : ℕ) → n ≤ MAX-OPEN → orderly n es ≡ true → open_in n es ≤ MAX-OPEN
unfolding orderly open_in
open_in_lem [] n h o = h
open_in_lem (e ∷ es) n h o =
    let b = and_parts (may_stand n e) (orderly (open_then n e) es) o in
    open_in_lem es (open_then n e) (open_after_lem e n h b.0) b.1

-- ---- before entries one after the other

pub narrowed_admits : (es : List Entry) (w : Window) (n : ℕ) → n ≤ MAX-OPEN
    → admits (narrowed es w) n ≡ orderly n es && admits w (open_in n es)
unfolding narrowed orderly open_in
narrowed_admits [] w n h = refl
narrowed_admits (e ∷ es) w n h =
    let o = orderly (open_then n e) es in
    let rest = admits w (open_in (open_then n e) es) in
    narrow_admits (narrowed es w) e n h
    ∙ go (may_stand n e) (λ m. narrowed_admits es w (open_then n e) (open_after_lem e n h m))
    ∙ sym (and_assoc (may_stand n e) o rest)
  where
    go : (b : Bool) → (b ≡ true → admits (narrowed es w) (open_then n e) ≡ orderly (open_then n e) es && admits w (open_in (open_then n e) es))
        → b && admits (narrowed es w) (open_then n e) ≡ b && (orderly (open_then n e) es && admits w (open_in (open_then n e) es))
    go true k = k refl
    go false k = refl

narrowed_last : (es : List Entry) (e : Entry) (w : Window) → narrowed (es ++ (e ∷ [])) w ≡ narrowed es (narrow e w)
unfolding narrowed
narrowed_last [] e w = refl
narrowed_last (d ∷ es) e w = ap (narrow d) (narrowed_last es e w)

-- One entry more, from the last to the first.
narrowed_entries : (left : ℕ) (bs : Bytes) (start : ℕ) (w : Window)
    → narrowed (entries_at (left + 1) bs start) w ≡ narrowed (entries_at left bs start) (narrow (read_entry bs (start + left * 24)) w)
unfolding entries_at
narrowed_entries left bs start w =
    let at : start + 24 * left ≡ start + left * 24 = omega arith in
    rw (entries_add left 1 bs start, at) (narrowed_last (entries_at left bs start) (read_entry bs (start + left * 24)) w)

-- Of the window that all entries leave, so many are still to be taken in.
module _ (bs : Bytes) (start : ℕ) (all now : Window) (left : ℕ) (so_far : all ≡ narrowed (entries_at left bs start) now) where
  pub next_entry : {next : Window} → 0 < left → next ≡ narrow (read_entry bs (start + (left - 1) * 24)) now
      → all ≡ narrowed (entries_at (left - 1) bs start) next
  next_entry h e =
      let one_more : left ≡ left - 1 + 1 = omega arith in
      so_far
      ∙ ap (λ n. narrowed (entries_at n bs start) now) one_more
      ∙ narrowed_entries (left - 1) bs start now
      ∙ ap (narrowed (entries_at (left - 1) bs start)) (sym e)

  pub no_entries : left ≤ 0 → now ≡ all
  unfolding entries_at narrowed
  no_entries h = let none : left ≡ 0 = omega arith in sym (so_far ∙ ap (λ n. narrowed (entries_at n bs start) now) none)
