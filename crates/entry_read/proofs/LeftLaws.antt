-- What is left of a valid journal, place by place. Assumes nothing.
use Rattle.std.proofs.lemmas.Bool.{and_parts}
use Rattle.std.specs.Prelude.{◌≡◌, ◌∷◌, ◌+◌, ◌≤◌, ◌<◌}
use Rattle.kit.specs.Names.{refl, sym, ap, ◌∙◌, true, true≢false, subst, List, [], ℕ, length, arith}
use Rattle.journal.specs.declared.entry.Entry.{Entry}
use Rattle.journal.specs.declared.entry.Entry.TheVariants.{EntryNew, EntryPost, EntryJoin, EntrySnapshot, EntryRollback, EntryCommit, NoEntry}
use Rattle.journal.specs.Numbers.{ENTRY-BYTES, TRAILER-BYTES}
use Rattle.journal.specs.Entry.{Bytes, little_at, entry_of, read_entry}
use Rattle.journal.specs.Journal.{Journal, no_journal, journal, open_then, may_stand, orderly, journal_of, is_journal, valid}
use Rattle.journal.specs.Append.{entries_of}
use Rattle.journal.specs.Forward.{Onward, finish, entry, trailer}
use Rattle.journal.proofs.ReadLaws.{journal_chain}
use Rattle.journal.proofs.ForwardLaws.{onward_forward, journal_onward, NextEntry, at_entry, at_trailer, at_end, at_least_trailer}
use Rattle.entries.specs.Most.{is_entry, made_of}
use Rattle.entries.proofs.KindLaws.{Kind, new, post, join, snapshot, rollback, commit, none, kind_of_lem, no_entry, made}
use Rattle.entry_read.specs.Left.{entries_from, entry_kind, Left}

stands_entry : (n : ℕ) (e : Entry) → may_stand n e ≡ true → is_entry e ≡ true
stands_entry n (EntryNew owner amount) h = refl
stands_entry n (EntryPost a owner amount) h = refl
stands_entry n (EntryJoin a b) h = refl
stands_entry n EntrySnapshot h = refl
stands_entry n EntryRollback h = refl
stands_entry n EntryCommit h = refl
stands_entry n NoEntry h = absurd (true≢false (sym h))

-- ---- an entry begins with its kind

kind_said : {kind : ℕ} (a b owner amount : ℕ) → Kind kind → is_entry (entry_of kind a b owner amount) ≡ true
    → kind ≡ entry_kind (made_of kind a b owner amount)
kind_said a b owner amount new h = refl
kind_said a b owner amount post h = refl
kind_said a b owner amount join h = refl
kind_said a b owner amount snapshot h = refl
kind_said a b owner amount rollback h = refl
kind_said a b owner amount commit h = refl
kind_said a b owner amount (none {k} n1 n2 n3 n4 n5 n6) h =
    absurd (true≢false (sym h ∙ ap is_entry (no_entry k a b owner amount n1 n2 n3 n4 n5 n6)))

pub kind_here : (bs : Bytes) (at : ℕ) → is_entry (read_entry bs at) ≡ true → little_at 4 bs at ≡ entry_kind (read_entry bs at)
kind_here bs at h =
    let kind = little_at 4 bs at in
    let a = little_at 4 bs (at + 4) in
    let b = little_at 4 bs (at + 8) in
    let owner = little_at 4 bs (at + 12) in
    let amount = little_at 8 bs (at + 16) in
    kind_said a b owner amount (kind_of_lem kind) h ∙ ap entry_kind (made kind a b owner amount h)

-- What a place leaves, however its entries are given.
pub record Leaves (bs : Bytes) (at : ℕ) (es : List Entry) : Type 0 where
  pub left : Left bs at
  pub same : entries_from bs at ≡ es

leaves : (bs : Bytes) (at n : ℕ) (es : List Entry) → Onward bs (length bs) at es → orderly n es ≡ true → Leaves bs at es
leaves bs at n es w o =
    let same : entries_from bs at ≡ es = onward_forward bs (length bs) w (length bs) (omega arith) in
    record {
      left = record { opened = n; onward = subst (λ xs. Onward bs (length bs) at xs) (sym same) w; ordered = ap (orderly n) same ∙ o };
      same = same;
    }

pub all_left : (bs : Bytes) → valid bs ≡ true → Leaves bs 0 (entries_of (journal_of bs))
all_left bs v = go (journal_of bs) refl v
  where
    go : (j : Journal) → journal_of bs ≡ j → is_journal j ≡ true → Leaves bs 0 (entries_of j)
    go no_journal e h = absurd (true≢false (sym h))
    go (journal n es) e h = leaves bs 0 0 es (journal_onward bs n es e) (journal_chain bs n es e).1

few : {bs : Bytes} {end at : ℕ} {es : List Entry} → Onward bs end at es → at + length es ≤ end
few finish = omega arith
few (entry r k w) = omega (arith, few w)
few (trailer r k w) = omega (arith, few w)

module _ (bs : Bytes) (at : ℕ) (l : Left bs at) where
  pub few_left : length (entries_from bs at) ≤ length bs
  few_left = omega (arith, few l.onward)

  module _ (i : at < length bs) where
    pub room_here : at + TRAILER-BYTES ≤ length bs
    room_here = at_least_trailer bs l.onward i

    pub past_trailer : ENTRY-BYTES ≤ little_at 4 bs at → Leaves bs (at + TRAILER-BYTES) (entries_from bs at)
    past_trailer k = leaves bs (at + TRAILER-BYTES) l.opened (entries_from bs at) (at_trailer bs l.onward i k).1 l.ordered

    module _ (k : little_at 4 bs at < ENTRY-BYTES) where
      next : NextEntry bs (length bs) at (entries_from bs at)
      next = at_entry bs l.onward i k

      pub entry_room : at + ENTRY-BYTES ≤ length bs
      entry_room = next.room

      parts : (may_stand l.opened (read_entry bs at) ≡ true) × (orderly (open_then l.opened (read_entry bs at)) next.rest ≡ true)
      unfolding orderly
      parts =
          let e = read_entry bs at in
          and_parts (may_stand l.opened e) (orderly (open_then l.opened e) next.rest) (sym (ap (orderly l.opened) next.first) ∙ l.ordered)

      pub entry_here : is_entry (read_entry bs at) ≡ true
      entry_here = stands_entry l.opened (read_entry bs at) parts.0

      after : Leaves bs (at + ENTRY-BYTES) next.rest
      after = leaves bs (at + ENTRY-BYTES) (open_then l.opened (read_entry bs at)) next.rest next.onward parts.1

      pub left_after : Left bs (at + ENTRY-BYTES)
      left_after = after.left

      pub first_left : entries_from bs at ≡ read_entry bs at ∷ entries_from bs (at + ENTRY-BYTES)
      first_left = next.first ∙ ap (λ es. read_entry bs at ∷ es) (sym after.same)

  pub none_left : length bs ≤ at → entries_from bs at ≡ []
  none_left i = at_end bs l.onward i
